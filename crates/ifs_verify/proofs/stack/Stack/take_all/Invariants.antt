use Rattle.std.proofs.Common.{◌≡◌, ◌≤◌, length, take, reverse}
use Rattle.ifs_base.specs.Kinds.{without}
use Rattle.ifs_verify.proofs.stack.Stack.take_all.Given as goal

abbrev pub invariant-loop-left : goal.invariant-loop-left
invariant-loop-left l = record {
  within : l.left ≤ length l.kinds;
  short : length l.self ≤ length l.fn.self;
  still : without (reverse (take l.left l.kinds)) l.self ≡ without (reverse l.kinds) l.fn.self;
}

abbrev pub decreases-loop-left : goal.decreases-loop-left
decreases-loop-left l = l.left
