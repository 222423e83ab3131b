use Rattle.std.proofs.Common.{◌≡◌, ◌++◌, take, reverse}
use Rattle.ifs_verify.proofs.stack.Stack.push_all.Given as goal

abbrev pub invariant-loop-index : goal.invariant-loop-index
invariant-loop-index l = l.self ≡ reverse (take l.index l.kinds) ++ l.fn.self
