-- The jumps so far lead to the end.
use Rattle.std.proofs.Common.{◌≡◌, ◌++◌, List, length, take, drop}
use Rattle.ifs_base.specs.declared.ids.TestId.{TestId}
use Rattle.ifs_base.specs.declared.op.Op.{Op}
use Rattle.ifs_gen.specs.PlainCode.{held_code}
use Rattle.ifs_gen.proofs.routines.set_held.Given as goal

abbrev pub invariant-loop-index : goal.invariant-loop-index
invariant-loop-index l = record {
  long : length l.code.items ≡ length l.initial.code.items;
  set : (tests : List TestId) (rest : List Op) → l.count ≡ length tests → l.initial.code.items ≡ held_code 0 tests ++ rest
      → l.code.items ≡ held_code (length l.initial.code.items) (take l.index tests) ++ (held_code 0 (drop l.index tests) ++ rest);
}
