-- The tests so far are appended.
use Rattle.std.proofs.Common.{◌≡◌, take}
use Rattle.ifs_gen.specs.PlainCode.{held_code}
use Rattle.ifs_gen.proofs.routines.body_routine.Given as goal

abbrev pub invariant-loop-test : goal.invariant-loop-test
invariant-loop-test l = l.code.items ≡ held_code 0 (take l.test-index l.tests)
