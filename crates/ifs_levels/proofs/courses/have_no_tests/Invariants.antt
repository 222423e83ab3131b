-- Whether the rest of the parts have none says whether all do.
use Rattle.std.proofs.Common.{◌≡◌, drop}
use Rattle.ifs_levels.specs.Outcomes.{have_no_tests}
use Rattle.ifs_levels.proofs.courses.have_no_tests.Given as goal

abbrev pub invariant-loop-part : goal.invariant-loop-part
invariant-loop-part l = have_no_tests (drop l.part-index l.states) ≡ have_no_tests l.states
