-- What is said so far is so.
use Rattle.ifs_compare.specs.inner.Reporting.{IsTold}
use Rattle.ifs_compare.proofs.reporting.report_states.Given as goal

abbrev pub invariant-loop-index : goal.invariant-loop-index
invariant-loop-index l = IsTold l.case l.fn.found l.found
