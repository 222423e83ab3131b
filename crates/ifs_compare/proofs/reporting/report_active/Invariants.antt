-- What is said so far is so.
use Rattle.ifs_compare.specs.inner.Reporting.{Differ, IsMore}
use Rattle.ifs_compare.proofs.reporting.report_active.Given as goal

abbrev pub invariant-loop-index : goal.invariant-loop-index
invariant-loop-index l = IsMore (Differ l.case) l.fn.differences.items l.differences.items
