-- One test after the other.
use Rattle.ifs_compare.specs.inner.Reporting.{Differ}
use Rattle.ifs_compare.proofs.Told.{more_twice}
use Rattle.ifs_compare.proofs.reporting.report_active.Goals as goal

pub loop-index-preserved : goal.loop-index-preserved
loop-index-preserved c =
    more_twice (Differ c.args.case.now) c.args.differences.now.items c.loop-index.differences.items c.report_active_test.new.differences.items c.loop-index.invariant c.in_ok-report_active_test.ensures
