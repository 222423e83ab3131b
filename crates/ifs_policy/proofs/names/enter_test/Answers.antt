-- The entry is the test of the command and the period.
use Rattle.std.proofs.Common.{subst}
use Rattle.ifs_policy.specs.declared.tables.ExternalTest.{ExternalTest}
use Rattle.ifs_policy.specs.Tables.{test_eq}
use Rattle.ifs_policy.specs.inner.Entries.{Enters}
use Rattle.ifs_policy.proofs.names.enter_test.Goals as goal

pub returns : goal.returns
returns c =
    subst (λ (test : ExternalTest). Enters test_eq 64 test c.args.command.now c.args.table.now c.enter.result c.enter.new.table) c.in_ok-entry.ensures c.enter.ensures
