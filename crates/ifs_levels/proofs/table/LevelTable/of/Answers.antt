-- The parts are those that were checked.
use Rattle.std.proofs.Common.{sym, subst}
use Rattle.ifs_levels.specs.Rows.{HasAll}
use Rattle.ifs_levels.proofs.Tables.{same_parts}
use Rattle.ifs_levels.proofs.table.LevelTable.of.Goals as goal

pub invariant_of-result : goal.invariant_of-result
invariant_of-result c =
    subst HasAll
    (same_parts c.args.outcomes.now c.args.keeps c.args.meter.now c.in_ok-copied.field-0.items c.args.firsts.now c.in_ok-copied-2.field-0.items c.as_slice.result.now c.in-Some.rows.items
    (sym c.in_ok-copied.ensures) (sym c.in_ok-copied-2.ensures) c.as_slice.ensures.value)
    c.if-not-has_all.ensures
