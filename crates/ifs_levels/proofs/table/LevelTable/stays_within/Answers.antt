-- The parts are those of the table.
use Rattle.std.proofs.Common.{◌∙◌, subst}
use Rattle.std.proofs.lemmas.Bool.{OnTrue_at, OnTrue_from}
use Rattle.ifs_levels.specs.Ranges.{is_within}
use Rattle.ifs_levels.specs.Rows.{HasAll}
use Rattle.ifs_levels.specs.Within.{TableStaysWithin}
use Rattle.ifs_levels.proofs.Tables.{StaysIfHeld, same_parts, table_stays_all}
use Rattle.ifs_levels.proofs.table.LevelTable.stays_within.Goals as goal

pub returns : goal.returns
returns c =
    let inside = c.self.inside in
    let range = is_within c.args.range.now in
    let same =
    same_parts inside.outcomes.now inside.keeps c.as_slice.result.now inside.meter.items c.as_slice-2.result.now inside.firsts.items c.as_slice-3.result.now inside.rows.items c.as_slice.ensures.value
    c.as_slice-2.ensures.value c.as_slice-3.ensures.value ∙ c.self.view_is in
    OnTrue_from c.all_within.result (TableStaysWithin c.args.self.now range)
    (λ is. table_stays_all c.args.self.now range (subst HasAll c.self.view_is c.self.invariant) (subst (StaysIfHeld range) same (OnTrue_at is c.all_within.ensures)))
