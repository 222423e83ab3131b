-- The rows are those of the table.
use Rattle.std.proofs.Common.{ap, ◌∙◌, subst}
use Rattle.std.specs.Prelude.{All}
use Rattle.std.proofs.lemmas.Bool.{OnTrue_at, OnTrue_from}
use Rattle.ifs_levels.specs.Ranges.{is_within}
use Rattle.ifs_levels.specs.Rows.{HasAll}
use Rattle.ifs_levels.specs.Within.{IsRestWithin, TableRestsWithin}
use Rattle.ifs_levels.proofs.Tables.{table_rests_all}
use Rattle.ifs_levels.proofs.table.LevelTable.rests_within.Goals as goal

pub returns : goal.returns
returns c =
    let range = is_within c.args.range.now in
    OnTrue_from c.rest_within.result (TableRestsWithin c.args.self.now c.args.state range)
    (λ is. table_rests_all c.args.self.now c.args.state range (subst HasAll c.self.view_is c.self.invariant)
    (subst (All (IsRestWithin c.args.state range)) (c.as_slice.ensures.value ∙ ap (λ t. t.rows) c.self.view_is) (OnTrue_at is c.rest_within.ensures)))
