-- The rows are those of the table.
use Rattle.std.proofs.Common.{ap, ◌∙◌, subst}
use Rattle.std.specs.Prelude.{All}
use Rattle.ifs_levels.specs.Rows.{HasAll}
use Rattle.ifs_levels.specs.Within.{IsRestAmong}
use Rattle.ifs_levels.proofs.Tables.{rests_among}
use Rattle.ifs_levels.proofs.table.LevelTable.levels_at_rest.Goals as goal

pub returns : goal.returns
returns c =
    rests_among c.args.self.now c.args.state c.in_ok-ranges.ranges.items (subst HasAll c.self.view_is c.self.invariant)
    (subst (All (IsRestAmong c.args.state c.in_ok-ranges.ranges.items)) (c.as_slice.ensures.value ∙ ap (λ t. t.rows) c.self.view_is) c.in_ok-ranges.ensures)
