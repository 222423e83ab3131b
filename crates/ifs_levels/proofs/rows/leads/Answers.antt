-- The levels after the outcome are among those of the range after it.
use Rattle.std.proofs.Common.{◌≡◌, true, sym, ap, ◌∙◌, subst}
use Rattle.std.proofs.lemmas.Bool.{OnTrue_at, OnTrue_from}
use Rattle.ifs_levels.specs.Metering.{meter_of}
use Rattle.ifs_levels.specs.Metering.{level_by}
use Rattle.ifs_levels.specs.Ranges.{OfEach, is_within, range_by}
use Rattle.ifs_levels.specs.Rows.{LeadsToRow}
use Rattle.ifs_levels.proofs.Shifts.{within_by}
use Rattle.ifs_levels.proofs.rows.leads.Goals as goal

pub returns-in-Some : goal.returns-in-Some
returns-in-Some c =
    let meter = meter_of c.args.meter.now in
    let commands = c.args.outcome.now.commands.items in
    let after = c.in-Some.ensures ∙ ap (range_by meter c.args.levels) c.as_slice.ensures.value in
    OnTrue_from c.has_next.result (OfEach c.args.levels (λ level. LeadsToRow c.args.rows.now meter c.args.state level c.args.outcome.now))
    (λ is level within. OnTrue_at is c.has_next.ensures (level_by meter level commands)
    (subst (λ r. is_within r (level_by meter level commands) ≡ true) (sym after) (within_by meter c.args.levels level commands within)))
