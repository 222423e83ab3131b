-- The commands of the opening, and its facts.
use Rattle.std.proofs.Common.{◌≡◌, ◌∙◌, [], true, ap, subst}
use Rattle.ifs_gen.specs.Events.{policy_opened}
use Rattle.ifs_solver.specs.Situations.{situation_after}
use Rattle.ifs_solver.specs.Asking.{is_met}
use Rattle.ifs_prove.specs.Claiming.{guard_in}
use Rattle.ifs_prove.specs.Breaking.{IsOneQueued}
use Rattle.ifs_prove.proofs.Made.{in_situation, opening_is}
use Rattle.ifs_prove.proofs.Truly.{on_both, on_equal, on_more}
use Rattle.ifs_prove.proofs.replaying.runs_at_once.Goals as goal

pub returns : goal.returns
returns c = λ policy known h.
    let law = c.cores_are_in_situations.ensures in
    let core = c.args.core.now in
    let commands = c.args.commands.now in
    on_both (IsOneQueued commands (policy_opened policy known).queue) (is_met (situation_after policy known []).facts (guard_in c.args.premise.now) ≡ true) c.has_queued.result c.is_met-is_met.result
    c.both.result c.both.ensures
    (on_more (IsOneQueued commands core.state.queue) (IsOneQueued commands (policy_opened policy known).queue) c.has_queued.result
    (λ k. subst (λ queued. IsOneQueued commands queued) (opening_is law policy known core h) k) c.has_queued.ensures)
    (on_equal c.is_met-is_met.result (is_met (situation_after policy known []).facts (guard_in c.args.premise.now))
    (c.is_met-is_met.ensures ∙ ap (λ s. is_met s.facts (guard_in c.args.premise.now)) (in_situation policy known [] law core h)))
