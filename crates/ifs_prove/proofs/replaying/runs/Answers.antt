-- The commands of the step, and the facts that it sees.
use Rattle.std.proofs.Common.{◌≡◌, ◌∙◌, true, ap, subst}
use Rattle.ifs_claims.specs.Moves.{queued_by, seen}
use Rattle.ifs_core.specs.Steps.{commands_told}
use Rattle.ifs_solver.specs.Situations.{situation_after}
use Rattle.ifs_solver.specs.Asking.{is_met}
use Rattle.ifs_prove.specs.Claiming.{guard_in}
use Rattle.ifs_prove.specs.Breaking.{IsOneQueued}
use Rattle.ifs_prove.proofs.Made.{in_situation, queued_is}
use Rattle.ifs_prove.proofs.Truly.{on_both, on_equal, on_more}
use Rattle.ifs_prove.proofs.replaying.runs.Goals as goal

pub returns : goal.returns
returns c = λ policy known begun h.
    let law = c.cores_are_in_situations.ensures in
    let before = c.args.core.now in
    let commands = c.args.commands.now in
    on_both (IsOneQueued commands (queued_by policy known begun c.args.step)) (is_met (seen c.args.step (situation_after policy known begun).facts) (guard_in c.args.premise.now) ≡ true) c.tells_one.result
    c.is_met_seen-is_met.result c.both.result c.both.ensures
    (on_more (IsOneQueued commands (commands_told c.step-reply.result)) (IsOneQueued commands (queued_by policy known begun c.args.step)) c.tells_one.result
    (λ k. subst (λ queued. IsOneQueued commands queued) (queued_is policy known begun law before c.args.step c.step-reply.result c.step-reply.new.self c.step-reply.ensures.run h) k) c.tells_one.ensures)
    (on_equal c.is_met_seen-is_met.result (is_met (seen c.args.step (situation_after policy known begun).facts) (guard_in c.args.premise.now))
    (c.is_met_seen-is_met.ensures ∙ ap (λ s. is_met (seen c.args.step s.facts) (guard_in c.args.premise.now)) (in_situation policy known begun law before h)))
