-- The states before and after the step, and the facts that it sees.
use Rattle.std.proofs.Common.{◌≡◌, ◌≢◌, ◌∙◌, ◌++◌, ◌∷◌, [], true, sym, ap, subst}
use Rattle.std.specs.Prelude.{Contains}
use Rattle.ifs_claims.specs.Moves.{seen}
use Rattle.ifs_solver.specs.Situations.{situation_after}
use Rattle.ifs_solver.specs.Asking.{is_met}
use Rattle.ifs_prove.specs.Claiming.{guard_in}
use Rattle.ifs_prove.proofs.Made.{in_situation}
use Rattle.ifs_prove.proofs.Truly.{on_equal, on_more, on_three}
use Rattle.ifs_prove.proofs.replaying.enters.Goals as goal

pub returns : goal.returns
returns c = λ policy known begun h.
    let law = c.cores_are_in_situations.ensures in
    let states = c.args.states.now in
    let step = c.args.step in
    let guard = guard_in c.args.premise.now in
    let before = (situation_after policy known begun).current in
    let after = (situation_after policy known (begun ++ step ∷ [])).current in
    let sees = is_met (seen step (situation_after policy known begun).facts) guard in
    let opening = in_situation policy known begun law c.args.core.now h in
    let was = c.state-before.ensures.value ∙ ap (λ s. s.current) opening in
    let now = c.make_steps.ensures policy known begun h in
    let is = c.state-after.ensures.value ∙ ap (λ s. s.current) (in_situation policy known (begun ++ step ∷ []) law c.make_steps.new.core now) in
    on_three (before ≢ after) (Contains states after) (sees ≡ true) c.differ.result c.is_one_of.result c.is_met_seen-was_met.result c.both-is_there.result c.both.result c.both-is_there.ensures c.both.ensures
    (on_more _ _ c.differ.result (λ other e. other (was ∙ e ∙ sym is)) c.differ.ensures)
    (on_more _ _ c.is_one_of.result (λ k. subst (λ s. Contains states s) is k) c.is_one_of.ensures)
    (on_equal c.is_met_seen-was_met.result sees (c.is_met_seen-was_met.ensures ∙ ap (λ s. is_met (seen step s.facts) guard) opening))
