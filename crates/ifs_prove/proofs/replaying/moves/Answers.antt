-- The states before and after the step.
use Rattle.std.proofs.Common.{◌∙◌, ◌++◌, ◌∷◌, [], ap, subst}
use Rattle.std.specs.Prelude.{Contains}
use Rattle.ifs_solver.specs.Situations.{situation_after}
use Rattle.ifs_prove.proofs.Made.{in_situation}
use Rattle.ifs_prove.proofs.Truly.{on_both, on_more}
use Rattle.ifs_prove.proofs.replaying.moves.Goals as goal

pub returns : goal.returns
returns c = λ policy known begun h.
    let law = c.cores_are_in_situations.ensures in
    let from = c.args.from.now in
    let to = c.args.to.now in
    let was = c.state-before.ensures.value ∙ ap (λ s. s.current) (in_situation policy known begun law c.args.core.now h) in
    let now = c.make_steps.ensures policy known begun h in
    let is = c.state-after.ensures.value ∙ ap (λ s. s.current) (in_situation policy known (begun ++ c.args.step ∷ []) law c.make_steps.new.core now) in
    on_both (Contains from (situation_after policy known begun).current) (Contains to (situation_after policy known (begun ++ c.args.step ∷ [])).current)
    c.is_one_of.result c.is_one_of-2.result c.both.result c.both.ensures
    (on_more _ _ c.is_one_of.result (λ k. subst (λ s. Contains from s) was k) c.is_one_of.ensures) (on_more _ _ c.is_one_of-2.result (λ k. subst (λ s. Contains to s) is k) c.is_one_of-2.ensures)
