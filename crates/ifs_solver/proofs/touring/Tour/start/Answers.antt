-- The initial state alone is marked and pending.
use Rattle.std.proofs.Common.{refl, ap, true, false, ◌∙◌, ◌++◌, ◌∷◌, []}
use Rattle.std.specs.Prelude.{slice_set, replicate}
use Rattle.ifs_solver.proofs.Tours.{started}
use Rattle.ifs_solver.proofs.touring.Tour.start.Goals as goal

pub returns-clause-toured : goal.returns-clause-toured
returns-clause-toured c =
    started c.args.policy.now c.args.budget _ c.counts-count.result.states c.counts-count.ensures.fits refl refl c.of.ensures (ap (λ x. x.body) c.always.ensures) c.states.ensures.value c.counts-count.ensures.states refl
    (c.mark.ensures ∙ ap (λ i. slice_set c.in_ok-entered.entered.items i true) c.from-2.ensures ∙ ap (λ xs. slice_set xs c.initial-initial.result.0 true) (c.in_ok-entered.ensures.items_if_clones_equal (λ y e. e) ∙ ap (λ n. replicate n false) c.from.ensures) ∙ ap (λ x. slice_set (replicate c.counts-count.result.states false) x.0 true) c.initial-initial.ensures)
    (c.in_ok-push.ensures.items ∙ ap (λ xs. xs ++ c.initial-initial.result ∷ []) c.new-pending.ensures.items ∙ ap (λ x. x ∷ []) c.initial-initial.ensures)
