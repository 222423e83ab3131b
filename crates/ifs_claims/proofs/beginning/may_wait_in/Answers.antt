-- The body of the state.
use Rattle.std.proofs.Common.{Some, sym, ap, ◌∙◌}
use Rattle.std.proofs.lemmas.Option.{slice_get-get_or, slice_get_past}
use Rattle.std.specs.Prelude.{slice_get}
use Rattle.ifs_claims.proofs.Starts.{waits_said, waits_nowhere}
use Rattle.ifs_claims.proofs.beginning.may_wait_in.Goals as goal

pub returns-in-Some : goal.returns-in-Some
returns-in-Some c =
    let found = c.in-Some.ensures.lookup in
    waits_said c.args.reachable.now c.args.state c.args.held c.in-Some.part.now c.parts-parts.result.now c.always.result.now.body c.may_wait.result c.parts-parts.ensures
    (ap (λ n. slice_get c.parts-parts.result.now n) (sym c.from.ensures) ∙ slice_get-get_or c.parts-parts.result.now c.from.result c.in-Some.part.now found.3.0 ∙ ap (λ x. Some x) (sym found.1))
    (ap (λ x. x.body) c.always.ensures) c.may_wait.ensures

pub returns-in-None : goal.returns-in-None
returns-in-None c =
    let found = c.in-None.ensures.lookup in
    waits_nowhere c.args.reachable.now c.args.state c.args.held c.parts-parts.result.now c.parts-parts.ensures
    (ap (λ n. slice_get c.parts-parts.result.now n) (sym c.from.ensures) ∙ slice_get_past c.parts-parts.result.now c.from.result found.3)
