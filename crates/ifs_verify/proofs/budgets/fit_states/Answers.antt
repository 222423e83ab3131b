use Rattle.std.proofs.Common.{◌≤◌, slice_index, arith, refl}
use Rattle.std.proofs.lemmas.Option.{slice_get_within}
use Rattle.ifs_image.specs.declared.parts.Handlers.{Handlers}
use Rattle.ifs_verify.proofs.Instructions.{states_more}
use Rattle.ifs_verify.proofs.budgets.fit_states.Goals as goal

pub loop-state-preserved : goal.loop-state-preserved
loop-state-preserved c =
    states_more c.args.image.now.states
    (λ (handlers : Handlers). (slice_index c.args.reach.now.items handlers.init.0 ≤ c.args.stated) × (slice_index c.args.reach.now.items handlers.body.0 ≤ c.args.stated))
    c.loop-state.state c.handlers_of.result c.loop-state.invariant c.handlers_of.ensures (c.fit_part.ensures.0 c.if-not-fit_part.false)

pub returns : goal.returns
returns c =
    (λ yes k state is. c.loop-state.invariant k state (omega (arith, slice_get_within c.args.image.now.states k state is)) is, λ all. refl)
