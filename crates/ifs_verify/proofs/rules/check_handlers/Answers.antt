use Rattle.std.proofs.Common.{subst, arith}
use Rattle.ifs_image.specs.declared.parts.Handlers.{Handlers}
use Rattle.ifs_verify.specs.Rules.{BothStandAlone}
use Rattle.ifs_verify.proofs.Instructions.{states_more}
use Rattle.std.proofs.lemmas.Option.{slice_get_within}
use Rattle.ifs_verify.proofs.rules.check_handlers.Goals as goal

pub loop-state-preserved : goal.loop-state-preserved
loop-state-preserved c =
    states_more c.args.image.now.states (BothStandAlone c.args.image.now) c.loop-state.state c.handlers_of.result
    c.loop-state.invariant c.handlers_of.ensures (c.both_stand_alone-in-loop-state.ensures.0 c.if-not-both_stand_alone-2.false)

pub returns-clause-kept : goal.returns-clause-kept
returns-clause-kept c = record {
  always = subst (λ (handlers : Handlers). BothStandAlone c.args.image.now handlers) c.always.ensures (c.both_stand_alone.ensures.0 c.if-not-both_stand_alone.false);
  states = λ k state is. c.loop-state.invariant k state (omega (arith, slice_get_within c.args.image.now.states k state is)) is;
}
