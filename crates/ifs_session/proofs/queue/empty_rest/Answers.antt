use Rattle.std.proofs.Common.{◌++◌, ◌∷◌, [], length, sym, ap, ◌∙◌, subst, append_assoc, arith, length-append}
use Rattle.ifs_core.specs.declared.step.Step.TheVariants.{Take}
use Rattle.ifs_session.specs.Hosts.{Adds, ran}
use Rattle.ifs_session.specs.Accounts.{takes_of, texts_of}
use Rattle.ifs_session.proofs.Logs.{adds_nothing, adds_both}
use Rattle.ifs_session.proofs.Taking.{taken, nothing_taken, all_taken, rest_taken, texts_taken}
use Rattle.ifs_session.proofs.queue.empty_rest.Goals as goal

pub commands-preserved : goal.commands-preserved
commands-preserved g c =
    let m = rw c.in-Some.is at c.take.ensures.run in
    let first = taken _ _ _ m in
    let same = c.take.ensures.image ∙ c.commands.invariant.image in
    record {
      image = same;
      room = omega (arith, c.commands.invariant.room, ap length first, ap length c.push.ensures.items, length-append c.commands.steps.items (Take ∷ []));
      steps = ap (λ steps. steps ++ takes_of c.take.new.self.state.queue) c.push.ensures.items
          ∙ append_assoc c.commands.steps.items (Take ∷ []) (takes_of c.take.new.self.state.queue)
          ∙ ap (λ queue. c.commands.steps.items ++ takes_of queue) (sym first) ∙ c.commands.invariant.steps;
      state = λ b. sym (rest_taken b _ _ _ _ m) ∙ c.commands.invariant.state b;
      told = λ end rest. c.commands.invariant.told end
          (subst (λ texts. Adds (ran texts) (g.H.Host.told c.commands.host) end) (sym (texts_taken _ _ _ _ _ _ m same (rw c.in-Some-command_text.is at c.command_text.ensures.value)))
          (adds_both (ran (c.in-Some-command_text.text.now ∷ [])) (ran (texts_of c.args.core.now.image c.take.new.self.state.queue)) _ (g.H.Host.told c.run.new.self) end c.run.ensures.log rest));
    }

pub returns-clause-told : goal.returns-clause-told
returns-clause-told g c =
    let none = nothing_taken _ _ (rw c.in_default.is at c.take.ensures.run) in
    c.commands.invariant.told _ (subst (λ queue. Adds (ran (texts_of c.args.core.now.image queue)) (g.H.Host.told c.commands.host) (g.H.Host.told c.commands.host)) (sym none) (adds_nothing _))

pub returns-clause-state : goal.returns-clause-state
returns-clause-state g c = λ b. all_taken b _ _ _ (rw c.in_default.is at c.take.ensures.run) ∙ c.commands.invariant.state b
