use Rattle.ifs_machine.specs.Views.{facts_of, effects_of}
use Rattle.ifs_core.specs.Event.{Init}
use Rattle.ifs_core.proofs.Runs.{one_run, init_of, ran_init}
use Rattle.ifs_core.proofs.event.run_init.Goals as goal

pub returns-clause-exact : goal.returns-clause-exact
returns-clause-exact c = λ b is.
    let own = c.handlers_of-own.ensures in
    one_run c.args.verified.now b (Init c.args.position.now.current.0) own.0.handlers.init.0 (facts_of c.args.position.now.facts)
    (effects_of c.args.effects.now) c.run_handler.result (effects_of c.run_handler.new.effects)
    is (init_of c.args.verified.now c.args.position.now.current.0 own.0 own.1) c.requires.position.facts (c.requires.room own.0 own.1) (rw (← own.2) at c.run_handler.ensures.only)

pub returns-clause-within : goal.returns-clause-within
returns-clause-within c =
    let own = c.handlers_of-own.ensures in
    ran_init c.args.verified.now c.args.position.now.current.0 own.0 (effects_of c.args.effects.now) (effects_of c.run_handler.new.effects) c.run_handler.result
    own.1 (rw (← own.2) at c.run_handler.ensures.within) (rw (← own.2) at c.run_handler.ensures.commands)
