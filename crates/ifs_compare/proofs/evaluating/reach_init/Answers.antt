-- There is no such state.
use Rattle.std.proofs.Common.{arith}
use Rattle.std.specs.Prelude.{slice_get}
use Rattle.std.proofs.lemmas.Option.{slice_get_past}
use Rattle.ifs_policy.specs.Meaning.{init_yield}
use Rattle.ifs_solver.specs.Reaching.{effects_of}
use Rattle.ifs_compare.proofs.Moments.{none_yields}
use Rattle.ifs_compare.proofs.evaluating.reach_init.Goals as goal

pub returns-in-None : goal.returns-in-None
returns-in-None c = λ facts within.
    let states = c.args.side.states.now in
    let state = c.args.state.0 in
    let past = c.in-None.ensures.lookup.3 in
    none_yields (λ part. init_yield facts part.init) (slice_get states state) (effects_of c.args.reached.now) (slice_get_past states state (omega (arith, past, c.from.ensures)))
