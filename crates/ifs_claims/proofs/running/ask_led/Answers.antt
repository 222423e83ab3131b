-- Both lists together.
use Rattle.std.proofs.Common.{◌∙◌, ◌++◌, ◌∷◌, [], ap, subst, sym}
use Rattle.ifs_solver.specs.Asking.{guard_of, IsExtentAmong}
use Rattle.ifs_solver.specs.FactSets.{Within, fact_set_of}
use Rattle.ifs_solver.specs.declared.constraints.Aim.TheVariants.{To}
use Rattle.ifs_solver.specs.declared.constraints.Constraint.TheVariants.{Met, Free, Silent, Aims}
use Rattle.ifs_claims.specs.inner.Reaching.{where_led, where_runs}
use Rattle.ifs_claims.proofs.Quiet.{led_asked}
use Rattle.ifs_claims.proofs.running.ask_led.Goals as goal

pub returns : goal.returns
returns c =
    let P = Within (fact_set_of c.args.bodies.set.now) in
    let always = c.args.bodies.always in
    let own = c.args.bodies.own in
    let own_leads = Free own ∷ Aims own (To c.args.next) ∷ Met c.args.ban.guard ∷ [] in
    let always_leads = Silent own ∷ Free always ∷ Aims always (To c.args.next) ∷ Met c.args.ban.guard ∷ [] in
    subst (IsExtentAmong P (where_led always.now own.now c.args.next (guard_of c.args.ban.guard) c.args.ban.command c.args.block.now)) (sym c.either.ensures)
    (led_asked P always own c.args.next c.args.ban.guard c.args.ban.command c.args.block.now c.in_ok-by_own.by_own c.in_ok-by_always.by_always
    (subst (λ xs. IsExtentAmong P (where_runs xs c.args.ban.command c.args.block.now) c.in_ok-by_own.by_own) (c.in_ok-extend_from_slice.ensures.items ∙ ap (λ xs. xs ++ own_leads) c.new-own_leads.ensures.items) c.in_ok-by_own.ensures)
    (subst (λ xs. IsExtentAmong P (where_runs xs c.args.ban.command c.args.block.now) c.in_ok-by_always.by_always) (c.in_ok-extend_from_slice-2.ensures.items ∙ ap (λ xs. xs ++ always_leads) c.new-always_leads.ensures.items) c.in_ok-by_always.ensures))
