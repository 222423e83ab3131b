-- The init of the initial state is at twice its number.
use Rattle.std.proofs.Common.{◌≡◌, ◌*◌, ◌∙◌, ap, take, drop, get_or, length, ◌-◌, subst, arith}
use Rattle.ifs_gen.specs.inner.Costs.{most_of_inits, most_of_bodies}
use Rattle.ifs_gen.proofs.EventCosts.{event_read, from_place}
use Rattle.ifs_gen.proofs.costs.event_cost.Goals as goal

pub returns : goal.returns
returns c =
    let table = c.args.shared.now in
    let handlers = c.args.handlers.now in
    let first = c.index-states-from.result in
    let read = event_read table handlers c.args.initial.0 c.always_init-item.result c.always_body-item.result first c.requires c.always_init-item.is c.always_body-item.is
    (subst (λ l. first ≡ get_or l (2 * c.args.initial.0) first) (from_place 2 handlers)
    (subst (λ n. first ≡ get_or (take (length handlers - 2) (drop 2 handlers)) (2 * n) first) c.from.ensures c.index-states-from.is)) in
    let a = c.greatest-most.ensures.init ∙ ap (most_of_inits table) (from_place 2 handlers) in
    let b = c.greatest-most.ensures.body ∙ ap (most_of_bodies table) (from_place 2 handlers) in
    omega (arith, read, a, b)
