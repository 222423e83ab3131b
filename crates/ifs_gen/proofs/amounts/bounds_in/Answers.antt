-- Numbers within the limits fit their fields.
use Rattle.std.proofs.Common.{◌≡◌, ◌≤◌, max, refl, subst, rules, arith}
use Rattle.ifs_gen.specs.declared.amounts.Amount.TheVariants.{Height}
use Rattle.ifs_gen.specs.PlainSizes.{most_of_stack}
use Rattle.ifs_gen.specs.Refused.{AreWithin}
use Rattle.ifs_gen.specs.inner.Amounts.{most_of_inits, most_of_bodies, numbers_of}
use Rattle.ifs_gen.proofs.Totals.{inits_low, bodies_low, bounds_are}
use Rattle.ifs_gen.proofs.amounts.bounds_in.Goals as goal

pub overflow_cast-result : goal.overflow_cast-result
overflow_cast-result c =
    let within = subst (λ n. AreWithin n (numbers_of Height c.args.measures.now)) c.from-3.ensures (c.in_default-first_over.ensures.none refl) in
    let one = inits_low Height most_of_stack c.args.measures.now within in
    let two = bodies_low Height most_of_stack c.args.measures.now within in
    let a = c.greatest-most.ensures.init in
    let b = c.greatest-most.ensures.body in
    let e : c.max.result ≡ max c.greatest-most.result.init c.greatest-most.result.body = search rules in
    omega (arith, one, two, a, b, e)

pub returns-clause-bounds : goal.returns-clause-bounds
returns-clause-bounds c =
    let a = c.greatest-most.ensures.init in
    let b = c.greatest-most.ensures.body in
    let e : c.max.result ≡ max c.greatest-most.result.init c.greatest-most.result.body = search rules in
    let stack : c.max.result ≡ max (most_of_inits Height c.args.measures.now) (most_of_bodies Height c.args.measures.now) = omega (arith, a, b, e) in
    let few = subst (λ n. c.event_total-commands.result ≤ n) c.from-4.ensures c.if-from-commands.false in
    bounds_are c.max.result _ c.event_total-commands.result _ stack c.event_total-commands.ensures few
