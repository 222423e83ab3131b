use Rattle.std.proofs.Common.{ℕ, List, Some, slice_index, arith, ap, sym, ◌∙◌, subst}
use Rattle.ifs_base.specs.declared.op.Op.{Op}
use Rattle.ifs_verify.specs.inner.Passes.{IsCountedFrom, weight_of}
use Rattle.ifs_verify.proofs.Flow.{successor_within}
use Rattle.ifs_verify.proofs.Backward.{counted_more}
use Rattle.ifs_verify.proofs.amounts.count_at.Goals as goal

pub amount_at-amount-requires-clause-callee : goal.amount_at-amount-requires-clause-callee
amount_at-amount-requires-clause-callee c = λ callee is.
    let lower = c.requires.plain.calls c.args.routine c.args.place callee (c.requires.op ∙ ap (λ (o : Op). Some o) is) in
    omega (arith, lower, c.requires.lower.long)

pub amount_at-amount-requires-clause-within : goal.amount_at-amount-requires-clause-within
amount_at-amount-requires-clause-within c = λ to is.
    let s = successor_within c.args.image.now c.args.routine c.args.place to c.args.op c.requires.plain.ends c.requires.plain.jumps c.requires.routine c.requires.op is in
    omega (arith, s.1, c.requires.counted.room.long c.args.routine)

pub amount_at-amount-requires-clause-room : goal.amount_at-amount-requires-clause-room
amount_at-amount-requires-clause-room c = λ k. omega (arith, c.requires.counted.room.small k)

pub returns : goal.returns
returns c =
    subst (λ (amounts : List ℕ). IsCountedFrom (weight_of c.args.weight) c.args.image.now (slice_index c.args.lower.now) c.args.routine amounts c.args.place) (sym c.put.ensures)
    (counted_more (weight_of c.args.weight) c.args.image.now (slice_index c.args.lower.now) c.args.routine c.args.amounts.now.items c.args.place c.args.op
    c.amount_at-amount.result c.requires.plain c.requires.routine c.requires.op c.requires.counted c.amount_at-amount.ensures.holds c.amount_at-amount.ensures.least c.amount_at-amount.ensures.more)
