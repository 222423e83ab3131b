use Rattle.std.proofs.Common.{ℕ, ◌≡◌, ◌<◌, ◌+◌, Some, sym, ◌∙◌}
use Rattle.std.proofs.lemmas.Bool.{OnTrue_from, OnTrue_at}
use Rattle.ifs_image.specs.Code.{target_of}
use Rattle.ifs_verify.specs.inner.Passes.{Stands}
use Rattle.ifs_verify.proofs.Flow.{falls_through, takes_up, next_within}
use Rattle.ifs_verify.proofs.typing.go_on.Goals as goal

pub returns-in-Some-clause-stands : goal.returns-in-Some-clause-stands
returns-in-Some-clause-stands c =
    let image = c.args.here.now.image.now in
    let next = sym c.next.ensures ∙ c.in-Some.is in
    let later : (k : ℕ) → target_of c.args.here.now.op ≡ Some k → c.args.here.now.place < k = λ k is. (c.requires.plain.jumps c.args.here.now.routine c.args.here.now.place c.args.here.now.op k c.requires.op is).0 in
    OnTrue_from c.agrees-agree.result (Stands image c.args.here.now.routine (c.args.here.now.place + 1) c.args.kinds.now c.clear.new.brought.items) (λ yes.
    falls_through image c.args.here.now.routine c.args.here.now.place c.in-Some.to c.args.here.now.op c.args.kinds.now c.args.brought.now.items c.clear.new.brought.items c.requires.op c.requires.left next
    (next_within image c.args.here.now.routine c.args.here.now.place c.in-Some.to c.args.here.now.op c.requires.plain.ends c.requires.routine c.requires.op next)
    (OnTrue_at yes c.agrees-agree.ensures.same) later c.requires.met c.clear.ensures)

pub returns-in-None-clause-stands : goal.returns-in-None-clause-stands
returns-in-None-clause-stands c =
    let later : (k : ℕ) → target_of c.args.here.now.op ≡ Some k → c.args.here.now.place < k = λ k is. (c.requires.plain.jumps c.args.here.now.routine c.args.here.now.place c.args.here.now.op k c.requires.op is).0 in
    takes_up c.args.here.now.image.now c.args.here.now.routine c.args.here.now.place c.args.here.now.op c.args.kinds.now c.take_up.new.kinds c.args.brought.now.items c.take_up.new.brought.items c.requires.plain c.requires.op
    c.requires.left (sym c.next.ensures ∙ c.in-None.is) later c.requires.met c.take_up.ensures.taken c.take_up.ensures.cleared
