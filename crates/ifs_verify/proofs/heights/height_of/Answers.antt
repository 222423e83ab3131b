use Rattle.std.proofs.Common.{ℕ, ◌≡◌, List, length, slice_index, arith, ap, sym, subst}
use Rattle.ifs_base.specs.declared.op.Kind.{Kind}
use Rattle.ifs_image.specs.Code.{code_of}
use Rattle.ifs_verify.specs.inner.Passes.{Stands}
use Rattle.ifs_verify.proofs.Flow.{stands_first, clear_behind}
use Rattle.ifs_verify.proofs.Holding.{all_hold_more}
use Rattle.ifs_verify.proofs.Instructions.{some_code}
use Rattle.ifs_verify.proofs.heights.height_of.Goals as goal

pub loop-place-init : goal.loop-place-init
loop-place-init c =
    let image = c.args.image.now in
    record {
      stands = subst (λ (list : List Kind). Stands image c.args.routine 0 list c.args.brought.now.items) (sym c.put_params.ensures.value)
          (stands_first image c.args.routine c.args.brought.now.items (some_code image c.args.routine c.requires.plain.ends c.requires.routine)
          (omega (arith, c.put_params.ensures.few)) c.requires.clear);
      holds = λ place below. absurd (omega arith);
      least = λ bound all. omega arith;
    }

pub loop-place-preserved : goal.loop-place-preserved
loop-place-preserved c =
    let needs = c.in_ok-needed.ensures.needs in
    let inv = c.loop-place.invariant in
    record {
      stands = c.in_ok-needed.ensures.stands;
      holds = all_hold_more c.args.image.now c.args.routine (slice_index c.args.heights.now) c.loop-place.place c.loop-place.height c.in_ok-needed.needed
          c.greater-height.result inv.holds needs.holds c.greater-height.ensures.left c.greater-height.ensures.right;
      least = λ bound all.
          c.greater-height.ensures.least bound (inv.least bound (λ k below. all k (omega arith))) (needs.least bound (all c.loop-place.place (omega arith)));
    }

pub returns-clause-least : goal.returns-clause-least
returns-clause-least c = λ bound all.
    c.loop-place.invariant.least bound (λ k below. all k (omega (arith, c.loop-place.auto.place-end, ap length c.code-code.ensures)))

pub returns-clause-clear : goal.returns-clause-clear
returns-clause-clear c =
    let end : c.loop-place.place ≡ length (code_of c.args.image.now c.args.routine) =
    omega (arith, c.loop-place-test.false, c.loop-place.auto.place-end, ap length c.code-code.ensures) in
    clear_behind c.args.image.now c.args.routine c.loop-place.kinds c.loop-place.brought.items
    (subst (λ (n : ℕ). Stands c.args.image.now c.args.routine n c.loop-place.kinds c.loop-place.brought.items) end c.loop-place.invariant.stands)
