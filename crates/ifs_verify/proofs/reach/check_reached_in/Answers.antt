use Rattle.std.proofs.Common.{ℕ, ◌≡◌, List, Some, arith, sym, ◌∙◌, subst, inl, inr}
use Rattle.std.specs.List.{slice_get}
use Rattle.ifs_base.specs.declared.op.Op.{Op}
use Rattle.ifs_image.specs.Code.{op_at}
use Rattle.std.proofs.lemmas.Bool.{cases_eq}
use Rattle.ifs_verify.specs.Rules.{IsReached}
use Rattle.ifs_verify.proofs.Reaching.{follows_more, marked_more}
use Rattle.ifs_verify.proofs.reach.check_reached_in.Goals as goal

pub loop-place-preserved : goal.loop-place-preserved
loop-place-preserved c =
    let image = c.args.image.now in
    let routine = c.args.routine in
    let place = c.loop-place.place in
    let op = c.op_at-op.result in
    let before = c.loop-place.marks.items in
    let after = c.mark_successors.new.marks.items in
    let here : op_at image routine place ≡ Some op = subst (λ (code : List Op). slice_get code place ≡ Some op) c.code-code.ensures c.op_at-op.ensures in
    record {
      long = c.mark_successors.ensures.long ∙ c.loop-place.invariant.long;
      follows = follows_more image routine place op before after here c.mark_successors.ensures.marked c.loop-place.invariant.follows;
      marked = λ k within.
          marked_more image routine place op before after here c.mark_successors.ensures.marked
          (λ j inside. c.loop-place.invariant.marked j (omega (arith, inside, c.loop-place.invariant.long))) k (omega (arith, within, c.loop-place.invariant.long));
      reached = λ k positive below.
          elim (cases_eq k place) [
            | inl e ↦
                subst (λ (n : ℕ). IsReached image routine n) (sym e)
                (elim (c.is_reached.ensures.0 c.if-not-is_reached.false) [
                  | inl zero ↦ absurd (omega arith)
                  | inr marked ↦ c.loop-place.invariant.follows place marked
                ])
            | inr ne ↦ c.loop-place.invariant.reached k positive (omega arith)
          ];
    }
