use Rattle.std.proofs.Common.{ℕ, ◌≡◌, ◌+◌, List, [], ◌∷◌, ◌++◌, ap, sym, ◌∙◌, subst}
use Rattle.ifs_verify.specs.inner.Passes.{LeastHeights}
use Rattle.ifs_verify.proofs.Entering.{heights_more}
use Rattle.ifs_verify.proofs.stacks.check_stacks.Goals as goal

pub loop-routine-preserved : goal.loop-routine-preserved
loop-routine-preserved c =
    let image = c.args.image.now in
    let routine = c.loop-routine.routine in
    let lower : List ℕ = c.as_slice.result.now in
    let height : ℕ = c.in_ok-height.height in
    let e : lower ≡ c.loop-routine.heights.items = c.as_slice.ensures.value in
    let found : LeastHeights image lower routine = subst (λ (xs : List ℕ). LeastHeights image xs routine) (sym e) c.loop-routine.invariant.found in
    let items : c.push.new.self.items ≡ lower ++ height ∷ [] = c.in_ok-push.ensures.items ∙ ap (λ (xs : List ℕ). xs ++ height ∷ []) (sym e) in
    let typed = c.in_ok-height.ensures.typed in
    record {
      found = subst (λ (xs : List ℕ). LeastHeights image xs (routine + 1)) (sym items)
          (heights_more image lower routine height typed.0 c.requires found typed.1 c.in_ok-height.ensures.holds c.in_ok-height.ensures.least);
      clear = c.in_ok-height.ensures.clear;
    }
