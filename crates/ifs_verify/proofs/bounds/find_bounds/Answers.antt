use Rattle.std.proofs.Common.{ℕ, ◌≡◌, ◌≤◌, ◌+◌, List, [], ◌∷◌, ◌++◌, slice_index, arith, below_more, ap, sym, ◌∙◌, subst}
use Rattle.ifs_verify.specs.Bounds.{cost_of, commands_of}
use Rattle.ifs_verify.specs.inner.Passes.{LeastDepths, LeastAmounts}
use Rattle.ifs_verify.proofs.Entering.{depths_more, amounts_more}
use Rattle.ifs_verify.proofs.bounds.find_bounds.Goals as goal

pub returns-clause-found : goal.returns-clause-found
returns-clause-found c =
    let image = c.args.image.now in
    let routine = c.args.routine in
    let depths : List ℕ = c.as_slice.result.now in
    let costs : List ℕ = c.as_slice-2.result.now in
    let commands : List ℕ = c.as_slice-3.result.now in
    let depth : ℕ = c.depth_of-depth.result in
    let cost : ℕ = c.amounts_of-amounts.result.cost in
    let command : ℕ = c.amounts_of-amounts.result.commands in
    let found_depths : LeastDepths image depths routine = subst (λ (xs : List ℕ). LeastDepths image xs routine) (sym c.as_slice.ensures.value) c.requires.lower.depths in
    let found_costs : LeastAmounts cost_of image 100000 costs routine =
    subst (λ (xs : List ℕ). LeastAmounts cost_of image 100000 xs routine) (sym c.as_slice-2.ensures.value) c.requires.lower.costs in
    let found_commands : LeastAmounts commands_of image 64 commands routine =
    subst (λ (xs : List ℕ). LeastAmounts commands_of image 64 xs routine) (sym c.as_slice-3.ensures.value) c.requires.lower.commands in
    let new_depths : c.push.new.self.items ≡ depths ++ depth ∷ [] = c.in_ok-push.ensures.items ∙ ap (λ (xs : List ℕ). xs ++ depth ∷ []) (sym c.as_slice.ensures.value) in
    let new_costs : c.push-2.new.self.items ≡ costs ++ cost ∷ [] = c.in_ok-push-2.ensures.items ∙ ap (λ (xs : List ℕ). xs ++ cost ∷ []) (sym c.as_slice-2.ensures.value) in
    let new_commands : c.push-3.new.self.items ≡ commands ++ command ∷ [] = c.in_ok-push-3.ensures.items ∙ ap (λ (xs : List ℕ). xs ++ command ∷ []) (sym c.as_slice-3.ensures.value) in
    record {
      heights_low = below_more (λ (k : ℕ). slice_index c.args.heights.now.items k ≤ 32) routine c.requires.lower.heights_low
          (omega (arith, c.height_found-height.ensures.value));
      depths = subst (λ (xs : List ℕ). LeastDepths image xs (routine + 1)) (sym new_depths)
          (depths_more image depths routine depth c.requires.plain found_depths c.depth_of-depth.ensures.holds c.depth_of-depth.ensures.least (omega arith));
      costs = subst (λ (xs : List ℕ). LeastAmounts cost_of image 100000 xs (routine + 1)) (sym new_costs)
          (amounts_more cost_of image 100000 costs routine cost c.requires.plain found_costs c.amounts_of-amounts.ensures.cost.holds c.amounts_of-amounts.ensures.cost.least (omega arith));
      commands = subst (λ (xs : List ℕ). LeastAmounts commands_of image 64 xs (routine + 1)) (sym new_commands)
          (amounts_more commands_of image 64 commands routine command c.requires.plain found_commands c.amounts_of-amounts.ensures.commands.holds c.amounts_of-amounts.ensures.commands.least (omega arith));
    }
