-- Bodies that mention the same tests.
use Rattle.std.proofs.Common.{◌≡◌, ℕ, zero, suc, ◌<◌, [], ◌∷◌, ◌++◌, refl, ap, ◌∙◌, arith}
use Rattle.std.specs.Prelude.{◌==◌, if◌then◌else◌}
use Rattle.std.specs.List.{list_any}
use Rattle.ifs_base.specs.declared.ids.TestId.{TestId}
use Rattle.ifs_policy.specs.Meaning.{Block, mentioned}
use Rattle.ifs_policy.specs.Visits.{mentions}
use Rattle.ifs_gen.specs.Trees.{Part}
use Rattle.ifs_gen.specs.PlainCode.{tests_below}
use Rattle.ifs_gen.specs.PlainSizes.{mask_of, mask_of_part}

-- Two bodies mention the same tests below a number.
abbrev pub AreSameBelow : Block → Block → ℕ → Type 0
AreSameBelow one other count = (t : ℕ) → t < count → mentions (record { 0 = t }) one ≡ mentions (record { 0 = t }) other

tests_same : (one other : Block) (count : ℕ) → AreSameBelow one other count → tests_below count (mentioned one) ≡ tests_below count (mentioned other)
tests_same one other zero same = refl
tests_same one other (suc n) same =
    ap (λ xs. xs ++ (if list_any (λ (test : TestId). test.0 == n) (mentioned one) then record { 0 = n } ∷ [] else [])) (tests_same one other n (λ t lt. same t (omega (arith, lt))))
    ∙ ap (λ b. tests_below n (mentioned other) ++ (if b then record { 0 = n } ∷ [] else [])) (same n (omega arith))

pub masks_same : (one other : Part) (count : ℕ) → AreSameBelow one.body other.body count → mask_of_part count one ≡ mask_of_part count other
masks_same one other count same = ap mask_of (tests_same one.body other.body count same)
