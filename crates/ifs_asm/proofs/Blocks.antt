-- Blocks of bytes: masks of some of their bytes, how many come before the first set bit, and what follows for longer bytes.
use Rattle.std.proofs.Common.{◌≡◌, ℕ, zero, suc, ◌+◌, ◌*◌, ◌%◌, ◌^◌, ◌<◌, ◌≤◌, Bool, true, false, not, cond, List, [], ◌∷◌, ◌++◌, map}
use Rattle.std.proofs.Common.{length, take, drop, bit_or, refl, sym, ap, ◌∙◌, arith}
use Rattle.std.specs.Prelude.{◌==◌, ◌&&◌, ◌||◌}
use Rattle.std.specs.Int.{w64, trailing_zeros}
use Rattle.std.specs.List.{prefix_len}
use Rattle.std.proofs.Math.Seq.{take-append-add}
use Rattle.std.proofs.lemmas.Bool.{ne_eqb, cond-false}
use Rattle.std.proofs.lemmas.List.{length-map, length-take-le, take-take}
use Rattle.std.proofs.lemmas.List.Sums.{prefix_len-le-length}
use Rattle.std.proofs.lemmas.Simd.{map-map, mask_l-mod, first_set_mask_l, leading_from_mask_l}
use lib.Lanes.{mask_l, top}

-- ---- marks

same_marks : (p q : ℕ → Bool) → ((x : ℕ) → p x ≡ q x) → (v : List ℕ) → map p v ≡ map q v
same_marks p q all [] = refl
same_marks p q all (x ∷ v) = rw (all x, same_marks p q all v) refl

-- The lanes that are set are those of the bytes that pass a test.
pub marks_are : (test : ℕ → Bool) (v z : List ℕ) (f : ℕ → ℕ) → length v ≤ 64 → z ≡ map f v → ((x : ℕ) → top 7 (f x) ≡ test x)
    → mask_l (map (top 7) z) % 2 ^ 64 ≡ mask_l (map test v)
marks_are test v z f few lanes all =
    let set : ℕ → Bool = λ x. top 7 (f x) in
    ap (λ l. mask_l l % 2 ^ 64) (ap (map (top 7)) lanes ∙ map-map (top 7) f v) ∙ mask_l-mod (map set v) 64 (omega (arith, length-map v set, few))
    ∙ ap mask_l (same_marks set test all v)

-- A lane of several comparisons is set if one of them holds.
pub one_of_two : (a b : Bool) → top 7 (bit_or (cond a 255 0) (cond b 255 0)) ≡ not (not (a || b))
one_of_two true true = refl
one_of_two true false = refl
one_of_two false true = refl
one_of_two false false = refl

abbrev lane_of_four : Bool → Bool → Bool → Bool → ℕ
lane_of_four a b c d = bit_or (bit_or (bit_or (cond a 255 0) (cond b 255 0)) (cond c 255 0)) (cond d 255 0)

pub one_of_four : (a b c d : Bool) → top 7 (lane_of_four a b c d) ≡ not (not a && not b && not c && not d)
one_of_four true true true true = refl
one_of_four true true true false = refl
one_of_four true true false true = refl
one_of_four true true false false = refl
one_of_four true false true true = refl
one_of_four true false true false = refl
one_of_four true false false true = refl
one_of_four true false false false = refl
one_of_four false true true true = refl
one_of_four false true true false = refl
one_of_four false true false true = refl
one_of_four false true false false = refl
one_of_four false false true true = refl
one_of_four false false true false = refl
one_of_four false false false true = refl
one_of_four false false false false = refl

twice_case : (t : Bool) (n : ℕ) → cond (not (not t)) n 0 ≡ cond t n 0
twice_case true n = refl
twice_case false n = refl

twice : (test : ℕ → Bool) (v : List ℕ) → prefix_len (λ x. not (not (test x))) v ≡ prefix_len test v
twice test [] = refl
twice test (x ∷ v) = twice_case (test x) (1 + prefix_len (λ y. not (not (test y))) v) ∙ ap (λ n. cond (test x) (1 + n) 0) (twice test v)

whole_case : (t : Bool) (run long mask : ℕ) → (run ≡ long → mask ≡ 0) → cond t (1 + run) 0 ≡ suc long → cond (not t) 1 zero + 2 * mask ≡ 0
whole_case true run long mask ih whole = omega (arith, ih (omega (arith, whole)))
whole_case false run long mask ih whole = absurd (omega (arith, whole))

no_mark : (test : ℕ → Bool) (v : List ℕ) → prefix_len test v ≡ length v → mask_l (map (λ x. not (test x)) v) ≡ 0
no_mark test [] whole = refl
no_mark test (x ∷ v) whole = whole_case (test x) (prefix_len test v) (length v) (mask_l (map (λ y. not (test y)) v)) (no_mark test v) whole

-- This many bytes pass the test before the first bit of one that fails it.
pub before_mark : (test : ℕ → Bool) (v : List ℕ) (marks n : ℕ) → length v ≡ n → n ≤ 64 → marks ≡ mask_l (map (λ x. not (test x)) v) → (marks ≡ 0 → ⊥)
    → (trailing_zeros w64 marks ≡ prefix_len test v) × (prefix_len test v < n)
before_mark test v marks n long few is some =
    let first = ap (λ m. cond (m == 0) n (trailing_zeros w64 m)) is ∙ first_set_mask_l (λ x. not (test x)) v n long few ∙ twice test v in
    let inside : (prefix_len test v ≡ length v) → ⊥ = λ whole. some (is ∙ no_mark test v whole) in
    (sym (cond-false _ _ _ (ne_eqb _ _ some)) ∙ first, omega (arith, prefix_len-le-length test v, inside, long))

-- If no bit is set, all bytes pass it.
pub unmarked : (test : ℕ → Bool) (v : List ℕ) (marks : ℕ) → marks ≡ mask_l (map (λ x. not (test x)) v) → marks ≡ 0 → prefix_len test v ≡ length v
unmarked test v marks is none = sym (twice test v) ∙ leading_from_mask_l (λ x. not (test x)) v (sym is ∙ none)

-- ---- a block and what follows it

within_case : (n k m : ℕ) (t : Bool) → (k < n → m ≡ k) → cond t (1 + k) 0 < suc n → cond t (1 + m) 0 ≡ cond t (1 + k) 0
within_case n k m true ih lt = ap (λ i. 1 + i) (ih (omega (arith, lt)))
within_case n k m false ih lt = refl

within_front : (test : ℕ → Bool) (n : ℕ) (bs : List ℕ) → prefix_len test (take n bs) < n → n ≤ length bs → prefix_len test bs ≡ prefix_len test (take n bs)
within_front test zero bs lt le = absurd (omega (arith, lt))
within_front test (suc n) [] lt le = absurd (omega (arith, le))
within_front test (suc n) (b ∷ bs) lt le =
    within_case n (prefix_len test (take n bs)) (prefix_len test bs) (test b) (λ less. within_front test n bs less (omega (arith, le))) lt

over_case : (n k m after : ℕ) (t : Bool) → (n ≤ k → m ≡ n + after) → suc n ≤ cond t (1 + k) 0 → cond t (1 + m) 0 ≡ suc n + after
over_case n k m after true ih le = omega (arith, ih (omega (arith, le)))
over_case n k m after false ih le = absurd (omega (arith, le))

over_front : (test : ℕ → Bool) (n : ℕ) (bs : List ℕ) → n ≤ prefix_len test (take n bs) → n ≤ length bs → prefix_len test bs ≡ n + prefix_len test (drop n bs)
over_front test zero bs whole le = omega arith
over_front test (suc n) [] whole le = absurd (omega (arith, le))
over_front test (suc n) (b ∷ bs) whole le =
    over_case n (prefix_len test (take n bs)) (prefix_len test bs) (prefix_len test (drop n bs)) (test b) (λ all. over_front test n bs all (omega (arith, le))) whole

block_long : (n : ℕ) (bytes block rest : List ℕ) → block ≡ take n bytes → length rest + n ≡ length bytes → length block ≡ n
block_long n bytes block rest front len = ap length front ∙ length-take-le n bytes (omega (arith, len))

-- This many bytes at the front pass the test.
pub record IsRun (test : ℕ → Bool) (run : ℕ) (bytes : List ℕ) : Type 0 where
  pub value : run ≡ prefix_len test bytes
  pub within : run ≤ length bytes

-- A run that ends in the first block ends at the first set bit.
pub ends_within : (test : ℕ → Bool) (n marks : ℕ) (bytes block rest : List ℕ) → n ≤ 64 → block ≡ take n bytes → length rest + n ≡ length bytes
    → marks ≡ mask_l (map (λ x. not (test x)) block) → (marks ≡ 0 → ⊥) → IsRun test (trailing_zeros w64 marks) bytes
ends_within test n marks bytes block rest few front len is some =
    let long = block_long n bytes block rest front len in
    let first = before_mark test block marks n long few is some in
    let same : prefix_len test block ≡ prefix_len test (take n bytes) = ap (prefix_len test) front in
    let value = first.0 ∙ same ∙ sym (within_front test n bytes (omega (arith, same, first.1)) (omega (arith, len))) in
    record { value = value; within = omega (arith, value, prefix_len-le-length test bytes) }

-- If no bit is set, the run goes on after the block.
pub goes_behind : (test : ℕ → Bool) (n marks : ℕ) (bytes block rest : List ℕ) → block ≡ take n bytes → rest ≡ drop n bytes → length rest + n ≡ length bytes
    → marks ≡ mask_l (map (λ x. not (test x)) block) → marks ≡ 0 → prefix_len test bytes ≡ n + prefix_len test rest
goes_behind test n marks bytes block rest front back len is none =
    let long = block_long n bytes block rest front len in
    let same : prefix_len test (take n bytes) ≡ n = ap (prefix_len test) (sym front) ∙ unmarked test block marks is none ∙ long in
    over_front test n bytes (omega (arith, same)) (omega (arith, len)) ∙ ap (λ (xs : List ℕ). n + prefix_len test xs) (sym back)

-- ---- a block that is added and cut

-- A block is added and cut, so that its first bytes are left.
pub cut_behind : (n run len : ℕ) (before block slice bytes added kept : List ℕ) → block ≡ take n bytes → run ≤ n → slice ≡ block → added ≡ before ++ slice → len ≡ length before
    → kept ≡ take (len + run) added → kept ≡ before ++ take run bytes
cut_behind n run len before block slice bytes added kept front le same is long cut =
    cut ∙ ap (λ m. take (m + run) added) long ∙ ap (λ (xs : List ℕ). take (length before + run) xs) (is ∙ ap (λ (xs : List ℕ). before ++ xs) (same ∙ front))
    ∙ take-append-add before (take n bytes) run ∙ ap (λ (xs : List ℕ). before ++ xs) (take-take run n bytes le)
