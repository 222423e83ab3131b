-- The tests of a list, in the order of their numbers.
use Rattle.std.proofs.Common.{◌≡◌, ℕ, zero, suc, ◌<◌, ◌≤◌, ◌⊎◌, inl, inr, ⊎_elim, Bool, true}
use Rattle.std.proofs.Common.{false, List, [], ◌∷◌, ◌++◌, refl, sym, ap, ◌∙◌, subst, arith}
use Rattle.std.specs.Prelude.{◌==◌, if◌then◌else◌}
use Rattle.std.specs.List.{list_any, AllByRecursion}
use Rattle.std.proofs.lemmas.Bool.{cases_order, or_cases, or_left, or_right, eqb-true, eq-eqb}
use Rattle.std.proofs.lemmas.List.{append-nil}
use Rattle.std.proofs.lemmas.List.Folds.{list_any-append}
use Rattle.ifs_base.specs.declared.ids.TestId.{TestId}
use Rattle.ifs_gen.specs.Trees.{LinkIs, TestIs, Condition, Leaf, NotSo, And, Or, Block, Done, RunThen, SetStateThen, IfThen}
use Rattle.ifs_policy.specs.Meaning.{mentioned_in, mentioned}
use Rattle.ifs_gen.specs.PlainCode.{Coder, tests_below, holding, block_height}
use Rattle.ifs_policy.specs.Fits.{Sizes, ConditionFits, BlockFits}
use Rattle.ifs_policy.proofs.Lists.{each_both}
use Rattle.ifs_gen.proofs.Among.{each_weaker}

-- Each test is below a number.
abbrev pub EachBelow : ℕ → List TestId → Type 0
EachBelow count tests = AllByRecursion (λ (test : TestId). test.0 < count) tests

-- A number is that of a test in the list.
abbrev is_number_in : List TestId → ℕ → Bool
is_number_in xs k = list_any (λ test. test.0 == k) xs

abbrev test : ℕ → TestId
test k = record { 0 = k }

chosen_below : (b : Bool) (k : ℕ) → EachBelow (suc k) (if b then test k ∷ [] else [])
chosen_below true k = (omega arith, tt)
chosen_below false k = tt

pub each_below : (count : ℕ) (xs : List TestId) → EachBelow count (tests_below count xs)
each_below zero xs = tt
each_below (suc count) xs =
    each_both (λ (test : TestId). test.0 < suc count) (tests_below count xs) (if is_number_in xs count then test count ∷ [] else [])
    (each_weaker (λ (test : TestId). test.0 < count) (λ (test : TestId). test.0 < suc count) (λ test h. omega (arith, h)) (tests_below count xs) (each_below count xs)) (chosen_below (is_number_in xs count) count)

module _ (p : TestId → Bool) where
  -- A test of the list that passes.
  passes : (xs : List TestId) (k : ℕ) → is_number_in xs k ≡ true → p (test k) ≡ true → list_any p xs ≡ true
  passes [] k h g = absurd (cc)
  passes (x ∷ xs) k h g =
      ⊎_elim
      (λ here. let e = eqb-true x.0 k here in or_left (p x) (list_any p xs) (ap (λ n. p (test n)) e ∙ g))
      (λ there. or_right (p x) (list_any p xs) (passes xs k there g))
      (or_cases (x.0 == k) (is_number_in xs k) h)

  chosen_passes : (b : Bool) (k : ℕ) → list_any p (if b then test k ∷ [] else []) ≡ true → (b ≡ true) × (p (test k) ≡ true)
  chosen_passes true k h = ⊎_elim (λ e. (refl, e)) (λ none. absurd (cc)) (or_cases (p (test k)) false h)
  chosen_passes false k h = absurd (cc)

  found_above : (count : ℕ) (xs : List TestId) → list_any p (tests_below count xs) ≡ true → list_any p xs ≡ true
  found_above zero xs h = absurd (cc)
  found_above (suc count) xs h =
      let b = is_number_in xs count in
      let some = if b then test count ∷ [] else [] in
      ⊎_elim
      (λ before. found_above count xs before)
      (λ last. let c = chosen_passes b count last in passes xs count c.0 c.1)
      (or_cases (list_any p (tests_below count xs)) (list_any p some) (sym (list_any-append p (tests_below count xs) some) ∙ h))

  chosen_found : (b : Bool) (k : ℕ) → b ≡ true → p (test k) ≡ true → list_any p (if b then test k ∷ [] else []) ≡ true
  chosen_found true k e h = or_left (p (test k)) false h
  chosen_found false k e h = absurd (cc)

  found_at : (count k : ℕ) (xs : List TestId) → k < count → is_number_in xs k ≡ true → p (test k) ≡ true → list_any p (tests_below count xs) ≡ true
  found_at zero k xs lt h g = absurd (omega arith)
  found_at (suc count) k xs lt h g =
      let some = if is_number_in xs count then test count ∷ [] else [] in
      list_any-append p (tests_below count xs) some ∙
      ⊎_elim
      (λ same. or_right (list_any p (tests_below count xs)) (list_any p some)
      (chosen_found (is_number_in xs count) count (ap (λ n. is_number_in xs n) (sym same) ∙ h) (ap (λ n. p (test n)) (sym same) ∙ g)))
      (λ other. or_left (list_any p (tests_below count xs)) (list_any p some)
      (found_at count k xs (⊎_elim (λ less. less) (λ more. absurd (omega arith)) other) h g))
      (cases_order k count)

  found_below : (count : ℕ) (xs ys : List TestId) → EachBelow count ys → ((k : ℕ) → is_number_in ys k ≡ true → is_number_in xs k ≡ true) → list_any p ys ≡ true → list_any p (tests_below count xs) ≡ true
  found_below count xs [] below within h = absurd (cc)
  found_below count xs (y ∷ ys) below within h =
      ⊎_elim
      (λ here. found_at count y.0 xs below.0 (within y.0 (or_left (y.0 == y.0) (is_number_in ys y.0) (eq-eqb y.0 y.0 refl))) here)
      (λ there. found_below count xs ys below.1 (λ k g. within k (or_right (y.0 == k) (is_number_in ys k) g)) there)
      (or_cases (p y) (list_any p ys) h)

  -- If all tests of a list are below a number, the tests below that number pass exactly if those of the list do.
  pub alike_below : (count : ℕ) (xs : List TestId) → EachBelow count xs → list_any p (tests_below count xs) ≡ list_any p xs
  alike_below count xs below = agree (list_any p (tests_below count xs)) (list_any p xs) (found_above count xs) (found_below count xs xs below (λ k h. h))
    where
      agree : (a b : Bool) → (a ≡ true → b ≡ true) → (b ≡ true → a ≡ true) → a ≡ b
      agree true b f g = sym (f refl)
      agree false true f g = g refl
      agree false false f g = refl

module _ (sizes : Sizes) where
  condition_tests_below : (c : Condition) → ConditionFits sizes c → EachBelow sizes.tests (mentioned_in c)
  condition_tests_below (Leaf (LinkIs n s)) fits = tt
  condition_tests_below (Leaf (TestIs n)) fits = (fits, tt)
  condition_tests_below (NotSo c) fits = condition_tests_below c fits
  condition_tests_below (And a b) fits = each_both (λ (test : TestId). test.0 < sizes.tests) (mentioned_in a) (mentioned_in b) (condition_tests_below a fits.0) (condition_tests_below b fits.1)
  condition_tests_below (Or a b) fits = each_both (λ (test : TestId). test.0 < sizes.tests) (mentioned_in a) (mentioned_in b) (condition_tests_below a fits.0) (condition_tests_below b fits.1)

  pub block_tests_below : (block : Block) → BlockFits sizes block → EachBelow sizes.tests (mentioned block)
  block_tests_below Done fits = tt
  block_tests_below (RunThen n rest) fits = block_tests_below rest fits.1
  block_tests_below (SetStateThen n rest) fits = block_tests_below rest fits.1
  block_tests_below (IfThen c inner rest) fits =
      each_both (λ (test : TestId). test.0 < sizes.tests) (mentioned_in c) (mentioned inner ++ mentioned rest) (condition_tests_below c fits.0)
      (each_both (λ (test : TestId). test.0 < sizes.tests) (mentioned inner) (mentioned rest) (block_tests_below inner fits.1) (block_tests_below rest fits.2))

-- Stack for one value, if a list of tests is not empty.
abbrev pub HasRoomFor : ℕ → List TestId → Type 0
HasRoomFor stack [] = Unit {0}
HasRoomFor stack (test ∷ tests) = 1 ≤ stack

pub room_any : (stack : ℕ) (tests : List TestId) → 1 ≤ stack → HasRoomFor stack tests
room_any stack [] room = tt
room_any stack (test ∷ tests) room = room

none_below : (count : ℕ) → tests_below count [] ≡ []
none_below zero = refl
none_below (suc count) = append-nil (tests_below count []) ∙ none_below count

module _ (coder : Coder) (high : (c : Condition) → 1 ≤ coder.height c) where
  -- A block that mentions a test has stack for its value.
  block_high : (block : Block) → (mentioned block ≡ []) ⊎ (1 ≤ block_height coder block)
  block_high Done = inl refl
  block_high (RunThen n rest) = inr (omega arith)
  block_high (SetStateThen n rest) = inr (omega arith)
  block_high (IfThen c inner rest) = let h = high c in inr (omega (arith, h))

  pub body_room : (stack count : ℕ) (block : Block) → block_height coder block ≤ stack → HasRoomFor stack (holding count block)
  body_room stack count block room =
      ⊎_elim
      (λ none. subst (λ tests. HasRoomFor stack tests) (sym (ap (tests_below count) none ∙ none_below count)) tt)
      (λ tall. room_any stack (holding count block) (omega (arith, tall, room)))
      (block_high block)
