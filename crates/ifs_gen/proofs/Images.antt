-- The image of a policy, entry by entry: its routines and its states.
use Rattle.std.proofs.Common.{◌≡◌, ℕ, zero, suc, ◌+◌, ◌*◌, ◌^◌, ◌<◌, ◌≤◌, Bool, true, false, List}
use Rattle.std.proofs.Common.{[], ◌∷◌, ◌++◌, length, map, Some, refl, sym, ap, ◌∙◌, arith}
use Rattle.std.specs.Prelude.{slice_get, All, ◌==◌, if◌then◌else◌}
use Rattle.std.specs.List.{list_any}
use Rattle.std.proofs.lemmas.List.{length-map}
use Rattle.std.proofs.lemmas.List.Elements.{All-head, All-tail}
use Rattle.std.proofs.lemmas.Option.{none-some, same_Some}
use Rattle.std.proofs.Math.Nat.{pow-suc}
use Rattle.ifs_base.specs.declared.ids.TestId.{TestId}
use Rattle.ifs_image.specs.declared.parts.Budgets.{Budgets}
use Rattle.ifs_image.specs.declared.parts.StateSpec.{StateSpec}
use Rattle.ifs_image.specs.declared.parts.Routine.{Routine}
use Rattle.ifs_image.specs.declared.parts.ImageParts.{ImageParts}
use Rattle.ifs_gen.specs.Trees.{Part, Policy}
use Rattle.ifs_gen.specs.PlainCode.{Coder, tests_below, body_code, init_code}
use Rattle.ifs_gen.specs.PlainSizes.{parts_of, mask_of, greatest, number_in}
use Rattle.ifs_gen.specs.PolicyImage.{handlers_of, states_from, routine_of_code, routines_of, shared_routine}
use Rattle.ifs_gen.specs.PolicyImage.{shared_of, image_with}
use Rattle.ifs_gen.specs.Runs.{HasShared}

-- The routines of part k.
pub init_at : (coder : Coder) (count : ℕ) (parts : List Part) (k : ℕ) (part : Part) → slice_get parts k ≡ Some part
    → slice_get (routines_of coder count parts) (2 * k) ≡ Some (routine_of_code (init_code coder part.init))
init_at coder count [] k part e = absurd (none-some part e)
init_at coder count (x ∷ parts) zero part e = ap (λ (p : Part). Some (routine_of_code (init_code coder p.init))) (same_Some x part e)
init_at coder count (x ∷ parts) (suc k) part e =
    let two : 2 * suc k ≡ suc (suc (2 * k)) = omega arith in
    ap (slice_get (routines_of coder count (x ∷ parts))) two ∙ init_at coder count parts k part e

pub body_at : (coder : Coder) (count : ℕ) (parts : List Part) (k : ℕ) (part : Part) → slice_get parts k ≡ Some part
    → slice_get (routines_of coder count parts) (2 * k + 1) ≡ Some (routine_of_code (body_code coder count part.body))
body_at coder count [] k part e = absurd (none-some part e)
body_at coder count (x ∷ parts) zero part e = ap (λ (p : Part). Some (routine_of_code (body_code coder count p.body))) (same_Some x part e)
body_at coder count (x ∷ parts) (suc k) part e =
    let two : 2 * suc k + 1 ≡ suc (suc (2 * k + 1)) = omega arith in
    ap (slice_get (routines_of coder count (x ∷ parts))) two ∙ body_at coder count parts k part e

pub routines_long : (coder : Coder) (count : ℕ) (parts : List Part) → length (routines_of coder count parts) ≡ 2 * length parts
routines_long coder count [] = refl
routines_long coder count (x ∷ parts) = let e = routines_long coder count parts in omega (arith, e)

pub states_long : (shared count k : ℕ) (names : List (List ℕ)) (parts : List Part) → length parts ≡ length names → length (states_from shared count k names parts) ≡ length names
states_long shared count k [] parts e = refl
states_long shared count k (x ∷ names) [] e = absurd (omega (arith, e))
states_long shared count k (x ∷ names) (part ∷ parts) e = ap suc (states_long shared count (k + 1) names parts (omega (arith, e)))

-- A state of the image is a state of the policy.
pub record StateAt (shared count k : ℕ) (names : List (List ℕ)) (parts : List Part) (j : ℕ) (spec : StateSpec) : Type 0 where
  pub name : List ℕ
  pub part : Part
  pub named : slice_get names j ≡ Some name
  pub at : slice_get parts j ≡ Some part
  pub is : spec ≡ (let s : StateSpec = record { name = name; handlers = handlers_of shared count (k + j) part } in s)

pub state_at : (shared count k : ℕ) (names : List (List ℕ)) (parts : List Part) (j : ℕ) (spec : StateSpec) → slice_get (states_from shared count k names parts) j ≡ Some spec → StateAt shared count k names parts j spec
state_at shared count k [] parts j spec e = absurd (none-some spec e)
state_at shared count k (x ∷ names) [] j spec e = absurd (none-some spec e)
state_at shared count k (x ∷ names) (part ∷ parts) zero spec e =
    let made : ℕ → StateSpec = λ n. record { name = x; handlers = handlers_of shared count n part } in
    let same : k ≡ k + 0 = omega arith in
    record { name = x; part = part; named = refl; at = refl; is = sym (same_Some _ spec e) ∙ ap made same }
state_at shared count k (x ∷ names) (part ∷ parts) (suc j) spec e =
    let s = state_at shared count (k + 1) names parts j spec e in
    let made : ℕ → StateSpec = λ n. record { name = s.name; handlers = handlers_of shared count n s.part } in
    let same : k + 1 + j ≡ k + suc j = omega arith in
    record { name = s.name; part = s.part; named = s.named; at = s.at; is = s.is ∙ ap made same }

-- A state of the policy is a state of the image.
pub record SpecAt (shared count k : ℕ) (names : List (List ℕ)) (parts : List Part) (j : ℕ) (part : Part) : Type 0 where
  pub spec : StateSpec
  pub at : slice_get (states_from shared count k names parts) j ≡ Some spec
  pub handlers : spec.handlers ≡ handlers_of shared count (k + j) part

pub spec_at : (shared count k : ℕ) (names : List (List ℕ)) (parts : List Part) (j : ℕ) (part : Part) → length parts ≡ length names → slice_get parts j ≡ Some part → SpecAt shared count k names parts j part
spec_at shared count k names [] j part long e = absurd (none-some part e)
spec_at shared count k [] (x ∷ parts) j part long e = absurd (omega (arith, long))
spec_at shared count k (name ∷ names) (x ∷ parts) zero part long e =
    let same : k ≡ k + 0 = omega arith in
    record { spec = record { name = name; handlers = handlers_of shared count k x }; at = refl; handlers = ap (handlers_of shared count k) (same_Some x part e) ∙ ap (λ n. handlers_of shared count n part) same }
spec_at shared count k (name ∷ names) (x ∷ parts) (suc j) part long e =
    let s = spec_at shared count (k + 1) names parts j part (omega (arith, long)) e in
    let same : k + 1 + j ≡ k + suc j = omega arith in
    record { spec = s.spec; at = s.at; handlers = s.handlers ∙ ap (λ n. handlers_of shared count n part) same }

-- The part of a state follows the always part and those of earlier states.
pub part_at : (policy : Policy) (j : ℕ) (part : Part) → slice_get policy.states j ≡ Some part → slice_get (parts_of policy) (1 + j) ≡ Some part
part_at policy j part e = let one : 1 + j ≡ suc j = omega arith in ap (slice_get (parts_of policy)) one ∙ e

pub at_most_greatest : {T : Type 0} (number : T → ℕ) (xs : List T) (j : ℕ) (x : T) → slice_get xs j ≡ Some x → number x ≤ greatest number xs
at_most_greatest number [] j x e = absurd (none-some x e)
at_most_greatest number (y ∷ xs) zero x e = let same = ap number (same_Some y x e) in omega (arith, same)
at_most_greatest number (y ∷ xs) (suc j) x e = let h = at_most_greatest number xs j x e in omega (arith, h)

pub number_low : {T : Type 0} (number : T → ℕ) (xs : List T) (k : ℕ) → number_in number (slice_get xs k) ≤ greatest number xs
number_low number [] k = omega arith
number_low number (x ∷ xs) zero = omega arith
number_low number (x ∷ xs) (suc k) = let h = number_low number xs k in omega (arith, h)

pub greatest_below : {T : Type 0} (number : T → ℕ) (xs : List T) (b : ℕ) → All (λ x. number x ≤ b) xs → greatest number xs ≤ b
greatest_below number [] b h = omega arith
greatest_below number (x ∷ xs) b h =
    let first = All-head (λ x. number x ≤ b) x xs h in
    let rest = greatest_below number xs b (All-tail (λ x. number x ≤ b) x xs h) in
    omega (arith, first, rest)

-- The set of tests below a number.
pub mask_append : (xs ys : List TestId) → mask_of (xs ++ ys) ≡ mask_of xs + mask_of ys
mask_append [] ys = let e : mask_of ys ≡ 0 + mask_of ys = omega arith in e
mask_append (x ∷ xs) ys = let e = mask_append xs ys in omega (arith, e)

mask_chosen : (b : Bool) (n : ℕ) → mask_of (if b then record { 0 = n } ∷ [] else []) ≤ 2 ^ n
mask_chosen true n = omega arith
mask_chosen false n = omega arith

pub mask_below : (count : ℕ) (tests : List TestId) → mask_of (tests_below count tests) < 2 ^ count
mask_below zero tests = omega arith
mask_below (suc count) tests =
    let b = list_any (λ (test : TestId). test.0 == count) tests in
    let e = mask_append (tests_below count tests) (if b then record { 0 = count } ∷ [] else []) in
    let h = mask_below count tests in
    let g = mask_chosen b count in
    let twice = pow-suc 2 count in
    omega (arith, e, h, g, twice)

-- The entries of two lists in sequence.
pub right_at : {T : Type 0} (xs ys : List T) (i : ℕ) → slice_get (xs ++ ys) (length xs + i) ≡ slice_get ys i
right_at [] ys i = let same : 0 + i ≡ i = omega arith in ap (slice_get ys) same
right_at (x ∷ xs) ys i = let same : suc (length xs) + i ≡ suc (length xs + i) = omega arith in ap (slice_get (x ∷ (xs ++ ys))) same ∙ right_at xs ys i

pub left_at : {T U : Type 0} (f : T → U) (xs : List T) (ys : List U) (i : ℕ) (x : T) → slice_get xs i ≡ Some x → slice_get (map f xs ++ ys) i ≡ Some (f x)
left_at f [] ys i x e = absurd (none-some x e)
left_at f (y ∷ xs) ys zero x e = ap (λ z. Some (f z)) (same_Some y x e)
left_at f (y ∷ xs) ys (suc i) x e = left_at f xs ys i x e

module _ (policy : Policy) (budgets : Budgets) where
  abbrev pub shared_first : ImageParts
  shared_first = image_with budgets policy

  -- The shared routines are at their numbers.
  pub has_shared : HasShared shared_first (shared_of policy)
  has_shared k code e = left_at shared_routine (shared_of policy) _ k code e

  -- Those of the parts follow.
  pub behind : (handlers : List Routine) (i : ℕ) → slice_get (map shared_routine (shared_of policy) ++ handlers) (length (shared_of policy) + i) ≡ slice_get handlers i
  behind handlers i =
      ap (λ n. slice_get (map shared_routine (shared_of policy) ++ handlers) (n + i)) (sym (length-map (shared_of policy) shared_routine)) ∙ right_at (map shared_routine (shared_of policy)) handlers i
