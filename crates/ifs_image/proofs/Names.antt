-- A name in a table: as a test, and as a fact.
use Rattle.std.proofs.Common.{◌≡◌, ◌≢◌, ℕ, ◌+◌, ◌<◌, ◌≤◌, Bool, true, false, List, [], ◌∷◌}
use Rattle.std.proofs.Common.{◌++◌, get_or, take, length, map, refl, sym, ap, ◌∙◌, ◌||◌, arith}
use Rattle.std.specs.Prelude.{Contains, IsTrue}
use Rattle.std.specs.Bool.{Decides}
use Rattle.std.specs.Str.{bytes_eq}
use Rattle.std.proofs.lemmas.Bool.Decides.{Decides-by_or, not_from_Decides}
use Rattle.std.proofs.lemmas.List.{get_or_default, get_or-take, length-take, take_more, take_all}
use Rattle.std.proofs.lemmas.List.Elements.{Decides-contains}
use Rattle.std.proofs.lemmas.List.Quantifiers.{all_pairs_push}
use Rattle.std.proofs.lemmas.Slice.Eq.{bytes_eq-Decides}
use Rattle.ifs_image.specs.Limits.{AreDistinct, names_of}
use Rattle.ifs_image.specs.declared.parts.StateSpec.{StateSpec}
use Rattle.std.specs.List.{list_any}
use Rattle.ifs_image.specs.Reading.{stands_in}

pub stands_in-Decides : (name : List ℕ) (names : List (List ℕ)) → Decides (stands_in name names) (Contains names name)
stands_in-Decides name names =
    Decides-contains names name (stands_in name names) (Decides-by_or (λ other. bytes_eq other name) (λ other. other ≡ name) (stands_in name) (λ other. bytes_eq-Decides other name) refl (λ _ _. refl) names)

-- Distinct names stay distinct with one more that is not among them.
pub AreDistinct-push : (names : List (List ℕ)) (name : List ℕ) → AreDistinct names → stands_in name names ≡ false → AreDistinct (names ++ name ∷ [])
AreDistinct-push names name apart absent =
    all_pairs_push (λ x y. x ≢ y) names name apart (λ k d lt e. not_from_Decides (stands_in name names) (stands_in-Decides name names) absent (k, lt, get_or_default names k name d lt ∙ e))

pub distinct_more : (names : List (List ℕ)) (i : ℕ) (d : List ℕ) → i < length names → AreDistinct (take i names) → stands_in (get_or names i d) (take i names) ≡ false → AreDistinct (take (i + 1) names)
distinct_more names i d lt apart absent =
    rw (take_more names i d lt) (AreDistinct-push (take i names) (get_or names i d) apart absent)

-- Names are not distinct if one of them occurs earlier.
pub distinct_broken : (names : List (List ℕ)) (i : ℕ) (d : List ℕ) → i < length names → stands_in (get_or names i d) (take i names) ≡ true → AreDistinct names → ⊥
distinct_broken names i d lt there apart =
    let name = get_or names i d in
    let found = (stands_in-Decides name (take i names)).0 there in
    let below : found.0 < i = omega (arith, length-take i names, found.1) in
    apart found.0 i name below lt (sym (get_or-take i names found.0 name below) ∙ found.2 ∙ get_or_default names i d name lt)

-- A test of the values of a function.
pub list_any-map : {X Y : Type 0} (p : Y → Bool) (f : X → Y) (xs : List X) → list_any p (map f xs) ≡ list_any (λ x. p (f x)) xs
list_any-map p f [] = refl
list_any-map p f (x ∷ xs) = ap (λ (b : Bool). p (f x) || b) (list_any-map p f xs)

pub stands_in-names_of : (name : List ℕ) (states : List StateSpec) → stands_in name (names_of states) ≡ list_any (λ s. bytes_eq s.name name) states
stands_in-names_of name states = list_any-map (λ other. bytes_eq other name) (λ s. s.name) states

-- `false` decides what cannot be.
pub is_refused : {P : Type 0} → (P → ⊥) → (IsTrue false → P) × (P → IsTrue false)
is_refused never = (λ h. absurd cc, λ p. absurd (never p))

-- A name that occurs earlier, in the words of a loop.
pub found_again : (names : List (List ℕ)) (i : ℕ) (name asked : List ℕ) (b : Bool) → i < length names → name ≡ get_or names i name → asked ≡ name → b ≡ stands_in asked (take i names) → b ≡ true → AreDistinct names → ⊥
found_again names i name asked b lt at same tested found apart =
    let e : stands_in (get_or names i name) (take i names) ≡ true = rw (← at, ← same, ← tested) found in
    distinct_broken names i name lt e apart

pub found_first : (names : List (List ℕ)) (i : ℕ) (name asked : List ℕ) (b : Bool) → i < length names → name ≡ get_or names i name → asked ≡ name → b ≡ stands_in asked (take i names) → b ≡ false → AreDistinct (take i names) → AreDistinct (take (i + 1) names)
found_first names i name asked b lt at same tested found apart =
    let e : stands_in (get_or names i name) (take i names) ≡ false = rw (← at, ← same, ← tested) found in
    distinct_more names i name lt apart e

pub all_apart : (names : List (List ℕ)) (i : ℕ) → length names ≤ i → AreDistinct (take i names) → (IsTrue true → AreDistinct names) × (AreDistinct names → IsTrue true)
all_apart names i le apart = (λ _. rw (take_all i names le) at apart, λ _. refl)
