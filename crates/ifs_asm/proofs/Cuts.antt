-- Bytes that are split at the first byte that passes a test, and then at the others.
use Rattle.std.proofs.Common.{◌≡◌, ℕ, ◌+◌, ◌-◌, ◌<◌, ◌≤◌, Bool, true, false, cond, List, [], ◌∷◌}
use Rattle.std.proofs.Common.{◌++◌, length, map, take, drop, Option, Some, None, refl, sym, ap, ◌∙◌, arith}
use Rattle.std.specs.Prelude.{◌||◌, not, nat_lt, MatchOption}
use Rattle.std.specs.List.{slice_split, onto_first, prefix_len, position, position_or_len, list_any}
use Rattle.std.specs.Str.{bytes_eq}
use Rattle.std.proofs.lemmas.Bool.{not-true}
use Rattle.std.proofs.lemmas.Bool.Decides.{nat_tests}
use Rattle.std.proofs.lemmas.List.{take_rest}
use Rattle.std.proofs.lemmas.List.Sums.{prefix_len-le-length}
use Rattle.std.proofs.lemmas.List.Splits.{slice_split_first}
use Rattle.ifs_base.specs.Words.{hex_digit, IsNoDigit}
use Rattle.ifs_image.specs.declared.parts.StateSpec.{StateSpec}
use Rattle.ifs_image.specs.Limits.{names_of}
use Rattle.ifs_image.specs.Reading.{stands_in}
use Rattle.ifs_asm.specs.inner.Words.{hex_value}
use Rattle.ifs_asm.proofs.Bytes.{by_prefix}
use Rattle.ifs_asm.proofs.Quotes.{digit_value_is, value_digit}

place_some : (n m i : ℕ) → cond (nat_lt n m) (Some n) None ≡ Some i → (n ≡ i) × (n < m)
place_some n m i e = (grind (arith, nat_tests), grind (arith, nat_tests))

place_none : (n m : ℕ) → n ≤ m → cond (nat_lt n m) (Some n) None ≡ None → n ≡ m
place_none n m most e = grind (arith, nat_tests)

pub cut_some : (p : ℕ → Bool) (xs : List ℕ) (i : ℕ) → position p xs ≡ Some i → slice_split p xs ≡ take i xs ∷ slice_split p (take (length xs - (i + 1)) (drop (i + 1) xs))
cut_some p xs i e =
    let s = place_some (position_or_len p xs) (length xs) i e in
    slice_split_first p xs 0 s.1 ∙ ap (λ (n : ℕ). take n xs ∷ slice_split p (drop (n + 1) xs)) s.0
    ∙ ap (λ (rest : List ℕ). take i xs ∷ slice_split p rest) (sym (take_rest xs (i + 1)))

none_split : (p : ℕ → Bool) (xs : List ℕ) → length xs ≤ prefix_len (λ y. not (p y)) xs → slice_split p xs ≡ xs ∷ []
none_split p xs = by_prefix (λ y. not (p y)) (λ n ys. length ys ≤ n → slice_split p ys ≡ ys ∷ []) (λ h. refl) (λ b bs e h. absurd (omega (arith, h)))
    (λ b n bs e ih h. rw (not-true (p b) e) (ap (onto_first b) (ih (omega (arith, h))))) xs

pub cut_none : (p : ℕ → Bool) (xs : List ℕ) → position p xs ≡ None → slice_split p xs ≡ xs ∷ []
cut_none p xs e =
    let all = place_none (position_or_len p xs) (length xs) (prefix_len-le-length (λ x. not (p x)) xs) e in
    none_split p xs (omega (arith, all))

-- ---- lines

pub line_case : (line : List ℕ) (others : List (List ℕ)) (b : Bool) → cond (not b) (line ∷ others) others ≡ cond b [] (line ∷ []) ++ others
line_case line others true = refl
line_case line others false = refl

-- ---- names and digits

list_any-map : {X Y : Type 0} (p : Y → Bool) (f : X → Y) (xs : List X) → list_any p (map f xs) ≡ list_any (λ x. p (f x)) xs
list_any-map p f [] = refl
list_any-map p f (x ∷ xs) = ap (λ (b : Bool). p (f x) || b) (list_any-map p f xs)

pub stands_in-names_of : (name : List ℕ) (states : List StateSpec) → stands_in name (names_of states) ≡ list_any (λ s. bytes_eq s.name name) states
stands_in-names_of name states = list_any-map (λ other. bytes_eq other name) (λ s. s.name) states

value_case : (byte : ℕ) (o : Option ℕ) → IsNoDigit byte → hex_value byte ≡ o → None ≡ o
value_case byte None none e = refl
value_case byte (Some d) none e =
    let v = value_digit byte d e in
    absurd (none d v.0 v.1)

pub value_is : (byte : ℕ) (o : Option ℕ) → MatchOption o (IsNoDigit byte) (λ digit. (digit < 16) × (byte ≡ hex_digit digit)) → o ≡ hex_value byte
value_is byte None h = value_case byte (hex_value byte) h refl
value_is byte (Some d) h = sym (digit_value_is d h.0) ∙ ap hex_value (sym h.1)
