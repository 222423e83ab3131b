-- A macro name has no equals sign, so a word is split in one way.
use Rattle.std.proofs.Common.{ℕ, ◌<◌, ◌≡◌, ◌≢◌, Bool, true, false, ◌&&◌, eqb, ◌∷◌, List, []}
use Rattle.std.proofs.Common.{length, Option, get_or, arith, zero, suc, refl, Bor, MatchOption}
use Rattle.std.proofs.lemmas.Bool.Decides.{nat_tests}
use Rattle.std.proofs.lemmas.List.Sums.{prefix_len_passes}
use Rattle.std.proofs.lemmas.Str.Pattern.{IsSplitOnceResult, split_after}
use Rattle.std.specs.List.{prefix_len}
use Rattle.ifs_lex.specs.Characters.{begins_name, continues_name, is_macro_name}
use Rattle.ifs_command_line.specs.Definitions.{Defines}

begins_apart : (b : ℕ) → begins_name b ≡ true → b ≢ 61
begins_apart b = grind (arith, nat_tests)

continues_apart : (b : ℕ) → continues_name b ≡ true → b ≢ 61
continues_apart b = grind (arith, nat_tests)

first : (x y : Bool) → (x && y) ≡ true → x ≡ true
first true y h = refl
first false y h = h

second : (x : Bool) (n m : ℕ) → (x && eqb n m) ≡ true → n ≡ m
second x n m = grind (arith, nat_tests)

no_equals : (name : List ℕ) → is_macro_name name ≡ true → (i : ℕ) → i < length name → get_or name i 0 ≢ 61
no_equals [] h i under = omega arith
no_equals (b ∷ rest) h zero under = begins_apart b (first _ _ h)
no_equals (b ∷ rest) h (suc i) under =
    let whole : prefix_len continues_name rest ≡ length rest = second (begins_name b) _ _ h in
    continues_apart _ (prefix_len_passes continues_name rest i 0 (omega (arith, whole)))

-- A word that defines a name is split into that name and its value.
pub parted : (word : List ℕ) (found : Option (Bor (List ℕ) × Bor (List ℕ))) → IsSplitOnceResult 61 word found
    → (name value : List ℕ) → Defines word name value
    → MatchOption found ⊥ (λ x. (x.0.now ≡ name) × (x.1.now ≡ value))
parted word found splits name value defines =
    split_after 61 word name value found splits (omega arith) defines.parted (no_equals name defines.named)
