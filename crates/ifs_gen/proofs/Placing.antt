-- The number of a code in a table is its position.
use Rattle.std.proofs.Common.{◌≡◌, ◌∙◌, ℕ, zero, suc, ◌+◌, Bool, true, false, cond, not, List, length}
use Rattle.std.proofs.Common.{[], ◌∷◌, refl, sym, ap, arith, Option, Some, None, option_map, nat_lt}
use Rattle.std.specs.Prelude.{position}
use Rattle.std.specs.List.{position_or_len}
use Rattle.std.proofs.lemmas.Bool.{lt-ltb, le-ltb, ltb-true, ltb-false}
use Rattle.ifs_base.specs.declared.op.Op.{Op}
use Rattle.ifs_gen.specs.Trees.{Condition}
use Rattle.ifs_gen.specs.PlainCode.{condition_code}
use Rattle.ifs_gen.specs.Sharing.{same_code, place_in, in_place}
use Rattle.ifs_gen.specs.inner.Emission.{test_code}

-- A number that is less than a count; none otherwise.
abbrev below : ℕ → ℕ → Option ℕ
below n count = cond (nat_lt n count) (Some n) None

one_more : (n count : ℕ) (b : Bool) → nat_lt n count ≡ b → option_map suc (cond b (Some n) None) ≡ below (1 + n) (suc count)
one_more n count true e =
    let less = ltb-true n count e in
    let next : suc n ≡ 1 + n = omega arith in
    ap (λ k. Some k) next ∙ ap (λ b. cond b (Some (1 + n)) None) (sym (lt-ltb (1 + n) (suc count) (omega (arith, less))))
one_more n count false e =
    let past = ltb-false n count e in
    ap (λ b. cond b (Some (1 + n)) None) (sym (le-ltb (1 + n) (suc count) (omega (arith, past))))

place_is : (table : List (List Op)) (code : List Op) → place_in table code ≡ position (same_code code) table
place_is [] code = refl
place_is (entry ∷ table) code = by (same_code code entry) refl (place_is table code)
  where
    by : (b : Bool) → same_code code entry ≡ b → place_in table code ≡ position (same_code code) table
        → cond (same_code code entry) (Some zero) (option_map suc (place_in table code)) ≡ below (cond (not (same_code code entry)) (1 + position_or_len (same_code code) table) 0) (suc (length table))
    by true e more =
        ap (λ c. cond c (Some zero) (option_map suc (place_in table code))) e ∙ ap (λ c. cond c (Some 0) None) (sym (lt-ltb 0 (suc (length table)) (omega arith)))
        ∙ ap (λ c. below (cond (not c) (1 + position_or_len (same_code code) table) 0) (suc (length table))) (sym e)
    by false e more =
        ap (λ c. cond c (Some zero) (option_map suc (place_in table code))) e ∙ ap (option_map suc) more
        ∙ one_more (position_or_len (same_code code) table) (length table) (nat_lt (position_or_len (same_code code) table) (length table)) refl
        ∙ ap (λ c. below (cond (not c) (1 + position_or_len (same_code code) table) 0) (suc (length table))) (sym e)

-- The code of a condition, by its position in the table.
pub test_is : (table : List (List Op)) (condition : Condition) (code : List Op) (place : Option ℕ) → code ≡ condition_code condition → place ≡ position (same_code code) table
    → in_place code place ≡ test_code table condition
test_is table condition code place code_is place_at =
    ap (in_place code) (place_at ∙ sym (place_is table code)) ∙ ap (λ c. in_place c (place_in table c)) code_is
