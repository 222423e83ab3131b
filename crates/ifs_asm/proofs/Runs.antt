-- Runs of plain bytes.
use Rattle.std.proofs.Common.{◌≡◌, ℕ, ◌<◌, true, false, subst, drop-cons, append_assoc}
use Rattle.std.proofs.Common.{length-drop, List, [], ◌∷◌, ◌++◌, length, take, drop, get_or, refl, sym, ap, ◌∙◌, arith}
use Rattle.std.specs.List.{flat_map, prefix_len}
use Rattle.std.specs.Str.{IsUtf8, IsCharBoundary}
use Rattle.std.proofs.lemmas.Str.{IsCharBoundary-before_ascii, IsCharBoundary-after_ascii, IsUtf8-drop}
use Rattle.std.proofs.lemmas.List.{take_all, drop_all, append-nil}
use Rattle.std.proofs.lemmas.List.Sums.{prefix_len-le-length, prefix_len_stops}
use Rattle.std.proofs.lemmas.Bool.Decides.{nat_tests}
use Rattle.ifs_base.specs.Words.{quoted_byte}
use Rattle.ifs_asm.specs.Spellings.{is_plain}
use Rattle.ifs_asm.proofs.Bytes.{by_prefix}

plain_byte : (b : ℕ) → is_plain b ≡ true → quoted_byte b ≡ b ∷ []
plain_byte b h = grind (arith, nat_tests)

-- A byte that is not plain is in ASCII.
pub other_ascii : (b : ℕ) → is_plain b ≡ false → b < 128
other_ascii b h = grind (arith, nat_tests)

run_is : (bs : List ℕ) → flat_map quoted_byte bs ≡ take (prefix_len is_plain bs) bs ++ flat_map quoted_byte (drop (prefix_len is_plain bs) bs)
run_is bs = by_prefix is_plain (λ n xs. flat_map quoted_byte xs ≡ take n xs ++ flat_map quoted_byte (drop n xs)) refl (λ b xs e. refl)
    (λ b n xs e ih. ap (λ (q : List ℕ). q ++ flat_map quoted_byte xs) (plain_byte b e) ∙ ap (λ (ys : List ℕ). b ∷ ys) ih) bs

-- A text up to its first byte that is not plain, and the bytes after that one.
pub record SplitAt (bs : List ℕ) (n : ℕ) : Type 0 where
  pub within : n < length bs
  pub ascii : get_or bs n 0 < 128
  pub first : get_or (drop n bs) 0 0 < 128
  pub value : flat_map quoted_byte bs ≡ take n bs ++ quoted_byte (get_or bs n 0) ++ flat_map quoted_byte (drop 1 (drop n bs))

pub split : (bs : List ℕ) (n : ℕ) → n ≡ prefix_len is_plain bs → (n ≡ length bs → ⊥) → SplitAt bs n
split bs n e never =
    let le = prefix_len-le-length is_plain bs in
    let within : n < length bs = omega (arith, never) in
    let below : prefix_len is_plain bs < length bs = omega arith in
    let P : ℕ → Type 0 = λ m. is_plain (get_or bs m 0) ≡ false in
    let ascii = other_ascii (get_or bs n 0) (subst P (sym e) (prefix_len_stops is_plain bs 0 below)) in
    let cons = drop-cons bs n 0 within in
    record {
      within = within;
      ascii = ascii;
      first = rw cons ascii;
      value =
          let Q : ℕ → Type 0 = λ m. flat_map quoted_byte bs ≡ take m bs ++ flat_map quoted_byte (drop m bs) in
          let whole = subst Q (sym e) (run_is bs) in
          let back : flat_map quoted_byte (drop n bs) ≡ quoted_byte (get_or bs n 0) ++ flat_map quoted_byte (drop 1 (drop n bs)) = rw cons refl in
          whole ∙ ap (λ (t : List ℕ). take n bs ++ t) back ∙ sym (append_assoc (take n bs) (quoted_byte (get_or bs n 0)) (flat_map quoted_byte (drop 1 (drop n bs))));
    }

pub whole : (bs : List ℕ) (n : ℕ) → n ≡ prefix_len is_plain bs → n ≡ length bs → flat_map quoted_byte bs ≡ bs
whole bs n e same =
    let Q : ℕ → Type 0 = λ m. flat_map quoted_byte bs ≡ take m bs ++ flat_map quoted_byte (drop m bs) in
    let h = subst Q (sym e) (run_is bs) in
    let front : take n bs ≡ bs = take_all n bs (omega arith) in
    let back : drop n bs ≡ [] = drop_all n bs (omega arith) in
    h ∙ rw (front, back) (append-nil bs)

-- After the byte that is not plain.
pub first_cut : (bytes text back : List ℕ) (n : ℕ) → IsUtf8 bytes → bytes ≡ text → back ≡ drop n text → SplitAt bytes n → IsCharBoundary back 1
first_cut bytes text back n u e b f =
    let cut = IsCharBoundary-before_ascii bytes n f.within f.ascii in
    let rest = IsUtf8-drop bytes n u cut in
    let one : IsCharBoundary (drop n bytes) 1 = IsCharBoundary-after_ascii (drop n bytes) 0 rest (omega (arith, length-drop n bytes, f.within)) f.first in
    let P : List ℕ → Type 0 = λ xs. IsCharBoundary xs 1 in
    subst P (ap (drop n) e ∙ sym b) one
