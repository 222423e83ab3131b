-- The value of the bytes between two quotes, part by part.
use Rattle.std.proofs.Common.{◌≡◌, ℕ, suc, ◌+◌, ◌<◌, Bool, true, false, cond, eqb, ◌&&◌, ◌||◌}
use Rattle.std.proofs.Common.{List, [], ◌∷◌, ◌++◌, length, take, drop, get_or, Option, Some}
use Rattle.std.proofs.Common.{None, option_map, refl, sym, ◌∙◌, ap, subst, arith, length-drop}
use Rattle.std.specs.Str.{IsUtf8, IsCharBoundary}
use Rattle.std.proofs.lemmas.Bool.Decides.{nat_tests}
use Rattle.std.proofs.lemmas.Str.{IsCharBoundary-before_ascii, IsCharBoundary-after_ascii, IsUtf8-drop}
use Rattle.ifs_lex.specs.Lexemes.{is_dropped, quoted_value}
use Rattle.ifs_lex.specs.inner.Pieces.{kept_len}

-- The bytes before the first dropped byte, and then the value of the bytes after it.
pub record KeptTo (q : ℕ) (bs : List ℕ) (n : ℕ) : Type 0 where
  pub within : n < length bs
  pub ascii : get_or bs n 0 < 128
  pub first : get_or (drop n bs) 0 0 < 128
  pub value : quoted_value q bs ≡ take n bs ++ quoted_value q (drop 1 (drop n bs))

escape_ascii : (b : ℕ) (there : Bool) → (eqb b 10 || (eqb b 92 && there)) ≡ true → b < 128
escape_ascii b there h = grind (arith, nat_tests)

dropped_ascii : (q b : ℕ) (rest : List ℕ) → is_dropped q b rest ≡ true → b < 128
unfolding is_dropped
dropped_ascii q b rest h = escape_ascii b _ h

kept_test : (q b n : ℕ) (rest : List ℕ) (t : Bool) (m : Option ℕ) → is_dropped q b rest ≡ t → ((k : ℕ) → m ≡ Some k → KeptTo q rest k) → cond t (Some 0) (option_map (λ i. 1 + i) m) ≡ Some n → KeptTo q (b ∷ rest) n
kept_test q b n rest true m e ih h =
    let z : 0 ≡ n = cc in
    let P : ℕ → Type 0 = λ i. KeptTo q (b ∷ rest) i in
    subst P z (record {
      within = omega arith;
      ascii = dropped_ascii q b rest e;
      first = dropped_ascii q b rest e;
      value = ap (λ t. cond t (quoted_value q rest) (b ∷ quoted_value q rest)) e;
    })
kept_test q b n rest false None e ih h = absurd (cc)
kept_test q b n rest false (Some k) e ih h =
    let z : 1 + k ≡ n = cc in
    let s : suc k ≡ n = omega arith in
    let P : ℕ → Type 0 = λ i. KeptTo q (b ∷ rest) i in
    let f = ih k refl in
    subst P s (record {
      within = omega (arith, f.within);
      ascii = f.ascii;
      first = f.first;
      value = ap (λ t. cond t (quoted_value q rest) (b ∷ quoted_value q rest)) e ∙ ap (λ xs. b ∷ xs) f.value;
    })

kept_to : (q : ℕ) (bs : List ℕ) (n : ℕ) → kept_len q bs ≡ Some n → KeptTo q bs n
kept_to q [] n h = absurd (cc)
kept_to q (b ∷ rest) n h = kept_test q b n rest _ _ refl (λ k e. kept_to q rest k e) h

whole_test : (q b : ℕ) (rest : List ℕ) (t : Bool) (m : Option ℕ) → is_dropped q b rest ≡ t → (m ≡ None → quoted_value q rest ≡ rest) → cond t (Some 0) (option_map (λ i. 1 + i) m) ≡ None → quoted_value q (b ∷ rest) ≡ b ∷ rest
whole_test q b rest true m e ih h = absurd (cc)
whole_test q b rest false None e ih h =
    ap (λ t. cond t (quoted_value q rest) (b ∷ quoted_value q rest)) e ∙ ap (λ xs. b ∷ xs) (ih refl)
whole_test q b rest false (Some k) e ih h = absurd (cc)

-- The value is all bytes if none is dropped.
pub kept_whole : (q : ℕ) (bs : List ℕ) → kept_len q bs ≡ None → quoted_value q bs ≡ bs
kept_whole q [] h = refl
kept_whole q (b ∷ rest) h = whole_test q b rest _ _ refl (λ e. kept_whole q rest e) h

-- The same of the bytes of a text, with the places of the cuts.
pub record Kept (q : ℕ) (text : List ℕ) (n : ℕ) : Type 0 where
  pub before : IsCharBoundary text n
  pub after : IsCharBoundary (drop n text) 1
  pub value : quoted_value q text ≡ take n text ++ quoted_value q (drop 1 (drop n text))

pub kept : (q : ℕ) (text bytes : List ℕ) (n : ℕ) → IsUtf8 bytes → bytes ≡ text → Some n ≡ kept_len q bytes → Kept q text n
kept q text bytes n u e h =
    let f = kept_to q bytes n (sym h) in
    let before = IsCharBoundary-before_ascii bytes n f.within f.ascii in
    let P : List ℕ → Type 0 = λ xs. Kept q xs n in
    subst P e (record {
      before = before;
      after = IsCharBoundary-after_ascii (drop n bytes) 0 (IsUtf8-drop bytes n u before) (omega (arith, length-drop n bytes, f.within)) f.first;
      value = f.value;
    })

pub kept_parts : (q n : ℕ) (text front back rest : List ℕ) → Kept q text n → front ≡ take n text → back ≡ drop n text → rest ≡ drop 1 back → quoted_value q text ≡ front ++ quoted_value q rest
kept_parts q n text front back rest f e1 e2 e3 = rw (e1, e3, e2) f.value
