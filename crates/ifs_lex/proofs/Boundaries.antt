-- Where a text may be cut: before and after bytes of ASCII.
use Rattle.std.proofs.Common.{◌≡◌, ℕ, zero, suc, ◌+◌, ◌-◌, ◌<◌, ◌≤◌, Bool, true, false, cond, eqb, ◌&&◌, ◌||◌, List}
use Rattle.std.proofs.Common.{[], ◌∷◌, ◌++◌, length, drop, get_or, Option, Some, None, refl, sym, ◌∙◌, ap, subst}
use Rattle.std.proofs.Common.{arith}
use Rattle.std.specs.List.{prefix_len}
use Rattle.std.specs.Option.{option_map_or}
use Rattle.std.specs.Str.{IsUtf8, IsCharBoundary}
use Rattle.std.proofs.lemmas.Bool.Decides.{nat_tests}
use Rattle.std.proofs.lemmas.List.Sums.{prefix_len-le-length, prefix_len_passes}
use Rattle.std.proofs.lemmas.Str.{IsCharBoundary-start, IsCharBoundary-after_ascii}
use Rattle.std.proofs.lemmas.Str.{IsCharBoundary-before_ascii, IsCharBoundary-from_rest, IsUtf8-drop}
use Rattle.ifs_lex.specs.Characters.{is_blank, is_quote, continues_word, continues_name}
use Rattle.ifs_lex.specs.Lexemes.{Gap, Blanks, Comment, Lexeme, gap_after, gap_len, inside_len, Scan, lexeme_here}
use Rattle.ifs_lex.specs.Spelling.{IsLexeme, word, quoted, uses, sign}
use Rattle.ifs_lex.proofs.Spelt.{prefix_longest, longest_once, closes}
use Rattle.ifs_lex.proofs.Scanned.{by_sign, Reads, at_end, an_lexeme, no_lexeme, reads}

word_ascii : (b : ℕ) → continues_word b ≡ true → b < 128
word_ascii b h = grind (arith, nat_tests)

name_ascii : (b : ℕ) → continues_name b ≡ true → b < 128
name_ascii b h = grind (arith, nat_tests)

-- A quote is a byte of ASCII.
pub quote_ascii : (b : ℕ) → is_quote b ≡ true → b < 128
quote_ascii b h = grind (arith, nat_tests)

run_end : (p : ℕ → Bool) → ((b : ℕ) → p b ≡ true → b < 128) → (bs : List ℕ) → IsUtf8 bs → (n : ℕ) → n ≡ prefix_len p bs → IsCharBoundary bs n
run_end p ascii bs u zero e = IsCharBoundary-start bs u
run_end p ascii bs u (suc k) e =
    let at_end = prefix_len-le-length p bs in
    let below : k < prefix_len p bs = omega arith in
    let last = ascii _ (prefix_len_passes p bs k 0 below) in
    let one : k + 1 ≡ suc k = omega arith in
    let P : ℕ → Type 0 = λ i. IsCharBoundary bs i in
    subst P one (IsCharBoundary-after_ascii bs k u (omega arith) last)

moved : (text bytes : List ℕ) (n : ℕ) → bytes ≡ text → IsCharBoundary bytes n → IsCharBoundary text n
moved text bytes n e h = let P : List ℕ → Type 0 = λ xs. IsCharBoundary xs n in subst P e h

-- After a word.
pub word_boundary : (text bytes : List ℕ) (n : ℕ) → IsUtf8 bytes → bytes ≡ text → n ≡ prefix_len continues_word bytes → IsCharBoundary text n
word_boundary text bytes n u e h = moved text bytes n e (run_end continues_word word_ascii bytes u n h)

-- After a name.
pub name_boundary : (text bytes : List ℕ) (n : ℕ) → IsUtf8 bytes → bytes ≡ text → n ≡ prefix_len continues_name bytes → IsCharBoundary text n
name_boundary text bytes n u e h = moved text bytes n e (run_end continues_name name_ascii bytes u n h)

-- After the first byte.
pub first_boundary : (text bytes : List ℕ) → IsUtf8 bytes → bytes ≡ text → 0 < length bytes → get_or bytes 0 0 < 128 → IsCharBoundary text 1
first_boundary text bytes u e l h = moved text bytes 1 e (IsCharBoundary-after_ascii bytes 0 u l h)

-- Before the closing quote.
pub inside_boundary : (q : ℕ) (text bytes : List ℕ) (n : ℕ) → q < 128 → bytes ≡ text → Some n ≡ inside_len q false bytes → IsCharBoundary text n
inside_boundary q text bytes n l e h =
    let c = closes q false bytes n (sym h) in
    let at : get_or bytes n 0 ≡ q = c.closes in
    moved text bytes n e (IsCharBoundary-before_ascii bytes n c.within (omega arith))

-- A gap ends at the end of the bytes, after a byte of ASCII, or at its start.
pub record GapEnds (gap : Gap) (bs : List ℕ) (i : ℕ) : Type 0 where
  pub within : i ≤ length bs
  pub before : i < length bs → 0 < i → get_or bs (i - 1) 0 < 128
  pub begun : i < length bs → i ≡ 0 → gap ≡ Blanks

blank_byte : (b : ℕ) (ends : Bool) → cond (eqb b 35) (Some (Comment false)) (cond (is_blank b || (eqb b 92 && ends)) (Some Blanks) None) ≡ Some Blanks → b < 128
blank_byte b ends h = grind (arith, nat_tests)

comment_byte : (b : ℕ) (fresh : Bool) → cond (eqb b 10 && fresh) (Some Blanks) (Some (Comment (eqb b 92))) ≡ Some Blanks → b < 128
comment_byte b fresh h = grind (arith, nat_tests)

blank_ascii : (gap : Gap) (b : ℕ) (rest : List ℕ) → gap_after gap b rest ≡ Some Blanks → b < 128
blank_ascii Blanks b rest h = blank_byte b _ h
blank_ascii (Comment escaped) b rest h = comment_byte b _ h

some_gap : (t : Bool) (x y : Gap) → cond t (Some x) (Some y) ≡ None → ⊥
some_gap true x y h = cc
some_gap false x y h = cc

only_blanks : (gap : Gap) (b : ℕ) (rest : List ℕ) → gap_after gap b rest ≡ None → gap ≡ Blanks
only_blanks Blanks b rest h = refl
only_blanks (Comment escaped) b rest h = absurd (some_gap _ _ _ h)

one_less : (j b : ℕ) (rest : List ℕ) → (j ≡ 0 → b < 128) → (0 < j → get_or rest (j - 1) 0 < 128) → get_or (b ∷ rest) (1 + j - 1) 0 < 128
one_less zero b rest h g = h refl
one_less (suc k) b rest h g =
    let e : suc k ≡ 1 + suc k - 1 = omega arith in
    let f : suc k - 1 ≡ k = omega arith in
    let P : ℕ → Type 0 = λ i. get_or (b ∷ rest) i 0 < 128 in
    let Q : ℕ → Type 0 = λ i. get_or rest i 0 < 128 in
    subst P e (subst Q f (g (omega arith)))

by_next : (gap : Gap) (b : ℕ) (rest : List ℕ) (o : Option Gap) → gap_after gap b rest ≡ o → ((next : Gap) → GapEnds next rest (gap_len next rest)) → GapEnds gap (b ∷ rest) (option_map_or (λ next. 1 + gap_len next rest) o 0)
by_next gap b rest None e ih = record {
  within = omega arith;
  before = λ l z. absurd (omega arith);
  begun = λ l z. only_blanks gap b rest e;
}
by_next gap b rest (Some next) e ih =
    let h = ih next in record {
      within = omega (arith, h.within);
      before = λ l z. one_less (gap_len next rest) b rest
          (λ none. blank_ascii gap b rest (e ∙ ap (λ g. Some g) (h.begun (omega arith) none)))
          (λ some. h.before (omega arith) some);
      begun = λ l z. absurd (omega arith);
    }

gap_ends : (gap : Gap) (bs : List ℕ) → GapEnds gap bs (gap_len gap bs)
gap_ends gap [] = record {
  within = omega arith;
  before = λ l z. absurd (omega arith);
  begun = λ l z. absurd (omega arith);
}
gap_ends gap (b ∷ rest) = by_next gap b rest _ refl (λ next. gap_ends next rest)

cut_at : (bs : List ℕ) (gap : Gap) (i : ℕ) → IsUtf8 bs → GapEnds gap bs i → i ≡ i → IsCharBoundary bs i
cut_at bs gap zero u h e = IsCharBoundary-start bs u
cut_at bs gap (suc k) u h e =
    (h.within, λ l. (after l).1 l)
  where
    after : suc k < length bs → IsCharBoundary bs (suc k)
    after l =
        let one : k + 1 ≡ suc k = omega arith in
        let less : suc k - 1 ≡ k = omega arith in
        let P : ℕ → Type 0 = λ i. IsCharBoundary bs i in
        let Q : ℕ → Type 0 = λ i. get_or bs i 0 < 128 in
        subst P one (IsCharBoundary-after_ascii bs k u (omega arith) (subst Q less (h.before l (omega arith))))

-- After a gap.
pub gap_boundary : (text bytes : List ℕ) (n : ℕ) → IsUtf8 bytes → bytes ≡ text → n ≡ gap_len Blanks bytes → IsCharBoundary text n
gap_boundary text bytes n u e h =
    let P : ℕ → Type 0 = λ i. IsCharBoundary bytes i in
    moved text bytes n e (subst P (sym h) (cut_at bytes Blanks _ u (gap_ends Blanks bytes) refl))

after_one : (b : ℕ) (rest : List ℕ) → b < 128 → IsUtf8 (b ∷ rest) → IsCharBoundary (b ∷ rest) 1
after_one b rest l u = IsCharBoundary-after_ascii (b ∷ rest) 0 u (omega arith) l

after_two : (b : ℕ) (rest : List ℕ) → b < 128 → IsUtf8 (b ∷ b ∷ rest) → IsCharBoundary (b ∷ b ∷ rest) 2
after_two b rest l u = IsCharBoundary-after_ascii (b ∷ b ∷ rest) 1 u (omega arith) l

lexeme_cut : (bs : List ℕ) (lexeme : Lexeme) (n : ℕ) → IsLexeme bs lexeme n → IsUtf8 bs → IsCharBoundary bs n
lexeme_cut _ _ _ (word b rest n e l) u =
    run_end continues_word word_ascii (b ∷ rest) u n (longest_once continues_word (b ∷ rest) n _ l (prefix_longest continues_word (b ∷ rest)))
lexeme_cut _ _ _ (quoted q rest value n e c s) u =
    let two : suc n + 1 ≡ n + 2 = omega arith in
    let at : get_or rest n 0 ≡ q = c.closes in
    let low = quote_ascii q e in
    let P : ℕ → Type 0 = λ i. IsCharBoundary (q ∷ rest) i in
    subst P two (IsCharBoundary-after_ascii (q ∷ rest) (suc n) u (omega (arith, c.within)) (omega arith))
lexeme_cut _ _ _ (uses b rest n e l) u =
    let past = IsUtf8-drop (36 ∷ b ∷ rest) 1 u (after_one 36 (b ∷ rest) (omega arith) u) in
    IsCharBoundary-from_rest (36 ∷ b ∷ rest) 1 n (omega arith)
    (run_end continues_name name_ascii (b ∷ rest) past n (longest_once continues_name (b ∷ rest) n _ l (prefix_longest continues_name (b ∷ rest))))
lexeme_cut _ _ _ (sign s rest what h) u =
    by_sign (λ s what. IsUtf8 (s ++ rest) → IsCharBoundary (s ++ rest) (length s)) (after_one 123 rest (omega arith)) (after_one 125 rest (omega arith))
    (after_one 40 rest (omega arith)) (after_one 41 rest (omega arith)) (after_one 46 rest (omega arith)) (after_one 61 rest (omega arith))
    (after_one 33 rest (omega arith)) (after_two 38 rest (omega arith)) (after_two 124 rest (omega arith)) s what h u

-- A text may be cut after a lexeme.
pub lexeme_ends : (bs : List ℕ) → IsUtf8 bs → IsCharBoundary bs (lexeme_here bs).len
lexeme_ends bs u = by_reads (lexeme_here bs) (reads bs)
  where
    at_start : (n : ℕ) → n ≡ 0 → IsCharBoundary bs n
    at_start n e = let P : ℕ → Type 0 = λ i. IsCharBoundary bs i in subst P (sym e) (IsCharBoundary-start bs u)

    by_reads : (s : Scan) → Reads bs s → IsCharBoundary bs s.len
    by_reads s (at_end none lexeme len) = at_start s.len len
    by_reads s (an_lexeme i) = lexeme_cut bs s.lexeme s.len i u
    by_reads s (no_lexeme none last len unclosed) = at_start s.len len

-- After a lexeme.
pub lexeme_boundary : (text : List ℕ) (n : ℕ) → IsUtf8 text → n ≡ (lexeme_here text).len → IsCharBoundary text n
lexeme_boundary text n u e = let P : ℕ → Type 0 = λ i. IsCharBoundary text i in subst P (sym e) (lexeme_ends text u)

-- The rest of a text after a cut is a text.
pub rest_utf8 : (bytes rest text : List ℕ) (n : ℕ) → IsUtf8 bytes → bytes ≡ text → IsCharBoundary text n → rest ≡ drop n text → IsUtf8 rest
rest_utf8 bytes rest text n u e b r =
    let P : List ℕ → Type 0 = λ xs. IsUtf8 xs in
    subst P (sym r) (IsUtf8-drop text n (subst P e u) b)
