-- The lexer reads the blanks and comments of the relation.
use Rattle.std.proofs.Common.{◌≡◌, ℕ, zero, suc, ◌+◌, ◌<◌, ◌≤◌, Bool, true, false, cond, eqb, ◌&&◌}
use Rattle.std.proofs.Common.{◌||◌, not, List, [], ◌∷◌, length, drop, get_or, Option, Some, None}
use Rattle.std.proofs.Common.{option_map, refl, sym, ◌∙◌, ap, subst, arith, length-drop, drop-drop}
use Rattle.std.proofs.lemmas.List.{drop_all}
use Rattle.std.specs.Option.{option_map_or}
use Rattle.std.proofs.lemmas.Bool.{eqb-true}
use Rattle.std.proofs.lemmas.Bool.Decides.{nat_tests}
use Rattle.ifs_lex.specs.Lexemes.{Blanks, Comment}
use Rattle.ifs_lex.specs.Characters.{is_blank}
use Rattle.ifs_lex.specs.Lexemes.{begins_with, gap_len, inside_len}
use Rattle.ifs_lex.specs.inner.Gaps.{comment_bytes, IsGapPart}
use Rattle.ifs_lex.specs.Spelling.{after_backslash, Closes, Unended, IsGap, empty, blank, joined, comment, last_comment}
use Rattle.ifs_lex.proofs.Spelt.{true_false, shift, one_part, closes, closed}

-- The length of a comment and of the gap after it, by the place of the newline that ends it.
abbrev comment_end : List ℕ → Option ℕ → ℕ
comment_end bs m = option_map_or (λ k. suc k + gap_len Blanks (drop (suc k) bs)) m (length bs)

comment_test : (b : ℕ) (rest : List ℕ) (t next : Bool) (m : Option ℕ) → gap_len (Comment next) rest ≡ comment_end rest m → option_map_or (λ g. 1 + gap_len g rest) (cond t (Some Blanks) (Some (Comment next))) 0 ≡ comment_end (b ∷ rest) (cond t (Some 0) (option_map (λ n. 1 + n) m))
comment_test b rest true next m h = refl
comment_test b rest false next None h = omega arith
comment_test b rest false next (Some k) h =
    let one : 1 + k ≡ suc k = omega arith in
    let same : gap_len Blanks (drop (1 + k) rest) ≡ gap_len Blanks (drop (suc k) rest) = ap (λ i. gap_len Blanks (drop i rest)) one in
    omega arith

comment_len : (e : Bool) (bs : List ℕ) → gap_len (Comment e) bs ≡ comment_end bs (inside_len 10 e bs)
comment_len e [] = refl
comment_len e (b ∷ rest) =
    comment_test b rest (eqb b 10 && not e) (eqb b 92) (inside_len 10 (eqb b 92) rest) (comment_len (eqb b 92) rest)

unended_at : (e : Bool) (b : ℕ) (rest : List ℕ) → (eqb b 10 && not e) ≡ false → ((k : ℕ) → k < length rest → get_or rest k 0 ≡ 10 → after_backslash (eqb b 92) rest k ≡ true) → (k : ℕ) → k < suc (length rest) → get_or (b ∷ rest) k 0 ≡ 10 → after_backslash e (b ∷ rest) k ≡ true
unended_at e b rest t ih zero l same = one_part b 10 e t same
unended_at e b rest t ih (suc j) l same = shift e b rest j ∙ ih j (omega arith) same

unended_test : (e : Bool) (b : ℕ) (rest : List ℕ) (t : Bool) (m : Option ℕ) → (eqb b 10 && not e) ≡ t → (m ≡ None → (k : ℕ) → k < length rest → get_or rest k 0 ≡ 10 → after_backslash (eqb b 92) rest k ≡ true) → cond t (Some 0) (option_map (λ i. 1 + i) m) ≡ None → (k : ℕ) → k < suc (length rest) → get_or (b ∷ rest) k 0 ≡ 10 → after_backslash e (b ∷ rest) k ≡ true
unended_test e b rest true m t ih h = absurd (cc)
unended_test e b rest false None t ih h = unended_at e b rest t (ih refl)
unended_test e b rest false (Some n) t ih h = absurd (cc)

unended_from : (e : Bool) (bs : List ℕ) → inside_len 10 e bs ≡ None → (k : ℕ) → k < length bs → get_or bs k 0 ≡ 10 → after_backslash e bs k ≡ true
unended_from e [] h = λ k l same. absurd (omega arith)
unended_from e (b ∷ rest) h = unended_test e b rest _ _ refl (λ none. unended_from (eqb b 92) rest none) h

none_from : (bs : List ℕ) → Unended bs → (o : Option ℕ) → inside_len 10 false bs ≡ o → o ≡ None
none_from bs u None e = refl
none_from bs u (Some k) e =
    let c = closes 10 false bs k e in absurd (true_false _ _ (u k c.within c.closes) c.free refl)

-- A gap goes on after a blank.
blank_not_hash : (b : ℕ) → is_blank b ≡ true → eqb b 35 ≡ false
blank_not_hash b h = grind (arith, nat_tests)

abbrev by_first : ℕ → List ℕ → Bool → Bool → Bool → ℕ
by_first b rest hash blanks line =
    option_map_or (λ next. 1 + gap_len next rest) (cond hash (Some (Comment false)) (cond (blanks || line) (Some Blanks) None)) 0

pub blank_step : (b : ℕ) (rest : List ℕ) → is_blank b ≡ true → gap_len Blanks (b ∷ rest) ≡ suc (gap_len Blanks rest)
blank_step b rest e =
    let line = eqb b 92 && begins_with 10 rest in
    let one : 1 + gap_len Blanks rest ≡ suc (gap_len Blanks rest) = omega arith in
    ap (λ t. by_first b rest t (is_blank b) line) (blank_not_hash b e) ∙ ap (λ t. by_first b rest false t line) e ∙ one

pub joined_step : (rest : List ℕ) → gap_len Blanks (92 ∷ 10 ∷ rest) ≡ suc (suc (gap_len Blanks rest))
joined_step rest =
    let here : gap_len Blanks (92 ∷ 10 ∷ rest) ≡ 1 + (1 + gap_len Blanks rest) = refl in
    let two : 1 + (1 + gap_len Blanks rest) ≡ suc (suc (gap_len Blanks rest)) = omega arith in
    here ∙ two

pub comment_step : (rest : List ℕ) (n : ℕ) → gap_len (Comment false) rest ≡ n → gap_len Blanks (35 ∷ rest) ≡ suc n
comment_step rest n e =
    let here : gap_len Blanks (35 ∷ rest) ≡ 1 + gap_len (Comment false) rest = refl in
    let more : 1 + gap_len (Comment false) rest ≡ suc n = omega arith in
    here ∙ more

-- A byte that is none of these begins no gap.
pub no_gap : (b : ℕ) (rest : List ℕ) → eqb b 35 ≡ false → is_blank b ≡ false → (eqb b 92 && begins_with 10 rest) ≡ false → gap_len Blanks (b ∷ rest) ≡ 0
no_gap b rest e f g =
    ap (λ t. by_first b rest t (is_blank b) (eqb b 92 && begins_with 10 rest)) e ∙
    ap (λ t. by_first b rest false t (eqb b 92 && begins_with 10 rest)) f ∙
    ap (λ t. by_first b rest false false t) g

-- The lexer reads a gap after which no other begins.
pub gap_only : (bytes : List ℕ) (n : ℕ) → IsGap bytes n → gap_len Blanks (drop n bytes) ≡ 0 → gap_len Blanks bytes ≡ n
gap_only _ _ (empty bytes) h = h
gap_only _ _ (blank b rest n e g) h = blank_step b rest e ∙ ap (λ i. suc i) (gap_only rest n g h)
gap_only _ _ (joined rest n g) h = joined_step rest ∙ ap (λ i. suc (suc i)) (gap_only rest n g h)
gap_only _ _ (comment rest k n c g) h =
    let more = gap_only (drop (suc k) rest) n g (ap (gap_len Blanks) (drop-drop n (suc k) rest) ∙ h) in
    comment_step rest (suc k + n) (comment_len false rest ∙ ap (comment_end rest) (closed 10 false rest k c) ∙ ap (λ i. suc k + i) more)
gap_only _ _ (last_comment rest u) h =
    comment_step rest (length rest) (comment_len false rest ∙ ap (comment_end rest) (none_from rest u _ refl))

-- A gap is within its bytes.
pub gap_within : (bytes : List ℕ) (n : ℕ) → IsGap bytes n → n ≤ length bytes
gap_within _ _ (empty bytes) = omega arith
gap_within _ _ (blank b rest n e g) = let h = gap_within rest n g in omega arith
gap_within _ _ (joined rest n g) = let h = gap_within rest n g in omega arith
gap_within _ _ (comment rest k n c g) =
    let h = gap_within (drop (suc k) rest) n g in
    let l = length-drop (suc k) rest in
    omega (arith, c.within)
gap_within _ _ (last_comment rest u) = omega arith

-- The lexer reads gaps of shorter bytes.
abbrev Shorter : ℕ → Type 0
Shorter most = (xs : List ℕ) → length xs < most → IsGap xs (gap_len Blanks xs)

comment_gap : (most : ℕ) (rest : List ℕ) → length rest < most → Shorter most → (o : Option ℕ) → inside_len 10 false rest ≡ o → IsGap (35 ∷ rest) (gap_len Blanks (35 ∷ rest))
comment_gap most rest l ih None e =
    let P : ℕ → Type 0 = λ n. IsGap (35 ∷ rest) n in
    let len = comment_step rest (length rest) (comment_len false rest ∙ ap (comment_end rest) e) in
    subst P (sym len) (last_comment rest (unended_from false rest e))
comment_gap most rest l ih (Some k) e =
    let P : ℕ → Type 0 = λ n. IsGap (35 ∷ rest) n in
    let len = comment_step rest (suc k + gap_len Blanks (drop (suc k) rest)) (comment_len false rest ∙ ap (comment_end rest) e) in
    let less = length-drop (suc k) rest in
    subst P (sym len) (comment rest k (gap_len Blanks (drop (suc k) rest)) (closes 10 false rest k e) (ih (drop (suc k) rest) (omega arith)))

joined_gap : (most : ℕ) (rest : List ℕ) → length rest < most → Shorter most → IsGap (92 ∷ 10 ∷ rest) (gap_len Blanks (92 ∷ 10 ∷ rest))
joined_gap most rest l ih =
    let P : ℕ → Type 0 = λ n. IsGap (92 ∷ 10 ∷ rest) n in
    subst P (sym (joined_step rest)) (joined rest (gap_len Blanks rest) (ih rest l))

never_both : (a : Bool) → (a && false) ≡ true → ⊥
never_both true k = cc
never_both false k = cc

first_is : (b k : ℕ) (t : Bool) → (eqb b k && t) ≡ true → b ≡ k
first_is b k t h = grind (arith, nat_tests)

second_is : (s : Bool) (c k : ℕ) → (s && eqb c k) ≡ true → c ≡ k
second_is true c k h = eqb-true c k h
second_is false c k h = absurd (cc)

line_gap : (most b : ℕ) (rest : List ℕ) (t : Bool) → eqb b 35 ≡ false → is_blank b ≡ false → (eqb b 92 && begins_with 10 rest) ≡ t → length rest < most → Shorter most → IsGap (b ∷ rest) (gap_len Blanks (b ∷ rest))
line_gap most b rest false e f g l ih =
    let P : ℕ → Type 0 = λ n. IsGap (b ∷ rest) n in
    subst P (sym (no_gap b rest e f g)) (empty (b ∷ rest))
line_gap most b [] true e f g l ih = absurd (never_both _ g)
line_gap most b (c ∷ more) true e f g l ih =
    let P : ℕ → Type 0 = λ x. IsGap (x ∷ c ∷ more) (gap_len Blanks (x ∷ c ∷ more)) in
    let Q : ℕ → Type 0 = λ y. IsGap (92 ∷ y ∷ more) (gap_len Blanks (92 ∷ y ∷ more)) in
    subst P (sym (first_is b 92 _ g)) (subst Q (sym (second_is _ c 10 g)) (joined_gap most more (omega arith) ih))

blank_gap : (most b : ℕ) (rest : List ℕ) (t : Bool) → eqb b 35 ≡ false → is_blank b ≡ t → length rest < most → Shorter most → IsGap (b ∷ rest) (gap_len Blanks (b ∷ rest))
blank_gap most b rest true e f l ih =
    let P : ℕ → Type 0 = λ n. IsGap (b ∷ rest) n in
    subst P (sym (blank_step b rest f)) (blank b rest (gap_len Blanks rest) f (ih rest l))
blank_gap most b rest false e f l ih = line_gap most b rest _ e f refl l ih

first_gap : (most b : ℕ) (rest : List ℕ) (t : Bool) → eqb b 35 ≡ t → length rest < most → Shorter most → IsGap (b ∷ rest) (gap_len Blanks (b ∷ rest))
first_gap most b rest true e l ih =
    let P : ℕ → Type 0 = λ x. IsGap (x ∷ rest) (gap_len Blanks (x ∷ rest)) in
    subst P (sym (eqb-true b 35 e)) (comment_gap most rest l ih _ refl)
first_gap most b rest false e l ih = blank_gap most b rest _ e refl l ih

gap_below : (most : ℕ) (bytes : List ℕ) → length bytes < most → IsGap bytes (gap_len Blanks bytes)
gap_below zero bytes l = absurd (omega arith)
gap_below (suc most) [] l = empty []
gap_below (suc most) (b ∷ rest) l = first_gap most b rest _ refl (omega arith) (λ xs k. gap_below most xs k)

-- The lexer reads a gap.
pub gap_found : (bytes : List ℕ) → IsGap bytes (gap_len Blanks bytes)
gap_found bytes = gap_below (suc (length bytes)) bytes (omega arith)

-- The parts of a gap: a blank, a joined line, a comment.
pub blank_part : (b : ℕ) (rest : List ℕ) → is_blank b ≡ true → IsGapPart (b ∷ rest) 1
blank_part b rest e =
    let step = blank_step b rest e in
    record { some = omega arith; within = omega arith; rest = omega arith }

pub joined_part : (rest : List ℕ) → IsGapPart (92 ∷ 10 ∷ rest) 2
joined_part rest =
    let step = joined_step rest in
    record { some = omega arith; within = omega arith; rest = omega arith }

closed_part : (rest : List ℕ) (k : ℕ) → Closes 10 false rest k → IsGapPart (35 ∷ rest) (1 + (k + 1))
closed_part rest k c =
    let step = comment_step rest (suc k + gap_len Blanks (drop (suc k) rest)) (comment_len false rest ∙ ap (comment_end rest) (closed 10 false rest k c)) in
    let two : suc (suc k) ≡ 1 + (k + 1) = omega arith in
    let left : gap_len Blanks (drop (suc k) rest) ≡ gap_len Blanks (drop (1 + (k + 1)) (35 ∷ rest)) = ap (λ i. gap_len Blanks (drop i (35 ∷ rest))) two in
    record { some = omega arith; within = omega (arith, c.within); rest = omega arith }

open_part : (rest : List ℕ) → inside_len 10 false rest ≡ None → IsGapPart (35 ∷ rest) (1 + length rest)
open_part rest e =
    let step = comment_step rest (length rest) (comment_len false rest ∙ ap (comment_end rest) e) in
    let one : suc (length rest) ≡ 1 + length rest = omega arith in
    let left : gap_len Blanks (drop (length rest) rest) ≡ gap_len Blanks (drop (1 + length rest) (35 ∷ rest)) = ap (λ i. gap_len Blanks (drop i (35 ∷ rest))) one in
    let nothing : gap_len Blanks (drop (length rest) rest) ≡ 0 = ap (gap_len Blanks) (drop_all (length rest) rest (omega arith)) in
    record { some = omega arith; within = omega arith; rest = omega arith }

pub comment_part : (rest : List ℕ) (o : Option ℕ) → inside_len 10 false rest ≡ o → IsGapPart (35 ∷ rest) (1 + comment_bytes rest o)
comment_part rest None e = open_part rest e
comment_part rest (Some k) e = closed_part rest k (closes 10 false rest k e)

pub comment_here : (b len : ℕ) (rest : List ℕ) → eqb b 35 ≡ true → len ≡ comment_bytes rest (inside_len 10 false rest) → IsGapPart (b ∷ rest) (1 + len)
comment_here b len rest e same =
    subst (λ (x : ℕ). IsGapPart (x ∷ rest) (1 + len)) (sym (eqb-true b 35 e))
    (subst (λ (n : ℕ). IsGapPart (35 ∷ rest) (1 + n)) (sym same) (comment_part rest _ refl))

pub joined_here : (b : ℕ) (rest : List ℕ) → (eqb b 92 && begins_with 10 rest) ≡ true → IsGapPart (b ∷ rest) 2
joined_here b [] h = absurd (never_both _ h)
joined_here b (c ∷ more) h =
    subst (λ (x : ℕ). IsGapPart (x ∷ c ∷ more) 2) (sym (first_is b 92 _ h))
    (subst (λ (y : ℕ). IsGapPart (92 ∷ y ∷ more) 2) (sym (second_is _ c 10 h)) (joined_part more))
