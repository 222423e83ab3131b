-- The lexeme that the lexer reads is the one of the relation.
use Rattle.std.proofs.Common.{◌≡◌, ℕ, zero, suc, ◌+◌, ◌<◌, ◌≤◌, Bool, true, false, cond, eqb, ◌&&◌, List, [], ◌∷◌, ◌++◌, length}
use Rattle.std.proofs.Common.{take, Option, Some, None, refl, sym, ◌∙◌, ap, subst, arith, length-append}
use Rattle.std.specs.Prelude.{codes}
use Rattle.std.specs.List.{prefix_len}
use Rattle.std.specs.Option.{option_map_or}
use Rattle.std.proofs.lemmas.Bool.{eqb-true}
use Rattle.std.proofs.lemmas.Bool.Decides.{nat_tests}
use Rattle.ifs_lex.specs.declared.token.What.{What}
use Rattle.ifs_lex.specs.declared.token.What.TheVariants.{Word, Quoted, BraceOpen, BraceClose, ParenOpen}
use Rattle.ifs_lex.specs.declared.token.What.TheVariants.{ParenClose, Dot, Equals, Bang, And, Or, End}
use Rattle.ifs_lex.specs.Lexemes.{Blanks}
use Rattle.ifs_lex.specs.Characters.{is_blank, is_quote, begins_word, continues_word, begins_name, continues_name}
use Rattle.ifs_lex.specs.Lexemes.{Lexeme, One, Uses, Stray, Unclosed, Scan, scan, is_last, begins_with, gap_len}
use Rattle.ifs_lex.specs.Lexemes.{inside_len}
use Rattle.ifs_lex.specs.Lexemes.{quoted_value, word_here, quoted_here, use_here, twice, sign_here, lexeme_here}
use Rattle.ifs_lex.specs.Spelling.{IsSign, brace_open, brace_close, paren_open, paren_close, point, equals}
use Rattle.ifs_lex.specs.Spelling.{bang, conjunction, disjunction, Longest, Closes, IsLexeme, word, quoted, uses, sign}
use Rattle.ifs_lex.specs.Stuck.{IsUnclosed}
use Rattle.ifs_lex.proofs.Spelt.{true_false, prefix_longest, longest_once, says, said, closes, closed}
use Rattle.ifs_lex.proofs.Gaps.{no_gap}

-- A byte that begins neither a comment, nor a blank, nor a joined line.
abbrev BeginsNoGap : ℕ → Type 0
BeginsNoGap b = (eqb b 35 ≡ false) × (is_blank b ≡ false) × (eqb b 92 ≡ false)

word_apart : (b : ℕ) → begins_word b ≡ true → BeginsNoGap b
word_apart b h = (grind (arith, nat_tests), grind (arith, nat_tests), grind (arith, nat_tests))

quote_apart : (b : ℕ) → is_quote b ≡ true → BeginsNoGap b
quote_apart b h = (grind (arith, nat_tests), grind (arith, nat_tests), grind (arith, nat_tests))

no_gap_at : (b : ℕ) (rest : List ℕ) → BeginsNoGap b → gap_len Blanks (b ∷ rest) ≡ 0
no_gap_at b rest h = no_gap b rest h.0 h.1 (ap (λ t. t && begins_with 10 rest) h.2)

quote_not_word : (b : ℕ) → is_quote b ≡ true → begins_word b ≡ false
quote_not_word b h = grind (arith, nat_tests)

-- What holds of each sign holds of signs.
pub by_sign : (P : List ℕ → What → Type 0) → P (codes "{") BraceOpen → P (codes "}") BraceClose → P (codes "(") ParenOpen → P (codes ")") ParenClose → P (codes ".") Dot
    → P (codes "=") Equals → P (codes "!") Bang → P (codes "&&") And → P (codes "||") Or → (s : List ℕ) (what : What) → IsSign s what → P s what
by_sign P a b c d e f g h i _ _ brace_open = a
by_sign P a b c d e f g h i _ _ brace_close = b
by_sign P a b c d e f g h i _ _ paren_open = c
by_sign P a b c d e f g h i _ _ paren_close = d
by_sign P a b c d e f g h i _ _ point = e
by_sign P a b c d e f g h i _ _ equals = f
by_sign P a b c d e f g h i _ _ bang = g
by_sign P a b c d e f g h i _ _ conjunction = h
by_sign P a b c d e f g h i _ _ disjunction = i

-- No gap comes before a lexeme.
pub lexeme_no_gap : (bs : List ℕ) (lexeme : Lexeme) (n : ℕ) → IsLexeme bs lexeme n → gap_len Blanks bs ≡ 0
lexeme_no_gap _ _ _ (word b rest n e l) = no_gap_at b rest (word_apart b e)
lexeme_no_gap _ _ _ (quoted q rest value n e c s) = no_gap_at q rest (quote_apart q e)
lexeme_no_gap _ _ _ (uses b rest n e l) = refl
lexeme_no_gap _ _ _ (sign s rest what h) = by_sign (λ s what. gap_len Blanks (s ++ rest) ≡ 0) refl refl refl refl refl refl refl refl refl s what h

-- A lexeme is within its bytes.
pub lexeme_within : (bs : List ℕ) (lexeme : Lexeme) (n : ℕ) → IsLexeme bs lexeme n → n ≤ length bs
lexeme_within _ _ _ (word b rest n e l) = l.within
lexeme_within _ _ _ (quoted q rest value n e c s) = omega (arith, c.within)
lexeme_within _ _ _ (uses b rest n e l) = omega (arith, l.within)
lexeme_within _ _ _ (sign s rest what h) = let l = length-append s rest in omega arith

word_goes_on : (b : ℕ) → begins_word b ≡ true → continues_word b ≡ true
word_goes_on b e = rw e refl

longest_some : (p : ℕ → Bool) (b : ℕ) (rest : List ℕ) (n : ℕ) → p b ≡ true → Longest p (b ∷ rest) n → 0 < n
longest_some p b rest zero e l = absurd (true_false _ _ e (l.stops (omega arith)) refl)
longest_some p b rest (suc n) e l = omega arith

-- A lexeme has a byte.
pub lexeme_some : (bs : List ℕ) (lexeme : Lexeme) (n : ℕ) → IsLexeme bs lexeme n → 0 < n
lexeme_some _ _ _ (word b rest n e l) = longest_some continues_word b rest n (word_goes_on b e) l
lexeme_some _ _ _ (quoted q rest value n e c s) = omega arith
lexeme_some _ _ _ (uses b rest n e l) = omega arith
lexeme_some _ _ _ (sign s rest what h) =
    by_sign (λ s what. 0 < length s) (omega arith) (omega arith) (omega arith) (omega arith) (omega arith) (omega arith) (omega arith) (omega arith) (omega arith) s what h

-- A lexeme of the relation is not the last one.
pub lexeme_not_last : (bs : List ℕ) (lexeme : Lexeme) (n : ℕ) → IsLexeme bs lexeme n → is_last lexeme ≡ false
lexeme_not_last _ _ _ (word b rest n e l) = refl
lexeme_not_last _ _ _ (quoted q rest value n e c s) = refl
lexeme_not_last _ _ _ (uses b rest n e l) = refl
lexeme_not_last _ _ _ (sign s rest what h) = by_sign (λ s what. is_last (One what) ≡ false) refl refl refl refl refl refl refl refl refl s what h

here_word : (b : ℕ) (rest : List ℕ) → begins_word b ≡ true → lexeme_here (b ∷ rest) ≡ word_here (b ∷ rest)
unfolding lexeme_here
here_word b rest e =
    ap (λ t. cond t (word_here (b ∷ rest)) (cond (is_quote b) (quoted_here b rest) (cond (eqb b 36) (use_here rest) (sign_here b rest)))) e

pub here_quoted : (b : ℕ) (rest : List ℕ) → is_quote b ≡ true → lexeme_here (b ∷ rest) ≡ quoted_here b rest
unfolding lexeme_here
here_quoted b rest e =
    ap (λ t. cond t (word_here (b ∷ rest)) (cond (is_quote b) (quoted_here b rest) (cond (eqb b 36) (use_here rest) (sign_here b rest)))) (quote_not_word b e) ∙
    ap (λ t. cond t (quoted_here b rest) (cond (eqb b 36) (use_here rest) (sign_here b rest))) e

here_use : (b : ℕ) (rest : List ℕ) → begins_name b ≡ true → lexeme_here (36 ∷ b ∷ rest) ≡ scan (Uses (take (prefix_len continues_name (b ∷ rest)) (b ∷ rest))) (1 + prefix_len continues_name (b ∷ rest))
unfolding lexeme_here
here_use b rest e =
    ap (λ t. cond t (scan (Uses (take (prefix_len continues_name (b ∷ rest)) (b ∷ rest))) (1 + prefix_len continues_name (b ∷ rest))) (scan Stray 0)) e

here_sign : (s rest : List ℕ) (what : What) → IsSign s what → lexeme_here (s ++ rest) ≡ scan (One what) (length s)
unfolding lexeme_here
here_sign s rest what h = by_sign (λ s what. lexeme_here (s ++ rest) ≡ scan (One what) (length s)) refl refl refl refl refl refl refl refl refl s what h

-- The lexer reads the lexeme that comes first.
pub lexeme_only : (bs : List ℕ) (lexeme : Lexeme) (n : ℕ) → IsLexeme bs lexeme n → lexeme_here bs ≡ scan lexeme n
lexeme_only _ _ _ (word b rest n e l) =
    here_word b rest e ∙
    ap (λ k. scan (One (Word (take k (b ∷ rest)))) k) (longest_once continues_word (b ∷ rest) _ n (prefix_longest continues_word (b ∷ rest)) l)
lexeme_only _ _ _ (quoted q rest value n e c s) =
    here_quoted q rest e ∙
    ap (λ m. option_map_or (λ k. scan (One (Quoted (quoted_value q (take k rest)))) (k + 2)) m (scan Unclosed 0)) (closed q false rest n c) ∙
    ap (λ v. scan (One (Quoted v)) (n + 2)) (sym (said q (take n rest) value e s))
lexeme_only _ _ _ (uses b rest n e l) =
    here_use b rest e ∙
    ap (λ k. scan (Uses (take k (b ∷ rest))) (1 + k)) (longest_once continues_name (b ∷ rest) _ n (prefix_longest continues_name (b ∷ rest)) l)
lexeme_only _ _ _ (sign s rest what h) = here_sign s rest what h

-- The lexer reads the end, a lexeme, or what is no lexeme.
pub data Reads (bytes : List ℕ) (s : Scan) : Type 0 where
  at_end : bytes ≡ [] → s.lexeme ≡ One End → s.len ≡ 0 → Reads bytes s
  an_lexeme : IsLexeme bytes s.lexeme s.len → Reads bytes s
  no_lexeme : (s.lexeme ≡ One End → ⊥) → is_last s.lexeme ≡ true → s.len ≡ 0 → (s.lexeme ≡ Unclosed → IsUnclosed bytes) → Reads bytes s

pick : (P : Scan → Type 0) (t : Bool) (x y : Scan) → (t ≡ true → P x) → (t ≡ false → P y) → P (cond t x y)
pick P true x y first second = first refl
pick P false x y first second = second refl

stray : (bs : List ℕ) → Reads bs (scan Stray 0)
stray bs = no_lexeme (λ h. cc) refl refl (λ h. absurd (cc))

none_closes : (q : ℕ) (rest : List ℕ) → inside_len q false rest ≡ None → (n : ℕ) → ¬ Closes q false rest n
none_closes q rest e n c = let h = sym e ∙ closed q false rest n c in absurd (cc)

quoted_reads : (q : ℕ) (rest : List ℕ) → is_quote q ≡ true → (m : Option ℕ) → inside_len q false rest ≡ m → Reads (q ∷ rest) (option_map_or (λ n. scan (One (Quoted (quoted_value q (take n rest)))) (n + 2)) m (scan Unclosed 0))
quoted_reads q rest u None e =
    no_lexeme (λ h. cc) refl refl (λ h. record { quote = q; rest = rest; begins = refl; opens = u; unclosed = none_closes q rest e })
quoted_reads q rest u (Some n) e =
    an_lexeme (quoted q rest (quoted_value q (take n rest)) n u (closes q false rest n e) (says q (take n rest) u))

use_reads : (rest : List ℕ) → Reads (36 ∷ rest) (use_here rest)
use_reads [] = stray _
use_reads (c ∷ more) =
    pick (Reads (36 ∷ c ∷ more)) (begins_name c) _ _
    (λ e. an_lexeme (uses c more (prefix_len continues_name (c ∷ more)) e (prefix_longest continues_name (c ∷ more))))
    (λ _. stray _)

one_reads : (b k : ℕ) (what : What) (rest : List ℕ) → IsSign (k ∷ []) what → eqb b k ≡ true → Reads (b ∷ rest) (scan (One what) 1)
one_reads b k what rest h e =
    let P : ℕ → Type 0 = λ x. Reads (x ∷ rest) (scan (One what) 1) in
    subst P (sym (eqb-true b k e)) (an_lexeme (sign (k ∷ []) rest what h))

two_reads : (b k : ℕ) (what : What) (rest : List ℕ) → IsSign (k ∷ k ∷ []) what → eqb b k ≡ true → Reads (b ∷ rest) (twice k what rest)
two_reads b k what [] h e = stray _
two_reads b k what (c ∷ more) h e =
    let P : ℕ → Type 0 = λ x. Reads (x ∷ c ∷ more) (scan (One what) 2) in
    let Q : ℕ → Type 0 = λ y. Reads (k ∷ y ∷ more) (scan (One what) 2) in
    pick (Reads (b ∷ c ∷ more)) (eqb c k) _ _
    (λ f. subst P (sym (eqb-true b k e)) (subst Q (sym (eqb-true c k f)) (an_lexeme (sign (k ∷ k ∷ []) more what h))))
    (λ _. stray _)

sign_reads : (b : ℕ) (rest : List ℕ) → Reads (b ∷ rest) (sign_here b rest)
sign_reads b rest =
    let R = Reads (b ∷ rest) in
    pick R (eqb b 123) _ _ (λ e. one_reads b 123 BraceOpen rest brace_open e) (λ _.
    pick R (eqb b 125) _ _ (λ e. one_reads b 125 BraceClose rest brace_close e) (λ _.
    pick R (eqb b 40) _ _ (λ e. one_reads b 40 ParenOpen rest paren_open e) (λ _.
    pick R (eqb b 41) _ _ (λ e. one_reads b 41 ParenClose rest paren_close e) (λ _.
    pick R (eqb b 46) _ _ (λ e. one_reads b 46 Dot rest point e) (λ _.
    pick R (eqb b 61) _ _ (λ e. one_reads b 61 Equals rest equals e) (λ _.
    pick R (eqb b 33) _ _ (λ e. one_reads b 33 Bang rest bang e) (λ _.
    pick R (eqb b 38) _ _ (λ e. two_reads b 38 And rest conjunction e) (λ _.
    pick R (eqb b 124) _ _ (λ e. two_reads b 124 Or rest disjunction e) (λ _. stray _)))))))))

-- What the lexer reads.
pub reads : (bs : List ℕ) → Reads bs (lexeme_here bs)
unfolding lexeme_here
reads [] = at_end refl refl refl
reads (b ∷ rest) =
    let R = Reads (b ∷ rest) in
    let P : ℕ → Type 0 = λ x. Reads (x ∷ rest) (use_here rest) in
    pick R (begins_word b) _ _
    (λ e. an_lexeme (word b rest (prefix_len continues_word (b ∷ rest)) e (prefix_longest continues_word (b ∷ rest)))) (λ _.
    pick R (is_quote b) _ _ (λ e. quoted_reads b rest e _ refl) (λ _.
    pick R (eqb b 36) _ _ (λ e. subst P (sym (eqb-true b 36 e)) (use_reads rest)) (λ _. sign_reads b rest)))

-- The lexer reads the end if nothing is left.
pub none_left : (bs : List ℕ) → bs ≡ [] → lexeme_here bs ≡ scan (One End) 0
unfolding lexeme_here
none_left bs e = ap lexeme_here e
