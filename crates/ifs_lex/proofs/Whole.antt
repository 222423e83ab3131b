-- The lexer reads a text to its end if the text has tokens or is a value.
use Rattle.std.proofs.Common.{◌≡◌, ℕ, zero, suc, ◌<◌, Bool, true, false, cond, ltb, List, [], ◌∷◌, length, Option}
use Rattle.std.proofs.Common.{Some, None, option_map, Ok, refl, sym, ◌∙◌, ap, subst, arith}
use Rattle.std.specs.Prelude.{is_some}
use Rattle.std.specs.Option.{option_map_or}
use Rattle.ifs_base.specs.declared.span.Span.{Span}
use Rattle.ifs_lex.specs.declared.token.What.{What}
use Rattle.ifs_lex.specs.declared.token.What.TheVariants.{End}
use Rattle.ifs_lex.specs.declared.token.Token.{Token}
use Rattle.ifs_lex.specs.Lexemes.{Lexeme, One, TextCursor, Spanned, lexeme_at, after_lexeme, is_last, lexemes_at}
use Rattle.ifs_lex.specs.Lexemes.{lexemes_of, start}
use Rattle.ifs_lex.specs.Expansion.{Macros, whats_of, joined, value_from, value_of, macro_name_of, is_equals}
use Rattle.ifs_lex.specs.Expansion.{macro_text_of, Expanded, with_lexeme, HasTokens}
use Rattle.ifs_lex.specs.Spelling.{Spelling, Ended}
use Rattle.ifs_lex.specs.inner.Turns.{text_here, definition_here, after_definition, with_turn}
use Rattle.ifs_lex.proofs.Unrolled.{lexemes_unroll, fewer_left, value_none, value_turn}
use Rattle.ifs_lex.proofs.Segments.{equals_last, text_last}
use Rattle.ifs_lex.proofs.Numbers.{unnumbered}
use Rattle.ifs_lex.proofs.Walks.{definition_next, spelled_walked}
use Rattle.ifs_lex.proofs.Endings.{no_definition}
use Rattle.ifs_lex.proofs.Spellings.{ended_more, spelling_found}

ended_here : (p : TextCursor) → is_last (lexeme_at p).lexeme ≡ true → (lexeme_at p).lexeme ≡ One End → Ended (lexemes_at p)
ended_here p l e =
    let P : List Spanned → Type 0 = λ xs. Ended xs in
    subst P (sym (lexemes_unroll p ∙ ap (λ t. lexeme_at p ∷ cond t [] (lexemes_at (after_lexeme p))) l)) e

ended_before : (p : TextCursor) → is_last (lexeme_at p).lexeme ≡ false → Ended (lexemes_at (after_lexeme p)) → Ended (lexemes_at p)
ended_before p l h =
    let P : List Spanned → Type 0 = λ xs. Ended xs in
    subst P (sym (lexemes_unroll p ∙ ap (λ t. lexeme_at p ∷ cond t [] (lexemes_at (after_lexeme p))) l)) (ended_more (lexeme_at p) (lexemes_at (after_lexeme p)) h)

-- The lexemes of a definition are not the last.
abbrev given : Option (List ℕ) → Option (List ℕ) → Option (List ℕ × List ℕ)
given name text = option_map_or (λ n. option_map (λ t. (n, t)) text) name None

definition_case : (q : TextCursor) (name : Option (List ℕ)) (t : Bool) (o : Option (List ℕ)) → is_equals (lexeme_at q).lexeme ≡ t → macro_text_of (lexeme_at (after_lexeme q)).lexeme ≡ o → is_some (given name (cond t o None)) ≡ true → (is_last (lexeme_at q).lexeme ≡ false) × (is_last (lexeme_at (after_lexeme q)).lexeme ≡ false)
definition_case q None t o e f h = absurd (cc)
definition_case q (Some n) false o e f h = absurd (cc)
definition_case q (Some n) true None e f h = absurd (cc)
definition_case q (Some n) true (Some x) e f h = (equals_last (lexeme_at q).lexeme e, text_last (lexeme_at (after_lexeme q)).lexeme x f)

after_part : (q : TextCursor) (i : Lexeme) (t : Bool) → is_some (definition_here q i) ≡ t → Ended (lexemes_at (after_definition q t)) → Ended (lexemes_at q)
after_part q i false e h = h
after_part q i true e h =
    let f = definition_case q (macro_name_of i) _ _ refl refl e in
    ended_before q f.0 (ended_before (after_lexeme q) f.1 h)

lexeme_end : (span : Span) (i : Lexeme) (s next : Expanded) → is_last i ≡ true → with_lexeme span i s ≡ Ok next → i ≡ One End
lexeme_end span (One End) s next l h = refl
lexeme_end span _ s next l h = absurd (cc)

turn_end : (p : TextCursor) (s next : Expanded) → is_last (lexeme_at p).lexeme ≡ true → with_turn (lexeme_at p) (definition_next p) s ≡ Ok next → (lexeme_at p).lexeme ≡ One End
turn_end p s next l e =
    let none = no_definition (lexeme_at p).lexeme l in
    lexeme_end (lexeme_at p).span (lexeme_at p).lexeme s next l
    (sym (ap (λ o. with_turn (lexeme_at p) (given o (text_here (after_lexeme p))) s) none) ∙ e)

-- A text that spells tokens has a list of lexemes.
pub spelled_lexemes : (text : List ℕ) (defs : List (List ℕ × List ℕ)) (ts : List Token) → HasTokens text defs ts → Spelling text 0 (lexemes_of text)
spelled_lexemes text defs ts h =
    let u = unnumbered text defs ts h in
    spelling_found text (lexemes_of text) refl
    (spelled_walked (λ s. Unit {0}) (λ p ts. Ended (lexemes_at p)) (λ s next p g l e. ended_here p l (turn_end p s next l e))
    (λ s next p ts g l e rest. ended_before p l (after_part (after_lexeme p) (lexeme_at p).lexeme _ refl (rest tt))) text defs u.tokens (λ m e. tt) u.has)

value_end : (m : Macros) (before more : List What) (i : Lexeme) → is_last i ≡ true → joined before (whats_of m i) ≡ Some more → i ≡ One End
value_end m before more (One End) l h = refl
value_end m before more _ l h = absurd (cc)

value_last : (m : Macros) (before more ws : List What) (p : TextCursor) (last : Bool) → is_last (lexeme_at p).lexeme ≡ last → joined before (whats_of m (lexeme_at p).lexeme) ≡ Some more → value_from m (Some more) (cond last [] (lexemes_at (after_lexeme p))) ≡ Some ws → (is_last (lexeme_at p).lexeme ≡ false → value_from m (Some more) (lexemes_at (after_lexeme p)) ≡ Some ws → Ended (lexemes_at (after_lexeme p))) → Ended (lexemes_at p)
value_last m before more ws p true l e h rest = ended_here p l (value_end m before more (lexeme_at p).lexeme l e)
value_last m before more ws p false l e h rest = ended_before p l (rest l h)

value_case : (m : Macros) (before ws : List What) (p : TextCursor) (o : Option (List What)) → joined before (whats_of m (lexeme_at p).lexeme) ≡ o → value_from m o (cond (is_last (lexeme_at p).lexeme) [] (lexemes_at (after_lexeme p))) ≡ Some ws → ((more : List What) → is_last (lexeme_at p).lexeme ≡ false → value_from m (Some more) (lexemes_at (after_lexeme p)) ≡ Some ws → Ended (lexemes_at (after_lexeme p))) → Ended (lexemes_at p)
value_case m before ws p None e h rest =
    let none = value_none m (cond (is_last (lexeme_at p).lexeme) [] (lexemes_at (after_lexeme p))) in
    let same = sym none ∙ h in absurd (cc)
value_case m before ws p (Some more) e h rest = value_last m before more ws p _ refl e h (rest more)

value_ended : (n : ℕ) (m : Macros) (before ws : List What) (p : TextCursor) → length p.left < n → value_from m (Some before) (lexemes_at p) ≡ Some ws → Ended (lexemes_at p)
value_ended zero m before ws p l h = absurd (omega arith)
value_ended (suc n) m before ws p l h =
    value_case m before ws p _ refl (sym (value_turn m before p) ∙ h)
    (λ more last k. let less = fewer_left p last in value_ended n m more ws (after_lexeme p) (omega arith) k)

value_text : (t : Bool) (m : Macros) (text : List ℕ) (ws : List What) → cond t None (value_from m (Some []) (lexemes_of text)) ≡ Some ws → Ended (lexemes_of text)
value_text true m text ws h = absurd (cc)
value_text false m text ws h = value_ended (suc (length text)) m [] ws (start text) (omega arith) h

-- A text that is a value has a list of lexemes.
pub value_lexemes : (m : Macros) (text : List ℕ) (ws : List What) → value_of m text ≡ Some ws → Spelling text 0 (lexemes_of text)
unfolding value_of
value_lexemes m text ws h = spelling_found text (lexemes_of text) refl (value_text (ltb 1048576 (length text)) m text ws h)
