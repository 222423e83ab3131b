-- A walk over the segments of a text that spells tokens.
use Rattle.std.proofs.Common.{◌≡◌, ℕ, zero, suc, ◌<◌, Bool, true, false, cond, ltb, List, [], length, Option}
use Rattle.std.proofs.Common.{Result, Ok, Err, refl, sym, ◌∙◌, subst, arith}
use Rattle.std.specs.Prelude.{is_some}
use Rattle.ifs_base.specs.Results.{◌>>=◌}
use Rattle.ifs_lex.specs.declared.token.Token.{Token}
use Rattle.ifs_lex.specs.declared.fault.LexFault.{LexFault}
use Rattle.ifs_lex.specs.declared.fault.LexFault.TheVariants.{OverLimit}
use Rattle.ifs_lex.specs.Lexemes.{TextCursor, lexeme_at, after_lexeme, is_last, lexemes_at, lexemes_of, start}
use Rattle.ifs_lex.specs.Expansion.{Macros, no_macros, Expanded, expanded, tokens_after, segments_from, given_from}
use Rattle.ifs_lex.specs.Expansion.{unnumbered_of}
use Rattle.ifs_lex.specs.inner.Turns.{definition_here, after_definition, with_turn}
use Rattle.ifs_lex.proofs.Segments.{turn_is, ending, turn_smaller}

-- The definition that begins with the next lexeme, if one does.
abbrev pub definition_next : TextCursor → Option (List ℕ × List ℕ)
definition_next p = definition_here (after_lexeme p) (lexeme_at p).lexeme

-- The cursor after the next segment.
abbrev pub next_place : TextCursor → TextCursor
next_place p = after_definition (after_lexeme p) (is_some (definition_next p))

-- `Going` holds before each turn, and `Done` of the rest of the text and the tokens in the end.
module _ (Going : Expanded → Type 0) (Done : TextCursor → List Token → Type 0)
    (ends : (s next : Expanded) (p : TextCursor) → Going s → is_last (lexeme_at p).lexeme ≡ true → with_turn (lexeme_at p) (definition_next p) s ≡ Ok next → Done p next.tokens)
    (goes : (s next : Expanded) (p : TextCursor) (ts : List Token) → Going s → is_last (lexeme_at p).lexeme ≡ false → with_turn (lexeme_at p) (definition_next p) s ≡ Ok next
    → (Going next → Done (next_place p) ts) → Done p ts) where
  by_last : (last : Bool) (s next : Expanded) (p : TextCursor) (ts : List Token) → Going s → is_last (lexeme_at p).lexeme ≡ last → with_turn (lexeme_at p) (definition_next p) s ≡ Ok next
      → ending last (next_place p) next ≡ Ok ts
      → (is_last (lexeme_at p).lexeme ≡ false → Going next → tokens_after next (segments_from 0 (lexemes_at (next_place p))) ≡ Ok ts → Done (next_place p) ts) → Done p ts
  unfolding ending
  by_last true s next p ts g l e k rest = let same : next.tokens ≡ ts = cc in subst (Done p) same (ends s next p g l e)
  by_last false s next p ts g l e k rest = goes s next p ts g l e (λ h. rest l h k)

  by_turn : (w : Result Expanded LexFault) (s : Expanded) (p : TextCursor) (ts : List Token) → Going s → with_turn (lexeme_at p) (definition_next p) s ≡ w
      → (w >>= ending (is_last (lexeme_at p).lexeme) (next_place p)) ≡ Ok ts
      → ((next : Expanded) → is_last (lexeme_at p).lexeme ≡ false → Going next → tokens_after next (segments_from 0 (lexemes_at (next_place p))) ≡ Ok ts → Done (next_place p) ts) → Done p ts
  by_turn (Err fault) s p ts g e k rest = absurd (cc)
  by_turn (Ok next) s p ts g e k rest = by_last _ s next p ts g refl e k (rest next)

  walked : (n : ℕ) (s : Expanded) (p : TextCursor) (ts : List Token) → length p.left < n → Going s → tokens_after s (segments_from 0 (lexemes_at p)) ≡ Ok ts → Done p ts
  walked zero s p ts l g h = absurd (omega arith)
  walked (suc n) s p ts l g h =
      by_turn _ s p ts g refl (sym (turn_is s p) ∙ h)
      (λ next last going k.
      let less = turn_smaller p (after_lexeme p) (next_place p) (lexeme_at p).lexeme _ refl refl refl last in
      walked n next (next_place p) ts (omega arith) going k)

  text_walked : (t : Bool) (m : Macros) (text : List ℕ) (ts : List Token) → Going (expanded [] m)
      → cond t (Err (OverLimit 1)) (tokens_after (expanded [] m) (segments_from 0 (lexemes_of text))) ≡ Ok ts → Done (start text) ts
  text_walked true m text ts g h = absurd (cc)
  text_walked false m text ts g h = walked (suc (length text)) (expanded [] m) (start text) ts (omega arith) g h

  macros_walked : (r : Result Macros LexFault) (text : List ℕ) (ts : List Token) → ((m : Macros) → r ≡ Ok m → Going (expanded [] m))
      → (r >>= λ m. cond (ltb 1048576 (length text)) (Err (OverLimit 1)) (tokens_after (expanded [] m) (segments_from 0 (lexemes_of text)))) ≡ Ok ts → Done (start text) ts
  macros_walked (Err fault) text ts f h = absurd (cc)
  macros_walked (Ok m) text ts f h = text_walked _ m text ts (f m refl) h

  pub spelled_walked : (text : List ℕ) (defs : List (List ℕ × List ℕ)) (ts : List Token) → ((m : Macros) → given_from no_macros defs ≡ Ok m → Going (expanded [] m)) → unnumbered_of text defs ≡ Ok ts
      → Done (start text) ts
  unfolding unnumbered_of
  spelled_walked text defs ts f h = macros_walked (given_from no_macros defs) text ts f h
