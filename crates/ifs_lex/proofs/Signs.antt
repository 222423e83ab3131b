-- A sign is no name, no text and no end, and is its own token.
use Rattle.std.proofs.Common.{◌≡◌, [], ◌∷◌, Some, None, false, refl}
use Rattle.ifs_base.specs.declared.span.Span.{Span}
use Rattle.ifs_lex.specs.declared.token.What.{What}
use Rattle.ifs_lex.specs.declared.token.What.TheVariants.{BraceOpen, BraceClose, ParenOpen, ParenClose, Dot, Bang, And, Or}
use Rattle.ifs_lex.specs.declared.pieces.Sign.{Sign}
use Rattle.ifs_lex.specs.declared.pieces.Sign.TheVariants as signs
use Rattle.ifs_lex.specs.Lexemes.{One, is_last}
use Rattle.ifs_lex.specs.Expansion.{Macros, Expanded, macro_name_of, is_equals, macro_text_of, whats_of}
use Rattle.ifs_lex.specs.Expansion.{with_lexeme, with_whats}
use Rattle.ifs_lex.specs.inner.Pieces.{what_of}

-- What holds of the token of each sign holds of the tokens of signs.
each_sign : (P : What → Type 0) → P BraceOpen → P BraceClose → P ParenOpen → P ParenClose → P Dot → P Bang → P And → P Or → (sign : Sign) → P (what_of sign)
each_sign P a b c d e f g h signs.BraceOpen = a
each_sign P a b c d e f g h signs.BraceClose = b
each_sign P a b c d e f g h signs.ParenOpen = c
each_sign P a b c d e f g h signs.ParenClose = d
each_sign P a b c d e f g h signs.Dot = e
each_sign P a b c d e f g h signs.Bang = f
each_sign P a b c d e f g h signs.And = g
each_sign P a b c d e f g h signs.Or = h

pub sign_name : (sign : Sign) → macro_name_of (One (what_of sign)) ≡ None
sign_name = each_sign (λ w. macro_name_of (One w) ≡ None) refl refl refl refl refl refl refl refl

pub sign_equals : (sign : Sign) → is_equals (One (what_of sign)) ≡ false
sign_equals = each_sign (λ w. is_equals (One w) ≡ false) refl refl refl refl refl refl refl refl

pub sign_text : (sign : Sign) → macro_text_of (One (what_of sign)) ≡ None
sign_text = each_sign (λ w. macro_text_of (One w) ≡ None) refl refl refl refl refl refl refl refl

pub sign_last : (sign : Sign) → is_last (One (what_of sign)) ≡ false
sign_last = each_sign (λ w. is_last (One w) ≡ false) refl refl refl refl refl refl refl refl

pub sign_whats : (m : Macros) (sign : Sign) → whats_of m (One (what_of sign)) ≡ Some (what_of sign ∷ [])
sign_whats m = each_sign (λ w. whats_of m (One w) ≡ Some (w ∷ [])) refl refl refl refl refl refl refl refl

pub sign_lexeme : (span : Span) (s : Expanded) (sign : Sign) → with_lexeme span (One (what_of sign)) s ≡ with_whats span (what_of sign ∷ []) s
sign_lexeme span s = each_sign (λ w. with_lexeme span (One w) s ≡ with_whats span (w ∷ []) s) refl refl refl refl refl refl refl refl
