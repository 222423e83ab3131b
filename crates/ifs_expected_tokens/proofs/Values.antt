-- Definitions, and the value of a macro that has a part, at the first of some lexemes or behind it.
use Rattle.std.proofs.Common.{◌≡◌, ◌∙◌, refl, sym, ap, ℕ, Bool, true, false, if◌then◌else◌, List, [], ◌∷◌, map, Some, None, ◌-◌, ◌≤◌, arith, drop, get_or, length, subst, take}
use Rattle.std.specs.Borrow.{Bor}
use Rattle.std.proofs.lemmas.List.{take_rest}
use Rattle.ifs_lex.specs.declared.cursor.Lexeme.{Lexeme}
use Rattle.ifs_lex.specs.declared.pieces.Piece.{Piece}
use Rattle.ifs_lex.specs.declared.pieces.Piece.TheVariants as piece
use Rattle.ifs_lex.specs.Characters.{is_reserved}
use Rattle.ifs_lex.specs.Lexemes.{Spanned, quoted_value}
use Rattle.ifs_lex.specs.Expansion.{is_equals, macro_name_of, macro_text_of}
use Rattle.ifs_lex.specs.inner.Pieces.{lexeme_of, spanned_of}
use Rattle.ifs_report.specs.declared.reports.Part.{Part}
use Rattle.ifs_expected_tokens.specs.Places.{Holds, IsDefined, IsInValue}

rest_of : (x : Lexeme) (xs : List Lexeme) → take (length (x ∷ xs) - 1) (drop 1 (x ∷ xs)) ≡ xs
rest_of x xs = take_rest (x ∷ xs) 1

pub here : (p : Spanned) (rest : List Spanned) (part : Part) → Holds p rest part → IsInValue (p ∷ rest) part
here p rest part h = record { before = []; name = p; rest = rest; whole = refl; held = h }

pub later : (p : Spanned) (rest : List Spanned) (part : Part) → IsInValue rest part → IsInValue (p ∷ rest) part
later p rest part h = record {
  before = p ∷ h.before;
  name = h.name;
  rest = h.rest;
  whole = ap (λ (l : List Spanned). p ∷ l) h.whole;
  held = h.held;
}

-- The same for lexemes of the code: the first, and the rest behind it.
pub here_first : (left : List Lexeme) (other : Lexeme) (part : Part) → 1 ≤ length left
    → Holds (spanned_of (get_or left 0 other)) (map spanned_of (take (length left - 1) (drop 1 left))) part → IsInValue (map spanned_of left) part
here_first [] other part some h = absurd (omega (arith, some))
here_first (x ∷ xs) other part some h =
    here (spanned_of x) (map spanned_of xs) part (subst (λ (l : List Lexeme). Holds (spanned_of x) (map spanned_of l) part) (rest_of x xs) h)

pub later_first : (left : List Lexeme) (part : Part) → 1 ≤ length left
    → IsInValue (map spanned_of (take (length left - 1) (drop 1 left))) part → IsInValue (map spanned_of left) part
later_first [] part some h = absurd (omega (arith, some))
later_first (x ∷ xs) part some h =
    later (spanned_of x) (map spanned_of xs) part (subst (λ (l : List Lexeme). IsInValue (map spanned_of l) part) (rest_of x xs) h)

-- Three lexemes define a macro.
module _ (name equals value : Lexeme) (rest after : List Lexeme) (given : Bor (List ℕ))
    (named : Some given.now ≡ macro_name_of (lexeme_of name.piece)) (sign : is_equals (lexeme_of equals.piece) ≡ true) (whole : rest ≡ equals ∷ value ∷ after) where
  defined : (text : List ℕ) → macro_text_of (lexeme_of value.piece) ≡ Some text → IsDefined (spanned_of name) (map spanned_of rest) (spanned_of value)
  defined text valued = record {
    equals = spanned_of equals;
    after = map spanned_of after;
    whole = ap (λ (l : List Lexeme). map spanned_of l) whole;
    named = (given.now, sym named);
    sign = sign;
    valued = (text, valued);
  }

  pub by_word : (word : Bor (List ℕ)) → value.piece ≡ piece.Word word → is_reserved word.now ≡ false → IsDefined (spanned_of name) (map spanned_of rest) (spanned_of value)
  by_word word is free =
      defined word.now (ap (λ (p : Piece). macro_text_of (lexeme_of p)) is ∙ ap (λ (b : Bool). if b then None else Some word.now) free)

  pub by_quotes : (quote : ℕ) (inside : Bor (List ℕ)) → value.piece ≡ piece.Quoted quote inside → IsDefined (spanned_of name) (map spanned_of rest) (spanned_of value)
  by_quotes quote inside is = defined (quoted_value quote inside.now) (ap (λ (p : Piece). macro_text_of (lexeme_of p)) is)
