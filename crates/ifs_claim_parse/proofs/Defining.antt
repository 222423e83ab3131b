-- Definitions of macros among the lexemes of a text.
use Rattle.std.proofs.Common.{◌≡◌, ◌∙◌, refl, sym, ap, ◌||◌, Bool, true, false, if◌then◌else◌, List, [], ◌∷◌, map, length, Some, None, arith}
use Rattle.std.specs.List.{list_any}
use Rattle.ifs_lex.specs.declared.cursor.Lexeme.{Lexeme}
use Rattle.ifs_claim_parse.specs.Macros.{definition_end, is_definition}
use Rattle.ifs_lex.specs.Lexemes.{Spanned}
use Rattle.ifs_lex.specs.Expansion.{is_equals}
use Rattle.ifs_lex.specs.inner.Pieces.{lexeme_of, spanned_of}

-- No two lexemes follow.
pub no_rest : (first : Lexeme) (rest : List Lexeme) → length rest ≡ 0 → None ≡ definition_end (spanned_of first) (map spanned_of rest)
no_rest first [] none = refl
no_rest first (x ∷ rest) none = absurd (omega (arith, none))

pub no_values : (first equals : Lexeme) (rest values : List Lexeme) → rest ≡ equals ∷ values → length values ≡ 0 → None ≡ definition_end (spanned_of first) (map spanned_of rest)
no_values first equals rest [] whole none = ap (λ (l : List Lexeme). definition_end (spanned_of first) (map spanned_of l)) (sym whole)
no_values first equals rest (v ∷ values) whole none = absurd (omega (arith, none))

-- Two lexemes follow, which make a definition or none.
module _ (first equals value : Lexeme) (rest values others : List Lexeme) (whole : rest ≡ equals ∷ values) (more : values ≡ value ∷ others) where
  here : definition_end (spanned_of first) (map spanned_of rest) ≡ (if is_definition (spanned_of first) (spanned_of equals) (spanned_of value) then Some value.span.end else None)
  here = ap (λ (l : List Lexeme). definition_end (spanned_of first) (map spanned_of l)) (whole ∙ ap (λ (l : List Lexeme). equals ∷ l) more)

  pub defined_here : (found : Bool) → found ≡ is_definition (spanned_of first) (spanned_of equals) (spanned_of value) → found ≡ true → Some value.span.end ≡ definition_end (spanned_of first) (map spanned_of rest)
  defined_here found is holds = sym (here ∙ ap (λ (b : Bool). if b then Some value.span.end else None) (sym is ∙ holds))

  pub not_defined : (found : Bool) → found ≡ is_definition (spanned_of first) (spanned_of equals) (spanned_of value) → found ≡ false → None ≡ definition_end (spanned_of first) (map spanned_of rest)
  not_defined found is fails = sym (here ∙ ap (λ (b : Bool). if b then Some value.span.end else None) (sym is ∙ fails))

-- Whether a lexeme of the code passes a test of lexemes.
pub any_spanned : (test : Spanned → Bool) (lexemes : List Lexeme) → list_any test (map spanned_of lexemes) ≡ list_any (λ found. test (spanned_of found)) lexemes
any_spanned test [] = refl
any_spanned test (x ∷ lexemes) = ap (λ (b : Bool). test (spanned_of x) || b) (any_spanned test lexemes)

-- Whether the lexemes of a line have a sign `=`.
pub same_equals : (all : List Spanned) (lexemes given : List Lexeme) (found : Bool) → map spanned_of lexemes ≡ all → given ≡ lexemes
    → found ≡ list_any (λ f. is_equals (lexeme_of f.piece)) given → found ≡ list_any (λ p. is_equals p.lexeme) all
same_equals all lexemes given found same shared is =
    is ∙ ap (λ (l : List Lexeme). list_any (λ f. is_equals (lexeme_of f.piece)) l) shared ∙ sym (any_spanned (λ p. is_equals p.lexeme) lexemes)
    ∙ ap (λ (l : List Spanned). list_any (λ p. is_equals p.lexeme) l) same
