-- Places that reports on a policy name.
use Rattle.std.specs.Prelude.{◌≡◌, ◌⊎◌, ◌≤◌, ℕ, List, ◌∷◌, ◌++◌, Option, Some, None, true}
use Rattle.std.specs.Borrow.{Bor}
use Rattle.std.specs.List.{slice_get}
use Rattle.std.specs.Str.{IsCharBoundary}
use Rattle.ifs_lex.specs.Lexemes.{Spanned, lexemes_of}
use Rattle.ifs_lex.specs.Expansion.{macro_name_of, macro_text_of, is_equals}
use Rattle.ifs_report.specs.Positions.{line_of}
use Rattle.ifs_report.specs.declared.reports.Part.{Part}
use Rattle.ifs_report.specs.declared.reports.Place.{Place}
use Rattle.ifs_report.specs.declared.reports.Place.TheVariants as place

-- A part lies within a text, between characters.
pub record LiesIn (text : List ℕ) (part : Part) : Type 0 where
  pub ordered : part.start ≤ part.end
  pub starts : IsCharBoundary text part.start
  pub ends : IsCharBoundary text part.end

-- A lexeme and those after it define a macro: a name, the sign `=`, and a string, which is the value.
pub record IsDefined (name : Spanned) (rest : List Spanned) (value : Spanned) : Type 0 where
  pub equals : Spanned
  pub after : List Spanned
  pub whole : rest ≡ equals ∷ value ∷ after
  pub named : (text : List ℕ) × (macro_name_of name.lexeme ≡ Some text)
  pub sign : is_equals equals.lexeme ≡ true
  pub valued : (text : List ℕ) × (macro_text_of value.lexeme ≡ Some text)

-- A definition begins with a lexeme, and a part lies within its value.
pub record Holds (name : Spanned) (rest : List Spanned) (part : Part) : Type 0 where
  pub value : Spanned
  pub defined : IsDefined name rest value
  pub starts : value.span.start ≤ part.start
  pub ends : part.end ≤ value.span.end

-- A part lies within the value of a macro among some lexemes, where it is defined.
pub record IsInValue (lexemes : List Spanned) (part : Part) : Type 0 where
  pub before : List Spanned
  pub name : Spanned
  pub rest : List Spanned
  pub whole : lexemes ≡ before ++ name ∷ rest
  pub held : Holds name rest part

-- A part of a text begins on the line of a fault, or lies within the value of a macro. A fault may have no line.
abbrev pub IsOn : List ℕ → Option ℕ → Part → Type 0
IsOn text None part = Unit {0}
IsOn text (Some line) part = (line_of text part.start ≡ line) ⊎ IsInValue (lexemes_of text) part

-- What a report on a fault of this line may name: the whole file, a part of the text on that line or in the value of a macro,
-- or a part of the value of a definition that is given beside the text.
abbrev pub IsPlaced : List ℕ → List (Bor (List ℕ) × Bor (List ℕ)) → Option ℕ → Place → Type 0
IsPlaced text definitions line place.File = Unit {0}
IsPlaced text definitions line (place.Text part) = LiesIn text part × IsOn text line part
IsPlaced text definitions line (place.Definition number part) =
    (given : Bor (List ℕ) × Bor (List ℕ)) × (slice_get definitions number ≡ Some given) × LiesIn given.1.now part
