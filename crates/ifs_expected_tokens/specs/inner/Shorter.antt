-- Tokens without a part of them: what can come behind them stays the same.
use Rattle.std.specs.Prelude.{◌≡◌, ◌<◌, ℕ, List, [], ◌∷◌, Some}
use Rattle.ifs_lex.specs.declared.token.Token.{Token}
use Rattle.ifs_lex.specs.declared.token.TokenPlace.{TokenPlace}
use Rattle.ifs_lex.specs.declared.token.What.{What}
use Rattle.ifs_lex.specs.Expansion.{Endless}
use Rattle.ifs_parse.specs.declared.mark.Mark.TheVariants as mark
use Rattle.ifs_parse.specs.declared.tree.Item.{Item}
use Rattle.ifs_parse.specs.declared.tree.Item.TheVariants.{State}
use Rattle.ifs_parse.specs.declared.tree.Name.{Name}
use Rattle.ifs_parse.specs.declared.tree.Part.{Part}
use Rattle.ifs_parse.specs.Grammar.{IsItem, IsPart, IsStatement}
use Rattle.ifs_parse.specs.Rules.{Many, with_last}
use Rattle.ifs_parse.specs.Words.{fits_period, marked, name_of}

-- The numbers of tokens are below this one.
abbrev pub AreBelow : ℕ → List Token → Type 0
AreBelow n [] = Unit {0}
AreBelow n (first ∷ rest) = (first.number < n) × AreBelow n rest

-- Tokens before the end, with numbers below this one.
abbrev pub IsFrontBelow : ℕ → List Token → Type 0
IsFrontBelow n tokens = AreBelow n tokens × Endless tokens

-- Tokens say whole items.
abbrev pub SayItems : List Token → Type 0
SayItems tokens = (items : List Item) × (notes : List ℕ) × Many (IsItem (IsPart (IsStatement fits_period 32))) with_last [] tokens items notes

-- Tokens say whole parts of a state.
abbrev pub SayParts : List Token → Type 0
SayParts tokens = (parts : List Part) × (notes : List ℕ) × Many (IsPart (IsStatement fits_period 32)) with_last [] tokens parts notes

-- The word `state`, a name and a brace.
pub record IsHead (state name brace : Token) : Type 0 where
  pub place : TokenPlace
  pub text : Name
  pub opened : TokenPlace
  pub is_state : marked mark.State state ≡ Some place
  pub is_name : name_of name ≡ Some text
  pub is_brace : marked mark.BraceOpen brace ≡ Some opened

-- Tokens begin a state, and say whole parts of it.
pub record BeginsState (tokens : List Token) : Type 0 where
  pub state : Token
  pub name : Token
  pub brace : Token
  pub parts : List Token
  pub whole : tokens ≡ state ∷ name ∷ brace ∷ parts
  pub head : IsHead state name brace
  pub said : SayParts parts

-- Items are one state.
pub record IsOneState (items : List Item) : Type 0 where
  pub name : Name
  pub parts : List Part
  pub only : items ≡ State name parts ∷ []

-- A sign or the end, as it is put behind tokens.
abbrev pub placed : What → Token
placed what = record { what = what; span = record { line = 1; start = 0; end = 0 }; number = 0 }
