-- What can come behind the tokens of a text, by the grammar.
use Rattle.std.specs.Prelude.{◌≡◌, ◌⊎◌, ℕ, List, [], ◌∷◌, ◌++◌, length, codes}
use Rattle.std.specs.List.{AllByRecursion}
use Rattle.ifs_base.specs.declared.span.Span.{Span}
use Rattle.ifs_lex.specs.declared.token.Token.{Token}
use Rattle.ifs_lex.specs.declared.token.What.{What}
use Rattle.ifs_lex.specs.declared.token.What.TheVariants as what
use Rattle.ifs_lex.specs.Expansion.{Endless}
use Rattle.ifs_lex.specs.Numbered.{AreNumbered}
use Rattle.ifs_parse.specs.Files.{File}
use Rattle.ifs_parse.specs.declared.fault.ParseFault.{ParseFault}
use Rattle.ifs_parse.specs.Grammar.{GoesOn, NoneGoesOn, Says, StopsAt}
use Rattle.ifs_parse.specs.Words.{fits_period}
use Rattle.ifs_expected_tokens.specs.declared.kind.Kind.{Kind}
use Rattle.ifs_expected_tokens.specs.declared.kind.Kind.TheVariants as kind

-- The token that is for a kind.
abbrev pub what_of : Kind → What
what_of kind.State = what.Word (codes "state")
what_of kind.InitState = what.Word (codes "init-state")
what_of kind.Init = what.Word (codes "init")
what_of kind.If = what.Word (codes "if")
what_of kind.Run = what.Word (codes "run")
what_of kind.SetState = what.Word (codes "set-state")
what_of kind.Every = what.Word (codes "every")
what_of kind.Link = what.Word (codes "link")
what_of kind.Up = what.Word (codes "up")
what_of kind.Down = what.Word (codes "down")
what_of kind.Unknown = what.Word (codes "unknown")
what_of kind.Text = what.Quoted (codes "text")
what_of kind.Number = what.Word (codes "1")
what_of kind.BraceOpen = what.BraceOpen
what_of kind.BraceClose = what.BraceClose
what_of kind.ParenOpen = what.ParenOpen
what_of kind.ParenClose = what.ParenClose
what_of kind.Dot = what.Dot
what_of kind.Bang = what.Bang
what_of kind.And = what.And
what_of kind.Or = what.Or
what_of kind.End = what.End

-- The same at a place of its own, with this number.
abbrev pub token_of : ℕ → Kind → Token
token_of n k = record { what = what_of k; span = record { line = 1; start = 0; end = 0 }; number = n }

-- Some tokens that begin with these say a file.
abbrev pub CanGoOn : List Token → Type 0
CanGoOn front = (tail : List Token) × (file : File) × Says (front ++ tail) file

-- No tokens that begin with these say a file.
abbrev pub CannotGoOn : List Token → Type 0
CannotGoOn front = (tail : List Token) (file : File) → ¬ Says (front ++ tail) file

-- Tokens stop at a token with this number.
abbrev pub StopsOn : List Token → ℕ → Type 0
StopsOn tokens number = (fault : ParseFault) × (h : StopsAt tokens fault) × (h.token.number ≡ number)

-- A list has a kind.
abbrev pub HasKind : Kind → List Kind → Type 0
HasKind k [] = ⊥
HasKind k (first ∷ rest) = (first ≡ k) ⊎ HasKind k rest

-- A list has a kind exactly if a token of that kind, with this number, can come behind the tokens.
pub record AreExpectedAs (number : ℕ) (front : List Token) (kinds : List Kind) : Type 0 where
  pub listed : AllByRecursion (λ k. GoesOn fits_period 32 front (token_of number k)) kinds
  pub all : (k : Kind) → GoesOn fits_period 32 front (token_of number k) → HasKind k kinds

-- The same with the number of tokens before it.
abbrev pub AreExpected : List Token → List Kind → Type 0
AreExpected front kinds = AreExpectedAs (length front) front kinds

-- Tokens before the end, each with its number.
abbrev pub IsFront : List Token → Type 0
IsFront tokens = AreNumbered tokens × Endless tokens

-- Tokens can go on, but not with this one. It has this number, from 0, and this place, and these kinds can be there instead.
pub record IsStopBehind (front : List Token) (token : Token) (index : ℕ) (span : Span) (kinds : List Kind) : Type 0 where
  pub number : length front ≡ index
  pub at : token.span ≡ span
  pub cannot : NoneGoesOn fits_period 32 front token
  pub expected : AreExpected front kinds

-- Tokens stop at one of them: those before it can go on, but not with it.
pub record StopsBy (tokens : List Token) (index : ℕ) (span : Span) (kinds : List Kind) : Type 0 where
  pub front : List Token
  pub token : Token
  pub rest : List Token
  pub whole : tokens ≡ front ++ token ∷ rest
  pub can : CanGoOn front
  pub stop : IsStopBehind front token index span kinds
