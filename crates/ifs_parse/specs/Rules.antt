-- Rules of a grammar: which tokens say which value, and with which notes.
use Rattle.std.specs.Prelude.{◌≡◌, ℕ, Bool, if◌then◌else◌, List, [], ◌∷◌, ◌++◌, Option, Some, None, ◌⊎◌}
use Rattle.ifs_lex.specs.declared.token.Token.{Token}
use Rattle.ifs_lex.specs.declared.token.TokenPlace.{TokenPlace}
use Rattle.ifs_parse.specs.declared.mark.Mark.{Mark}
use Rattle.ifs_parse.specs.Words.{marked}

-- Tokens say a value, with notes on these lines.
abbrev pub Rule : Type 0 → Type 1
Rule X = List Token → X → List ℕ → Type 0

-- No token says a value.
pub record GivesValue {X : Type 0} (value : X) (tokens : List Token) (x : X) (notes : List ℕ) : Type 0 where
  pub none : tokens ≡ []
  pub is_value : x ≡ value
  pub unnoted : notes ≡ []

-- One token says a value.
pub record OneToken {X : Type 0} (what : Token → Option X) (tokens : List Token) (x : X) (notes : List ℕ) : Type 0 where
  pub token : Token
  pub only : tokens ≡ token ∷ []
  pub stands : what token ≡ Some x
  pub unnoted : notes ≡ []

-- A token with a mark says its place.
abbrev pub TheMark : Mark → Rule TokenPlace
TheMark mark = OneToken (marked mark)

-- One rule and then another, which depends on the value of the first.
infixr 5 ◌⨟◌
pub record ◌⨟◌ {X Y : Type 0} (P : Rule X) (Q : X → Rule Y) (tokens : List Token) (y : Y) (notes : List ℕ) : Type 0 where
  pub x : X
  pub front : List Token
  pub back : List Token
  pub before : List ℕ
  pub after : List ℕ
  pub tokens_are : tokens ≡ front ++ back
  pub notes_are : notes ≡ before ++ after
  pub first : P front x before
  pub second : Q x back y after

-- Either of two rules.
infixr 4 ◌or◌
abbrev pub ◌or◌ : {X : Type 0} → Rule X → Rule X → Rule X
(P or Q) tokens x notes = P tokens x notes ⊎ Q tokens x notes

-- No tokens say anything.
abbrev pub Never : {X : Type 0} → Rule X
Never tokens x notes = ⊥

-- A rule, or no token.
abbrev pub Optional : {X : Type 0} → Rule X → Rule (Option X)
Optional P tokens None notes = (tokens ≡ []) × (notes ≡ [])
Optional P tokens (Some x) notes = P tokens x notes

-- A rule, with a note at a line before its other notes if its value says so.
pub record Noted {X : Type 0} (line : ℕ) (P : Rule (X × Bool)) (tokens : List Token) (x : X) (notes : List ℕ) : Type 0 where
  pub is_noted : Bool
  pub within : List ℕ
  pub notes_are : notes ≡ (if is_noted then line ∷ within else within)
  pub said : P tokens (x, is_noted) within

-- A list with one more value at the end.
abbrev pub with_last : {X : Type 0} → List X → X → List X
with_last xs x = xs ++ x ∷ []

-- A rule any number of times. `add` puts the values together from the left.
pub data Many {A X : Type 0} (P : Rule X) (add : A → X → A) : A → List Token → A → List ℕ → Type 0 where
  Enough : {a : A} → Many P add a [] a []
  More : {a b : A} {x : X} {front back : List Token} {before after : List ℕ}
      → P front x before → Many P add (add a x) back b after → Many P add a (front ++ back) b (before ++ after)
