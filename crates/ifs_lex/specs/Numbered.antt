-- The numbers of tokens in their list.
use Rattle.std.specs.Prelude.{◌≡◌, ℕ, suc, List, [], ◌∷◌}
use Rattle.ifs_lex.specs.declared.token.Token.{Token}
use Rattle.ifs_lex.specs.declared.token.TokenPlace.{TokenPlace}

-- Where a token is: its place in the text, and its number.
abbrev pub place_of : Token → TokenPlace
place_of t = record { span = t.span; number = t.number }

-- The same token with this number.
abbrev pub with_number : ℕ → Token → Token
with_number n t = record { what = t.what; span = t.span; number = n }

-- Tokens with the numbers from this one on, in order.
abbrev pub numbered_from : ℕ → List Token → List Token
numbered_from n [] = []
numbered_from n (t ∷ rest) = with_number n t ∷ numbered_from (suc n) rest

-- Tokens have the numbers from this one on, in order.
abbrev pub HaveNumbers : ℕ → List Token → Type 0
HaveNumbers n [] = Unit {0}
HaveNumbers n (t ∷ rest) = (t.number ≡ n) × HaveNumbers (suc n) rest

-- The number of each token is that of the tokens before it.
abbrev pub AreNumbered : List Token → Type 0
AreNumbered tokens = HaveNumbers 0 tokens
