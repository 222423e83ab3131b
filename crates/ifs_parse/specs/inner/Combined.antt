-- Combinators of parsers. A parser takes tokens from the left, and looks one token ahead.
use Rattle.std.specs.Prelude.{◌≡◌, ◌≢◌, ℕ, zero, suc, List, [], ◌∷◌, drop, length}
use Rattle.std.specs.Prelude.{Option, Some, None, Result, Ok, Err, MatchResult}
use Rattle.std.specs.Option.{option_map_or}
use Rattle.ifs_base.specs.Results.{◌>>=◌}
use Rattle.ifs_lex.specs.declared.token.Token.{Token}
use Rattle.ifs_lex.specs.declared.token.TokenPlace.{TokenPlace}
use Rattle.ifs_lex.specs.Numbered.{place_of}
use Rattle.ifs_parse.specs.declared.fault.ParseFault.{ParseFault}
use Rattle.ifs_parse.specs.declared.fault.ParseFault.TheVariants.{Unexpected, Memory}
use Rattle.ifs_parse.specs.declared.mark.Mark.{Mark}
use Rattle.ifs_parse.specs.Words.{marked}

-- The tokens that are left, and the lines of the notes so far.
pub record Progress : Type 0 where
  pub left : List Token
  pub notes : List ℕ

abbrev pub progress : List Token → List ℕ → Progress
progress left notes = record { left = left; notes = notes }

-- After the first token.
abbrev pub after_token : Progress → Progress
after_token s = progress (drop 1 s.left) s.notes

-- A parser reads a value, or reports a fault.
abbrev pub Parse : Type 0 → Type 0
Parse X = Progress → Result (X × Progress) ParseFault

-- The place where no token is.
abbrev pub nowhere : TokenPlace
nowhere = record { span = record { line = 0; start = 0; end = 0 }; number = 0 }

-- The place of the first token.
abbrev pub place_of_first : List Token → TokenPlace
place_of_first [] = nowhere
place_of_first (t ∷ ts) = place_of t

-- The fault that nothing goes on with the first token.
abbrev pub unexpected : {X : Type 0} → Parse X
unexpected s = Err (Unexpected (place_of_first s.left))

-- What the first token says, if there is one.
abbrev pub found : {X : Type 0} → (Token → Option X) → List Token → Option X
found what [] = None
found what (t ∷ ts) = what t

-- The place of the first token, if it has this mark.
abbrev pub accepted : Mark → List Token → Option TokenPlace
accepted mark = found (marked mark)

-- Takes no token and gives a value.
abbrev pub pure : {X : Type 0} → X → Parse X
pure x s = Ok (x, s)

-- One thing and then another.
infixr 5 ◌▸◌
abbrev pub ◌▸◌ : {X Y : Type 0} → Parse X → (X → Parse Y) → Parse Y
(p ▸ q) s = p s >>= λ r. q r.0 r.1

-- Takes one token that says a value.
abbrev pub one_token : {X : Type 0} → (Token → Option X) → Parse X
one_token what s = option_map_or (λ x. Ok (x, after_token s)) (found what s.left) (unexpected s)

-- Takes a mark and goes on after it, or goes on without it.
abbrev pub either : {X : Type 0} → Mark → (TokenPlace → Parse X) → Parse X → Parse X
either mark yes_then else_then s = option_map_or (λ place. yes_then place (after_token s)) (accepted mark s.left) (else_then s)

-- The same with a value that may be missing.
abbrev pub begins : {X : Type 0} → Mark → (TokenPlace → Parse X) → Parse (Option X) → Parse (Option X)
begins mark yes_then else_then = either mark (λ place. yes_then place ▸ λ x. pure (Some x)) else_then

-- Takes nothing.
abbrev pub no_more : {X : Type 0} → Parse (Option X)
no_more = pure None

-- A value that must come.
abbrev pub required : {X : Type 0} → Parse (Option X) → Parse X
required p = p ▸ λ r. option_map_or pure r unexpected

-- Takes a mark, and gives its place.
abbrev pub expected : Mark → Parse TokenPlace
expected mark = either mark pure unexpected

-- At most `n` values. `add` puts them together from the left.
abbrev pub many_from : {A X : Type 0} → Parse (Option X) → (A → X → A) → ℕ → A → Parse A
many_from part add zero a s = Ok (a, s)
many_from part add (suc n) a s = part s >>= λ r. option_map_or (λ x. many_from part add n (add a x) r.1) r.0 (Ok (a, r.1))

-- As many values as come. Each has at least one token.
abbrev pub many : {A X : Type 0} → Parse (Option X) → (A → X → A) → A → Parse A
many part add a s = many_from part add (length s.left) a s

-- A result is the wanted one, or an allocation failed.
abbrev pub IsAsRead : {X Y : Type 0} → (X → Y) → Result X ParseFault → Result Y ParseFault → Type 0
IsAsRead view result wanted = MatchResult result (λ x. wanted ≡ Ok (view x)) (λ fault. fault ≢ Memory → wanted ≡ Err fault)
