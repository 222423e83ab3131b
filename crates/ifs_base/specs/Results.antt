-- Results in sequence.
use Rattle.std.specs.Prelude.{Result, Ok, Err}

-- Goes on with the value of a result, or stops at its fault.
infixl 10 ◌>>=◌
abbrev pub ◌>>=◌ : {A B E : Type 0} → Result A E → (A → Result B E) → Result B E
(Ok x) >>= f = f x
(Err fault) >>= f = Err fault
