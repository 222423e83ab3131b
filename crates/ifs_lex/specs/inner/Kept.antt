-- What the code keeps of a macro: a rope of its value.
use Rattle.std.specs.Prelude.{◌≡◌, ◌≢◌, ◌≤◌, List, Result, Ok, Err, MatchResult}
use Rattle.ifs_lex.specs.declared.token.What.{What}
use Rattle.ifs_lex.specs.declared.fault.LexFault.{LexFault}
use Rattle.ifs_lex.specs.declared.fault.LexFault.TheVariants.{Memory}
use Rattle.ifs_lex.specs.declared.ropes.Rope.{Rope}
use Rattle.ifs_lex.specs.declared.macros.Entry.{Entry}
use Rattle.ifs_lex.specs.inner.Ropes.{whats_at, Holds}
use Rattle.ifs_lex.specs.Expansion.{Macro}

-- The tokens of a rope.
abbrev pub whats_of_rope : List (List What) → Rope → List What
whats_of_rope ropes rope = whats_at ropes rope.root

-- The macro of an entry.
abbrev pub macro_of : List (List What) → Entry → Macro
macro_of ropes entry = record { whats = whats_of_rope ropes entry.rope; given = entry.given }

-- A rope of a value: it is kept, and has at most the length of a value.
pub record IsValue (ropes : List (List What)) (rope : Rope) : Type 0 where
  pub holds : Holds ropes rope
  pub within : rope.count ≤ 16384

-- A result is the wanted one, or an allocation failed.
abbrev pub IsAsWanted : {X Y : Type 0} → (X → Y) → Result X LexFault → Result Y LexFault → Type 0
IsAsWanted view result wanted = MatchResult result (λ x. wanted ≡ Ok (view x)) (λ fault. fault ≢ Memory → wanted ≡ Err fault)
