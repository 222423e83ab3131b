-- The greatest costs of events, by the written code.
use Rattle.std.specs.Prelude.{ℕ, ◌+◌, ◌*◌, max, List, ◌∷◌, length, sum_by, Option, Some, None, slice_get}
use Rattle.ifs_base.specs.declared.op.Op.{Op}
use Rattle.ifs_base.specs.declared.op.Op.TheVariants.{Call}
use Rattle.ifs_image.specs.declared.parts.Routine.{Routine}
use Rattle.ifs_gen.specs.PlainSizes.{number_in}
use Rattle.ifs_gen.specs.inner.Measures.{capped}

-- The cost of a call: itself, the code and its `ret`.
abbrev pub call_cost : Option (List Op) → ℕ
call_cost None = 1
call_cost (Some code) = 2 + length code

-- The cost of an instruction. An instruction other than a call executes itself alone.
abbrev pub op_cost : List (List Op) → Op → ℕ
op_cost table (Call n) = call_cost (slice_get table n.0)
op_cost table _ = 1

-- The greatest cost of a handler.
abbrev pub routine_cost : List (List Op) → Routine → ℕ
routine_cost table routine = capped (sum_by (op_cost table) routine.code)

-- The greatest cost of an init, among routines that are the init and the body of each part.
abbrev pub most_of_inits : List (List Op) → List Routine → ℕ
most_of_inits table (init ∷ body ∷ rest) = max (routine_cost table init) (most_of_inits table rest)
most_of_inits table _ = 0

-- The greatest cost of a body among such routines.
abbrev pub most_of_bodies : List (List Op) → List Routine → ℕ
most_of_bodies table (init ∷ body ∷ rest) = max (routine_cost table body) (most_of_bodies table rest)
most_of_bodies table _ = 0

-- The greatest cost of one event, which is an evaluation or the opening.
abbrev pub event_cost_in : List (List Op) → List Routine → ℕ → ℕ
event_cost_in table (init ∷ body ∷ states) initial =
    max (routine_cost table body + most_of_bodies table states + most_of_inits table states)
    (routine_cost table init + number_in (routine_cost table) (slice_get states (2 * initial)))
event_cost_in table _ initial = 0
