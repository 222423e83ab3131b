-- Which states a block sets.
use Rattle.std.specs.Prelude.{ℕ, ◌==◌, ◌||◌, Bool, true, false, List, Option, Some, None, replicate, slice_set}
use Rattle.ifs_gen.specs.Trees.{Part}
use Rattle.ifs_parse.specs.Trees.{Done, RunThen, SetStateThen, IfThen}
use Rattle.ifs_policy.specs.Meaning.{Block}

-- A `set-state` in a block is for this state.
abbrev pub sets : ℕ → Block → Bool
sets state Done = false
sets state (RunThen command rest) = sets state rest
sets state (SetStateThen other rest) = (other.0 == state) || sets state rest
sets state (IfThen condition inner rest) = sets state inner || sets state rest

-- Marks of states, with those that a block sets.
abbrev pub marked : List Bool → Block → List Bool
marked marks Done = marks
marked marks (RunThen command rest) = marked marks rest
marked marks (SetStateThen state rest) = marked (slice_set marks state.0 true) rest
marked marks (IfThen condition inner rest) = marked (marked marks inner) rest

-- The first states that the always body sets, or the body of a state.
abbrev pub marks_of : ℕ → Block → Option Part → List Bool
marks_of count always None = marked (replicate count false) always
marks_of count always (Some part) = marked (marked (replicate count false) always) part.body
