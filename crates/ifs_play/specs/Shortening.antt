-- Moves without some of them.
use Rattle.std.specs.Prelude.{ℕ, List}
use Rattle.std.specs.List.{remove}
use Rattle.ifs_play.specs.declared.moves.Move.{Move}

-- The second moves are the first ones, in order, without some of them.
pub data IsShortened : List Move → List Move → Type 0 where
  whole : (moves : List Move) → IsShortened moves moves
  without : (moves kept : List Move) (place : ℕ) → IsShortened moves kept → IsShortened moves (remove kept place)
