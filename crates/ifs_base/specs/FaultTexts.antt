-- How a line prints a fault: its code, and its place.
use Rattle.std.specs.Prelude.{ℕ, List, [], ◌++◌, codes, decimal}
use Rattle.ifs_base.specs.declared.fault_text.FaultText.{FaultText}
use Rattle.ifs_base.specs.declared.fault_text.FaultPlace.{FaultPlace}
use Rattle.ifs_base.specs.declared.fault_text.FaultPlace.TheVariants.{Nowhere, Line, Byte, Routine, Head, State, Instruction}

-- The words of a place.
abbrev pub place_words : FaultPlace → List ℕ
place_words Nowhere = []
place_words (Line line) = codes " line " ++ decimal line
place_words (Byte at) = codes " byte " ++ decimal at
place_words (Routine routine) = codes " routine " ++ decimal routine.0
place_words Head = codes " head"
place_words (State state) = codes " state " ++ decimal state.0
place_words (Instruction routine place) = codes " routine " ++ decimal routine.0 ++ codes " place " ++ decimal place

-- The words of a fault.
abbrev pub fault_words : FaultText → List ℕ
fault_words fault = fault.code.now ++ place_words fault.place
