-- The printed words of the faults of an image.
use Rattle.std.specs.Prelude.{ℕ, List, ◌++◌, codes, decimal}
use Rattle.ifs_image.specs.FaultWords.{image_fault_words}
use Rattle.ifs_verify.specs.declared.fault.At.{At}
use Rattle.ifs_verify.specs.declared.fault.At.TheVariants.{Head, State, Code}
use Rattle.ifs_verify.specs.declared.fault.VerifyFault.{VerifyFault}
use Rattle.ifs_verify.specs.declared.fault.VerifyFault.TheVariants as faults

-- A place in an image.
abbrev pub at_words : At → List ℕ
at_words Head = codes "head"
at_words (State state) = codes "state " ++ decimal state.0
at_words (Code routine place) = codes "routine " ++ decimal routine.0 ++ codes " place " ++ decimal place

-- The number of the check that fails, and its place.
abbrev pub verify_fault_words : VerifyFault → List ℕ
verify_fault_words (faults.NoImage fault) = image_fault_words fault
verify_fault_words (faults.NoEntry at) = codes "V2 " ++ at_words at
verify_fault_words (faults.JumpTarget at) = codes "V3 " ++ at_words at
verify_fault_words (faults.LeftAtEnd at) = codes "V4 " ++ at_words at
verify_fault_words (faults.Unreached at) = codes "V5 " ++ at_words at
verify_fault_words (faults.WrongOperand at) = codes "V6 " ++ at_words at
verify_fault_words (faults.WaysDisagree at) = codes "V7 " ++ at_words at
verify_fault_words (faults.CallNotLower at) = codes "V8 " ++ at_words at
verify_fault_words (faults.WrongResults at) = codes "V9 " ++ at_words at
verify_fault_words (faults.StackOver at) = codes "V10 " ++ at_words at
verify_fault_words (faults.FramesOver at) = codes "V11 " ++ at_words at
verify_fault_words (faults.CostOver at) = codes "V12 " ++ at_words at
verify_fault_words (faults.CommandsOver at) = codes "V13 " ++ at_words at
verify_fault_words (faults.HandlerLeaves at) = codes "V14 " ++ at_words at
verify_fault_words faults.OutOfMemory = codes "V0"
