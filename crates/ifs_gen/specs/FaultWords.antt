-- The words of the faults of code and of compiling, as they are printed.
use Rattle.std.specs.Prelude.{ℕ, List, ◌++◌, codes, decimal}
use Rattle.ifs_policy.specs.FaultWords.{policy_fault_words}
use Rattle.ifs_gen.specs.declared.fault.GenFault.{GenFault}
use Rattle.ifs_gen.specs.declared.fault.GenFault.TheVariants.{RoutineTooLong, CodeTooLong, StackTooHigh, TooManyCommands, Memory}
use Rattle.ifs_gen.specs.declared.compile_fault.CompileFault.{CompileFault}
use Rattle.ifs_gen.specs.declared.compile_fault.CompileFault.TheVariants as texts

-- The code of a limit, and the routine that exceeds it.
abbrev pub gen_fault_words : GenFault → List ℕ
gen_fault_words (RoutineTooLong routine) = codes "G1 routine " ++ decimal routine.0
gen_fault_words CodeTooLong = codes "G2"
gen_fault_words (StackTooHigh routine) = codes "G3 routine " ++ decimal routine.0
gen_fault_words TooManyCommands = codes "G4"
gen_fault_words Memory = codes "P0"

-- The words of the fault of the first step that rejects a text.
abbrev pub compile_fault_words : CompileFault → List ℕ
compile_fault_words (texts.Text fault) = policy_fault_words fault
compile_fault_words (texts.Code fault) = gen_fault_words fault
compile_fault_words texts.Memory = codes "P0"
