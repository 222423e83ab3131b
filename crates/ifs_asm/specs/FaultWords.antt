-- How the faults of an assembly text are printed.
use Rattle.std.specs.Prelude.{ℕ, List, ◌++◌, codes, decimal}
use Rattle.ifs_asm.specs.declared.fault.AsmFault.{AsmFault}
use Rattle.ifs_asm.specs.declared.fault.AsmFault.TheVariants.{Unknown, OutOfRange, OutOfOrder, Memory}

-- A fault's code, and its line.
abbrev pub asm_fault_words : AsmFault → List ℕ
asm_fault_words (Unknown line) = codes "A1 line " ++ decimal line
asm_fault_words (OutOfRange line) = codes "A2 line " ++ decimal line
asm_fault_words (OutOfOrder line) = codes "A3 line " ++ decimal line
asm_fault_words Memory = codes "A0"
