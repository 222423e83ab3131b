-- How a line prints a fault of a text.
use Rattle.std.specs.Prelude.{ℕ, List, ◌++◌, codes, decimal}
use Rattle.ifs_lex.specs.declared.fault.LexFault.{LexFault}
use Rattle.ifs_lex.specs.declared.fault.LexFault.TheVariants.{Stray, Unclosed, UnknownMacro, BadMacro, OverLimit, Memory}

-- The words of a fault: its code, and its line.
abbrev pub lex_fault_words : LexFault → List ℕ
lex_fault_words (Stray line) = codes "P1 line " ++ decimal line
lex_fault_words (Unclosed line) = codes "P2 line " ++ decimal line
lex_fault_words (UnknownMacro line) = codes "P3 line " ++ decimal line
lex_fault_words (BadMacro line) = codes "P4 line " ++ decimal line
lex_fault_words (OverLimit line) = codes "P5 line " ++ decimal line
lex_fault_words Memory = codes "P0"
