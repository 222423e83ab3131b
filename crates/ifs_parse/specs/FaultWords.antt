-- How a line prints a fault of tokens.
use Rattle.std.specs.Prelude.{ℕ, List, ◌++◌, codes, decimal}
use Rattle.ifs_parse.specs.declared.fault.ParseFault.{ParseFault}
use Rattle.ifs_parse.specs.declared.fault.ParseFault.TheVariants.{Unexpected, Period, Nesting, Memory}

-- The words of a fault: its code, and its line.
abbrev pub parse_fault_words : ParseFault → List ℕ
parse_fault_words (Unexpected place) = codes "P6 line " ++ decimal place.span.line
parse_fault_words (Period place) = codes "P7 line " ++ decimal place.span.line
parse_fault_words (Nesting place) = codes "P8 line " ++ decimal place.span.line
parse_fault_words Memory = codes "P0"
