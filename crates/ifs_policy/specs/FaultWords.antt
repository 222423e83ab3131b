-- The words of the faults of names and of texts, as they are printed.
use Rattle.std.specs.Prelude.{ℕ, List, ◌++◌, codes, decimal}
use Rattle.ifs_lex.specs.FaultWords.{lex_fault_words}
use Rattle.ifs_parse.specs.FaultWords.{parse_fault_words}
use Rattle.ifs_policy.specs.declared.front.PolicyFault.{PolicyFault}
use Rattle.ifs_policy.specs.declared.front.PolicyFault.TheVariants as policies
use Rattle.ifs_policy.specs.declared.fault.ResolveFault.{ResolveFault}
use Rattle.ifs_policy.specs.declared.fault.ResolveFault.TheVariants.{NoState, StateTwice, UnknownState, SecondInit, SetStateInInit, TestInInit, TableFull, BadText, Memory}

-- The code and the line of a fault of names.
abbrev pub resolve_fault_words : ResolveFault → List ℕ
resolve_fault_words (NoState line) = codes "P9 line " ++ decimal line
resolve_fault_words (StateTwice place) = codes "P10 line " ++ decimal place.span.line
resolve_fault_words (UnknownState place) = codes "P11 line " ++ decimal place.span.line
resolve_fault_words (SecondInit place) = codes "P12 line " ++ decimal place.span.line
resolve_fault_words (SetStateInInit place) = codes "P13 line " ++ decimal place.span.line
resolve_fault_words (TestInInit place) = codes "P14 line " ++ decimal place.span.line
resolve_fault_words (TableFull place) = codes "P15 line " ++ decimal place.span.line
resolve_fault_words (BadText place) = codes "P16 line " ++ decimal place.span.line
resolve_fault_words Memory = codes "P0"

-- The words of the fault of the first step that rejects a text.
abbrev pub policy_fault_words : PolicyFault → List ℕ
policy_fault_words (policies.Text fault) = lex_fault_words fault
policy_fault_words (policies.Tokens fault) = parse_fault_words fault
policy_fault_words (policies.Names fault) = resolve_fault_words fault
policy_fault_words policies.Memory = codes "P0"
