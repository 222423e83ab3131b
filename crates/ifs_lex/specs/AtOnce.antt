-- Faults that are certain before the first allocation. `tokens` returns them even if allocations fail.
use Rattle.std.specs.Prelude.{ℕ, nat_lt, if◌then◌else◌, List, [], ◌∷◌, length, Option, Some, None}
use Rattle.ifs_base.specs.declared.span.Span.{Span}
use Rattle.ifs_lex.specs.declared.fault.LexFault.{LexFault}
use Rattle.ifs_lex.specs.declared.fault.LexFault.TheVariants as lexing
use Rattle.ifs_lex.specs.declared.fault.LexFault.TheVariants.{UnknownMacro, BadMacro, OverLimit}
use Rattle.ifs_lex.specs.Characters.{is_macro_name}
use Rattle.ifs_lex.specs.Lexemes.{Lexeme, One, Uses, Stray, Unclosed, Spanned, lexeme_at, start}

-- The fault of a lexeme if no macro is known.
abbrev pub fault_without_macros : Span → Lexeme → Option LexFault
fault_without_macros span (One _) = None
fault_without_macros span (Uses name) = Some (UnknownMacro span.line)
fault_without_macros span Stray = Some (lexing.Stray span.line)
fault_without_macros span Unclosed = Some (lexing.Unclosed span.line)

-- The fault of a text's first lexeme if no macro is known.
abbrev pub fault_of_first : Spanned → Option LexFault
fault_of_first p = fault_without_macros p.span p.lexeme

-- The certain fault of a text. Without definitions beside it, the text is too long, or its first lexeme has a fault. With
-- definitions, the first one has no macro name, or too long a value.
abbrev pub certain_at_once : List ℕ → List (List ℕ × List ℕ) → Option LexFault
certain_at_once text [] = if nat_lt 1048576 (length text) then Some (OverLimit 1) else fault_of_first (lexeme_at (start text))
certain_at_once text (def ∷ rest) =
    if is_macro_name def.0 then (if nat_lt 1048576 (length def.1) then Some (BadMacro 0) else None) else Some (BadMacro 0)
