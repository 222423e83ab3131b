-- The fault that is certain at once is the first fault.
use Rattle.std.proofs.Common.{◌≡◌, ℕ, Bool, true, false, cond, ltb, List, [], ◌∷◌, length}
use Rattle.std.proofs.Common.{Option, Some, None, Result, Ok, Err, ap, ◌∙◌}
use Rattle.ifs_base.specs.declared.span.Span.{Span}
use Rattle.ifs_base.specs.Results.{◌>>=◌}
use Rattle.ifs_lex.specs.declared.token.What.{What}
use Rattle.ifs_lex.specs.declared.fault.LexFault.{LexFault}
use Rattle.ifs_lex.specs.declared.fault.LexFault.TheVariants.{BadMacro, OverLimit}
use Rattle.ifs_lex.specs.Characters.{is_macro_name}
use Rattle.ifs_lex.specs.Lexemes.{Lexeme, One, Uses, Stray, Unclosed, Spanned, lexeme_at}
use Rattle.ifs_lex.specs.Lexemes.{after_lexeme, is_last, lexemes_at, lexemes_of, start}
use Rattle.ifs_lex.specs.Expansion.{no_macros, value_of, value_from, known_as, defined, expanded, with_segment}
use Rattle.ifs_lex.specs.Expansion.{tokens_after, segments_from, given_one, given_from, tokens_of, unnumbered_of}
use Rattle.ifs_lex.specs.AtOnce.{fault_without_macros, certain_at_once}
use Rattle.ifs_lex.proofs.Unrolled.{lexemes_unroll}
use Rattle.ifs_lex.proofs.Numbers.{numbered_fault}

-- A fault, or else a value.
abbrev told : {X : Type 0} → X → Option LexFault → Result X LexFault
told x None = Ok x
told x (Some fault) = Err fault

first_told : (i : Lexeme) (span : Span) (more : List Spanned) (fault : LexFault) → fault_without_macros span i ≡ Some fault
    → tokens_after (expanded [] no_macros) (segments_from 0 (record { lexeme = i; span = span } ∷ more)) ≡ Err fault
unfolding with_segment
first_told (One what) span more fault h = absurd (cc)
first_told (Uses name) span more fault h = ap (told []) h
first_told Stray span more fault h = ap (told []) h
first_told Unclosed span more fault h = ap (told []) h

text_told : (t : Bool) (text : List ℕ) (fault : LexFault) → cond t (Some (OverLimit 1)) (fault_without_macros (lexeme_at (start text)).span (lexeme_at (start text)).lexeme) ≡ Some fault
    → cond t (Err (OverLimit 1)) (tokens_after (expanded [] no_macros) (segments_from 0 (lexemes_of text))) ≡ Err fault
text_told true text fault h = ap (told []) h
text_told false text fault h =
    ap (λ lexemes. tokens_after (expanded [] no_macros) (segments_from 0 lexemes)) (lexemes_unroll (start text)) ∙
    first_told (lexeme_at (start text)).lexeme (lexeme_at (start text)).span (cond (is_last (lexeme_at (start text)).lexeme) [] (lexemes_at (after_lexeme (start text)))) fault h

value_told : (u : Bool) (value : Option (List What)) (name : List ℕ) (fault : LexFault) → cond u (Some (BadMacro 0)) None ≡ Some fault
    → known_as 0 true name (cond u None value) no_macros ≡ Err fault
value_told true value name fault h = ap (told no_macros) h
value_told false value name fault h = absurd (cc)

given_told : (t u : Bool) (value : Option (List What)) (name : List ℕ) (fault : LexFault) → cond t (cond u (Some (BadMacro 0)) None) (Some (BadMacro 0)) ≡ Some fault
    → cond t (known_as 0 true name (cond u None value) no_macros) (Err (BadMacro 0)) ≡ Err fault
given_told true u value name fault h = value_told u value name fault h
given_told false u value name fault h = ap (told no_macros) h

one_told : (name value : List ℕ) (fault : LexFault) → cond (is_macro_name name) (cond (ltb 1048576 (length value)) (Some (BadMacro 0)) None) (Some (BadMacro 0)) ≡ Some fault
    → given_one name value no_macros ≡ Err fault
unfolding value_of defined
one_told name value fault h = given_told (is_macro_name name) (ltb 1048576 (length value)) (value_from no_macros (Some []) (lexemes_of value)) name fault h

certain_before : (text : List ℕ) (defs : List (List ℕ × List ℕ)) (fault : LexFault) → certain_at_once text defs ≡ Some fault → unnumbered_of text defs ≡ Err fault
unfolding unnumbered_of
certain_before text [] fault h = text_told (ltb 1048576 (length text)) text fault h
certain_before text (def ∷ rest) fault h =
    ap (λ r. (r >>= λ next. given_from next rest) >>= λ m. cond (ltb 1048576 (length text)) (Err (OverLimit 1)) (tokens_after (expanded [] m) (segments_from 0 (lexemes_of text))))
    (one_told def.0 def.1 fault h)

pub certain_told : (text : List ℕ) (defs : List (List ℕ × List ℕ)) (fault : LexFault) → certain_at_once text defs ≡ Some fault → tokens_of text defs ≡ Err fault
certain_told text defs fault h = numbered_fault text defs fault (certain_before text defs fault h)
