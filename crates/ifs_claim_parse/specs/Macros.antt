-- The definitions of macros in a text.
use Rattle.std.specs.Prelude.{ℕ, zero, suc, Bool, ◌&&◌, if◌then◌else◌, List, [], ◌∷◌, ◌++◌, take, drop, Option, Some, None, is_some}
use Rattle.std.specs.Option.{option_map_or}
use Rattle.ifs_lex.specs.Lexemes.{Spanned, lexemes_of}
use Rattle.ifs_lex.specs.Expansion.{is_equals, macro_name_of, macro_text_of}

-- Three lexemes define a macro: a name, the sign `=`, and a string.
abbrev pub is_definition : Spanned → Spanned → Spanned → Bool
is_definition name equals value = is_some (macro_name_of name.lexeme) && is_equals equals.lexeme && is_some (macro_text_of value.lexeme)

-- The offset behind the definition that begins with a lexeme, by the lexemes after it.
abbrev pub definition_end : Spanned → List Spanned → Option ℕ
definition_end name [] = None
definition_end name (equals ∷ []) = None
definition_end name (equals ∷ value ∷ rest) = if is_definition name equals value then Some value.span.end else None

-- The definitions that begin with these lexemes, as the text has them, each with a newline behind it. So many lexemes are left out before.
abbrev pub definitions_from : List ℕ → ℕ → List Spanned → List ℕ
definitions_from text left_out [] = []
definitions_from text (suc left_out) (first ∷ rest) = definitions_from text left_out rest
definitions_from text zero (first ∷ rest) =
    option_map_or (λ end. drop first.span.start (take end text) ++ (10 ∷ definitions_from text 2 rest)) (definition_end first rest) (definitions_from text 0 rest)

-- All definitions of macros in a text.
abbrev pub macros_of : List ℕ → List ℕ
macros_of text = definitions_from text 0 (lexemes_of text)
