-- One turn of the code: a definition or a lexeme, from a cursor on.
use Rattle.std.specs.Prelude.{ℕ, Bool, false, if◌then◌else◌, List, Option, Some, None, option_map, Result, Ok}
use Rattle.std.specs.Option.{option_map_or}
use Rattle.ifs_base.specs.Results.{◌>>=◌}
use Rattle.ifs_lex.specs.declared.fault.LexFault.{LexFault}
use Rattle.ifs_lex.specs.declared.reading.Reading.{Reading}
use Rattle.ifs_lex.specs.Lexemes.{Lexeme, TextCursor, Spanned, lexeme_at, after_lexeme}
use Rattle.ifs_lex.specs.Expansion.{Expanded, expanded, macro_name_of, is_equals, macro_text_of, defined}
use Rattle.ifs_lex.specs.Expansion.{with_lexeme}
use Rattle.ifs_lex.specs.inner.Known.{macros_of}

-- The tokens so far, and the known macros.
abbrev pub expanded_of : Reading → Expanded
expanded_of r = expanded r.tokens.items (macros_of r.macros)

-- The text that the lexemes from a cursor on give to a name.
abbrev pub text_here : TextCursor → Option (List ℕ)
text_here q = if is_equals (lexeme_at q).lexeme then macro_text_of (lexeme_at (after_lexeme q)).lexeme else None

-- The definition that begins with a lexeme and goes on at the cursor.
abbrev pub definition_here : TextCursor → Lexeme → Option (List ℕ × List ℕ)
definition_here q lexeme = option_map_or (λ name. option_map (λ text. (name, text)) (text_here q)) (macro_name_of lexeme) None

-- The cursor after a definition, if there is one.
abbrev pub after_definition : TextCursor → Bool → TextCursor
after_definition q is_one = if is_one then after_lexeme (after_lexeme q) else q

-- The same with a definition, or with a lexeme.
abbrev pub with_turn : Spanned → Option (List ℕ × List ℕ) → Expanded → Result Expanded LexFault
with_turn p None s = with_lexeme p.span p.lexeme s
with_turn p (Some d) s = defined p.span.line false d.0 d.1 s.macros >>= λ m. Ok (expanded s.tokens m)
