-- From the lexemes of a text to its tokens, without definitions, and with macros in place of their uses.
use Rattle.std.specs.Prelude.{◌≡◌, ℕ, zero, suc, ◌+◌, Bool, true, false, ◌&&◌, ◌||◌, not, nat_lt, if◌then◌else◌, List}
use Rattle.std.specs.Prelude.{[], ◌∷◌, ◌++◌, length, map, Option, Some, None, option_map, is_some, Result, Ok, Err}
use Rattle.std.specs.Borrow.{Bor}
use Rattle.std.specs.Option.{option_map_or}
use Rattle.std.specs.Str.{bytes_eq}
use Rattle.ifs_base.specs.declared.span.Span.{Span}
use Rattle.ifs_base.specs.Results.{◌>>=◌}
use Rattle.ifs_lex.specs.declared.token.What.{What}
use Rattle.ifs_lex.specs.declared.token.What.TheVariants.{Word, Quoted, Equals, End}
use Rattle.ifs_lex.specs.declared.token.Token.{Token}
use Rattle.ifs_lex.specs.declared.fault.LexFault.{LexFault}
use Rattle.ifs_lex.specs.declared.fault.LexFault.TheVariants as lexing
use Rattle.ifs_lex.specs.declared.fault.LexFault.TheVariants.{UnknownMacro, BadMacro, OverLimit}
use Rattle.ifs_lex.specs.Characters.{is_macro_name, is_reserved}
use Rattle.ifs_lex.specs.Lexemes.{Lexeme, One, Uses, Stray, Unclosed, Spanned, lexemes_of}
use Rattle.ifs_lex.specs.Numbered.{numbered_from}

-- The definitions that are given beside a text: names and values.
abbrev pub defined_by : List (Bor (List ℕ) × Bor (List ℕ)) → List (List ℕ × List ℕ)
defined_by defs = map (λ d. (d.0.now, d.1.now)) defs

-- A macro: its tokens, and whether it was given beside the text.
pub record Macro : Type 0 where
  pub whats : List What
  pub given : Bool

-- The macros that are known at a place, by name, and the number of names.
pub record Macros : Type 0 where
  pub known : List ℕ → Option Macro
  pub count : ℕ

-- No macro.
abbrev pub no_macros : Macros
no_macros = record { known = λ name. None; count = 0 }

-- The same with a macro under a name, in place of the macro that the name had.
abbrev pub with_macro : List ℕ → Macro → Macros → Macros
with_macro name new m = record {
  known = λ asked. if bytes_eq name asked then Some new else m.known asked;
  count = m.count + (if is_some (m.known name) then 0 else 1);
}

-- The tokens of a lexeme of a value. A value has no sign `=`, no use of an unknown macro, and no fault.
abbrev pub whats_of : Macros → Lexeme → Option (List What)
whats_of m (One Equals) = None
whats_of m (One End) = Some []
whats_of m (One what) = Some (what ∷ [])
whats_of m (Uses name) = option_map (λ known. known.whats) (m.known name)
whats_of m Stray = None
whats_of m Unclosed = None

-- The tokens of a value so far, and more of them, at most 16,384 in all.
abbrev pub joined : List What → Option (List What) → Option (List What)
joined before None = None
joined before (Some more) = if nat_lt 16384 (length before + length more) then None else Some (before ++ more)

-- The tokens of a value, after those of its first lexemes.
abbrev pub value_from : Macros → Option (List What) → List Spanned → Option (List What)
value_from m before [] = before
value_from m None (p ∷ rest) = None
value_from m (Some before) (p ∷ rest) = value_from m (joined before (whats_of m p.lexeme)) rest

-- The tokens of a value. Its text has at most 1,048,576 bytes.
unfoldable pub value_of : Macros → List ℕ → Option (List What)
value_of m text = if nat_lt 1048576 (length text) then None else value_from m (Some []) (lexemes_of text)

-- A macro of this name was given beside the text.
abbrev pub is_given : Macros → List ℕ → Bool
is_given m name = option_map_or (λ known. known.given) (m.known name) false

-- The macros with one more. A bad value is the fault before a name too many, of 256.
abbrev pub known_as : ℕ → Bool → List ℕ → Option (List What) → Macros → Result Macros LexFault
known_as line given name None m = Err (BadMacro line)
known_as line given name (Some whats) m =
    if is_some (m.known name) || nat_lt m.count 256 then Ok (with_macro name (record { whats = whats; given = given }) m)
    else Err (OverLimit line)

-- The macros after a definition. It is not read if its name was given beside the text.
unfoldable pub defined : ℕ → Bool → List ℕ → List ℕ → Macros → Result Macros LexFault
defined line given name value m = if is_given m name then Ok m else known_as line given name (value_of m value) m

-- A segment of a text: a definition, or a lexeme.
pub data Segment : Type 0 where
  Defines : List ℕ → List ℕ → Span → Segment
  Stands : Spanned → Segment

-- The name that a lexeme can give to a macro.
abbrev pub macro_name_of : Lexeme → Option (List ℕ)
macro_name_of (One (Word name)) = if is_macro_name name && not (is_reserved name) then Some name else None
macro_name_of _ = None

-- The sign `=`.
abbrev pub is_equals : Lexeme → Bool
is_equals (One Equals) = true
is_equals _ = false

-- The text that a lexeme can give to a macro: a word that is not reserved, or a quoted text.
abbrev pub macro_text_of : Lexeme → Option (List ℕ)
macro_text_of (One (Word word)) = if is_reserved word then None else Some word
macro_text_of (One (Quoted text)) = Some text
macro_text_of _ = None

-- The text that the next two lexemes give to a name: they are the sign `=` and a string.
abbrev pub given_text : List Spanned → Option (List ℕ)
given_text [] = None
given_text (e ∷ []) = None
given_text (e ∷ v ∷ rest) = if is_equals e.lexeme then macro_text_of v.lexeme else None

-- The definition that begins with a lexeme, by the lexemes after it.
abbrev pub definition_at : Spanned → List Spanned → Option Segment
definition_at p rest =
    option_map_or (λ name. option_map (λ text. Defines name text p.span) (given_text rest)) (macro_name_of p.lexeme) None

-- The segments of a text after some lexemes. A definition is three lexemes.
abbrev pub segments_from : ℕ → List Spanned → List Segment
segments_from left_out [] = []
segments_from (suc left_out) (p ∷ rest) = segments_from left_out rest
segments_from zero (p ∷ rest) =
    option_map_or (λ part. part ∷ segments_from 2 rest) (definition_at p rest) (Stands p ∷ segments_from 0 rest)

-- The tokens so far, and the known macros.
pub record Expanded : Type 0 where
  pub tokens : List Token
  pub macros : Macros

abbrev pub expanded : List Token → Macros → Expanded
expanded tokens macros = record { tokens = tokens; macros = macros }

-- A token at a place. It gets its number once all tokens are known.
abbrev pub token : Span → What → Token
token span what = record { what = what; span = span; number = 0 }

-- The same with more tokens, at most 16,384 in all.
abbrev pub with_whats : Span → List What → Expanded → Result Expanded LexFault
with_whats span whats s =
    if nat_lt 16384 (length s.tokens + length whats) then Err (OverLimit span.line)
    else Ok (expanded (s.tokens ++ map (token span) whats) s.macros)

-- The same with the tokens of a macro, if it is known.
abbrev pub with_use : Span → Option Macro → Expanded → Result Expanded LexFault
with_use span None s = Err (UnknownMacro span.line)
with_use span (Some known) s = with_whats span known.whats s

-- The same with what a lexeme gives. The limit does not count the end.
abbrev pub with_lexeme : Span → Lexeme → Expanded → Result Expanded LexFault
with_lexeme span (One End) s = Ok (expanded (s.tokens ++ (token span End ∷ [])) s.macros)
with_lexeme span (One what) s = with_whats span (what ∷ []) s
with_lexeme span (Uses name) s = with_use span (s.macros.known name) s
with_lexeme span Stray s = Err (lexing.Stray span.line)
with_lexeme span Unclosed s = Err (lexing.Unclosed span.line)

-- The same with what a segment gives.
unfoldable pub with_segment : Segment → Expanded → Result Expanded LexFault
with_segment (Defines name value span) s = defined span.line false name value s.macros >>= λ m. Ok (expanded s.tokens m)
with_segment (Stands p) s = with_lexeme p.span p.lexeme s

-- The tokens after some segments.
abbrev pub tokens_after : Expanded → List Segment → Result (List Token) LexFault
tokens_after s [] = Ok s.tokens
tokens_after s (part ∷ rest) = with_segment part s >>= λ next. tokens_after next rest

-- The macros after a definition that is given beside the text, at line 0.
abbrev pub given_one : List ℕ → List ℕ → Macros → Result Macros LexFault
given_one name value m = if is_macro_name name then defined 0 true name value m else Err (BadMacro 0)

-- The macros after all definitions that are given beside the text, in order.
abbrev pub given_from : Macros → List (List ℕ × List ℕ) → Result Macros LexFault
given_from m [] = Ok m
given_from m (def ∷ rest) = given_one def.0 def.1 m >>= λ next. given_from next rest

-- The tokens of a text without their numbers, with the definitions beside it. Faults of these come first, and then the size of the
-- text.
unfoldable pub unnumbered_of : List ℕ → List (List ℕ × List ℕ) → Result (List Token) LexFault
unnumbered_of text defs =
    given_from no_macros defs >>= λ m.
    if nat_lt 1048576 (length text) then Err (OverLimit 1) else tokens_after (expanded [] m) (segments_from 0 (lexemes_of text))

-- The tokens of a text, numbered from 0.
unfoldable pub tokens_of : List ℕ → List (List ℕ × List ℕ) → Result (List Token) LexFault
tokens_of text defs = unnumbered_of text defs >>= λ tokens. Ok (numbered_from 0 tokens)

-- A text spells tokens, with the definitions beside it.
abbrev pub HasTokens : List ℕ → List (List ℕ × List ℕ) → List Token → Type 0
HasTokens text defs tokens = tokens_of text defs ≡ Ok tokens

-- Whether a token is the end.
abbrev pub is_end : What → Bool
is_end End = true
is_end _ = false

-- No token is the end.
abbrev pub Endless : List Token → Type 0
Endless [] = Unit {0}
Endless (first ∷ rest) = (is_end first.what ≡ false) × Endless rest

-- The last token, and no other, is the end.
pub record EndsOnce (tokens : List Token) : Type 0 where
  pub front : List Token
  pub last : Token
  pub whole : tokens ≡ front ++ last ∷ []
  pub ends : last.what ≡ End
  pub once : Endless front
