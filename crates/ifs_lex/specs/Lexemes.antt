-- The lexemes of a text, read from the left.
use Rattle.std.specs.Prelude.{ℕ, zero, suc, ◌+◌, Bool, true, false, ◌&&◌, ◌||◌, not, ◌==◌, if◌then◌else◌}
use Rattle.std.specs.Prelude.{List, [], ◌∷◌, length, take, drop, Option, Some, None, option_map, count_by}
use Rattle.std.specs.Option.{option_map_or}
use Rattle.std.specs.List.{prefix_len}
use Rattle.ifs_base.specs.declared.span.Span.{Span}
use Rattle.ifs_lex.specs.declared.token.What.{What}
use Rattle.ifs_lex.specs.declared.token.What.TheVariants.{Word, Quoted, BraceOpen, BraceClose, ParenOpen}
use Rattle.ifs_lex.specs.declared.token.What.TheVariants.{ParenClose, Dot, Equals, Bang, And, Or, End}
use Rattle.ifs_lex.specs.Characters.{is_blank, is_quote, begins_name, continues_name, begins_word, continues_word}

-- Bytes begin with this one.
abbrev pub begins_with : ℕ → List ℕ → Bool
begins_with byte [] = false
begins_with byte (b ∷ rest) = b == byte

-- What a byte between lexemes is in: blanks, or a comment. A comment knows whether the byte before was a backslash.
pub data Gap : Type 0 where
  Blanks : Gap
  Comment : Bool → Gap

-- What comes after a byte of a gap, if the byte is in the gap. `#` begins a comment. A newline ends it unless a
-- backslash comes before. A backslash before a newline is a blank.
abbrev pub gap_after : Gap → ℕ → List ℕ → Option Gap
gap_after Blanks b rest =
    if b == 35 then Some (Comment false) else
    if is_blank b || ((b == 92) && begins_with 10 rest) then Some Blanks else None
gap_after (Comment escaped) b rest =
    if (b == 10) && not escaped then Some Blanks else Some (Comment (b == 92))

-- The length of the blanks and comments that come first.
abbrev pub gap_len : Gap → List ℕ → ℕ
gap_len gap [] = 0
gap_len gap (b ∷ rest) = option_map_or (λ next. 1 + gap_len next rest) (gap_after gap b rest) 0

-- The number of bytes before the closing quote, which is the first one that is not after a backslash.
abbrev pub inside_len : ℕ → Bool → List ℕ → Option ℕ
inside_len quote escaped [] = None
inside_len quote escaped (b ∷ rest) =
    if (b == quote) && not escaped then Some 0 else option_map (λ n. 1 + n) (inside_len quote (b == 92) rest)

-- A byte is dropped from a value: a newline, or a backslash before the same quote, a space, a tab or a newline.
unfoldable pub is_dropped : ℕ → ℕ → List ℕ → Bool
is_dropped quote b rest =
    (b == 10) || ((b == 92) && (begins_with quote rest || begins_with 32 rest || begins_with 9 rest || begins_with 10 rest))

-- The value of the bytes between two quotes.
abbrev pub quoted_value : ℕ → List ℕ → List ℕ
quoted_value quote [] = []
quoted_value quote (b ∷ rest) = if is_dropped quote b rest then quoted_value quote rest else b ∷ quoted_value quote rest

-- A lexeme: a token, a use of a macro by its name, a character that begins no lexeme, or a quote that no quote closes.
pub data Lexeme : Type 0 where
  One : What → Lexeme
  Uses : List ℕ → Lexeme
  Stray : Lexeme
  Unclosed : Lexeme

-- A lexeme and the number of its bytes.
pub record Scan : Type 0 where
  pub lexeme : Lexeme
  pub len : ℕ

abbrev pub scan : Lexeme → ℕ → Scan
scan lexeme len = record { lexeme = lexeme; len = len }

-- A word, as long as it can be.
abbrev pub word_here : List ℕ → Scan
word_here bytes = let n = prefix_len continues_word bytes in scan (One (Word (take n bytes))) n

-- A quoted text, by what comes after its quote.
abbrev pub quoted_here : ℕ → List ℕ → Scan
quoted_here quote rest =
    option_map_or (λ n. scan (One (Quoted (quoted_value quote (take n rest)))) (n + 2)) (inside_len quote false rest) (scan Unclosed 0)

-- A macro name begins here.
abbrev pub begins_macro : List ℕ → Bool
begins_macro [] = false
begins_macro (b ∷ rest) = begins_name b

-- A use, by what comes after its `$`: a macro name, as long as it can be.
abbrev pub use_here : List ℕ → Scan
use_here rest =
    let n = prefix_len continues_name rest in if begins_macro rest then scan (Uses (take n rest)) (1 + n) else scan Stray 0

-- A sign of one character twice.
abbrev pub twice : ℕ → What → List ℕ → Scan
twice byte what rest = if begins_with byte rest then scan (One what) 2 else scan Stray 0

-- A sign.
abbrev pub sign_here : ℕ → List ℕ → Scan
sign_here b rest =
    if b == 123 then scan (One BraceOpen) 1 else
    if b == 125 then scan (One BraceClose) 1 else
    if b == 40 then scan (One ParenOpen) 1 else
    if b == 41 then scan (One ParenClose) 1 else
    if b == 46 then scan (One Dot) 1 else
    if b == 61 then scan (One Equals) 1 else
    if b == 33 then scan (One Bang) 1 else
    if b == 38 then twice 38 And rest else
    if b == 124 then twice 124 Or rest else scan Stray 0

-- The lexeme that comes first, if no gap does.
unfoldable pub lexeme_here : List ℕ → Scan
lexeme_here [] = scan (One End) 0
lexeme_here (b ∷ rest) =
    if begins_word b then word_here (b ∷ rest) else
    if is_quote b then quoted_here b rest else
    if b == 36 then use_here rest else sign_here b rest

-- A cursor in a text: its offset, its line, and the bytes after it.
pub record TextCursor : Type 0 where
  pub at : ℕ
  pub line : ℕ
  pub left : List ℕ

-- The cursor after n more bytes.
abbrev pub past : ℕ → TextCursor → TextCursor
past n p = record {
  at = p.at + n;
  line = p.line + count_by (λ b. b == 10) (take n p.left);
  left = drop n p.left;
}

-- The cursor after blanks and comments.
abbrev pub past_gap : TextCursor → TextCursor
past_gap p = past (gap_len Blanks p.left) p

-- A lexeme and its place.
pub record Spanned : Type 0 where
  pub lexeme : Lexeme
  pub span : Span

-- The next lexeme.
abbrev pub lexeme_at : TextCursor → Spanned
lexeme_at p =
    let q = past_gap p in let here = lexeme_here q.left in
    record { lexeme = here.lexeme; span = record { line = q.line; start = q.at; end = q.at + here.len } }

-- The cursor after the next lexeme.
abbrev pub after_lexeme : TextCursor → TextCursor
after_lexeme p = let q = past_gap p in past (lexeme_here q.left).len q

-- The lexer stops after the end of the text, and after what is no token and no use.
abbrev pub is_last : Lexeme → Bool
is_last (One End) = true
is_last Stray = true
is_last Unclosed = true
is_last _ = false

-- The lexemes from a cursor on, at most `most`.
abbrev pub lexemes_from : ℕ → TextCursor → List Spanned
lexemes_from zero p = []
lexemes_from (suc most) p =
    let found = lexeme_at p in found ∷ (if is_last found.lexeme then [] else lexemes_from most (after_lexeme p))

-- The lexemes from a cursor on. Each has at least one byte.
unfoldable pub lexemes_at : TextCursor → List Spanned
lexemes_at p = lexemes_from (1 + length p.left) p

-- The cursor at the start of a text.
abbrev pub start : List ℕ → TextCursor
start text = record { at = 0; line = 1; left = text }

-- The lexemes of a text.
abbrev pub lexemes_of : List ℕ → List Spanned
lexemes_of text = lexemes_at (start text)
