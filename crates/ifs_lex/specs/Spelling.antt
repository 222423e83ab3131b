-- The lexemes of a text as relations, beside the functions that read them.
use Rattle.std.specs.Prelude.{◌≡◌, ◌≢◌, ℕ, zero, suc, ◌+◌, ◌<◌, ◌≤◌, Bool, true, false, ◌||◌, ◌==◌}
use Rattle.std.specs.Prelude.{List, [], ◌∷◌, ◌++◌, length, take, drop, count_by, slice_index, codes}
use Rattle.ifs_lex.specs.declared.token.What.{What}
use Rattle.ifs_lex.specs.declared.token.What.TheVariants.{Word, Quoted, BraceOpen, BraceClose, ParenOpen}
use Rattle.ifs_lex.specs.declared.token.What.TheVariants.{ParenClose, Dot, Equals, Bang, And, Or, End}
use Rattle.ifs_lex.specs.Characters.{is_blank, is_quote, begins_name, continues_name, begins_word, continues_word}
use Rattle.ifs_lex.specs.Lexemes.{Lexeme, One, Uses, Spanned}

-- n bytes pass a test, and the next byte does not, if there is one.
pub record Longest (passes : ℕ → Bool) (bytes : List ℕ) (n : ℕ) : Type 0 where
  pub within : n ≤ length bytes
  pub pass : (k : ℕ) → k < n → passes (slice_index bytes k) ≡ true
  pub stops : n < length bytes → passes (slice_index bytes n) ≡ false

-- A byte that stays after its backslash is dropped: the same quote, a space or a tab.
abbrev pub is_escaped : ℕ → ℕ → Bool
is_escaped quote b = (b == quote) || (b == 32) || (b == 9)

-- A backslash before these bytes is dropped.
abbrev pub escapes : ℕ → List ℕ → Bool
escapes quote [] = false
escapes quote (b ∷ rest) = is_escaped quote b || (b == 10)

-- The bytes between two quotes, and their value.
pub data HasValue (quote : ℕ) : List ℕ → List ℕ → Type 0 where
  nothing : HasValue quote [] []
  newline : (b : ℕ) (rest value : List ℕ) → b ≡ 10 → HasValue quote rest value → HasValue quote (b ∷ rest) value
  continued : (b c : ℕ) (rest value : List ℕ) → b ≡ 92 → c ≡ 10 → HasValue quote rest value → HasValue quote (b ∷ c ∷ rest) value
  escaped : (b c : ℕ) (rest value : List ℕ) → b ≡ 92 → is_escaped quote c ≡ true → HasValue quote rest value → HasValue quote (b ∷ c ∷ rest) (c ∷ value)
  itself : (b : ℕ) (rest value : List ℕ) → b ≢ 10 → (b ≡ 92 → escapes quote rest ≡ false) → HasValue quote rest value → HasValue quote (b ∷ rest) (b ∷ value)

-- The byte before a place is a backslash. `before` says so of the first place.
abbrev pub after_backslash : Bool → List ℕ → ℕ → Bool
after_backslash before bytes zero = before
after_backslash before bytes (suc k) = slice_index bytes k == 92

-- The first such byte that is not after a backslash: the closing quote, or the newline that ends a comment.
pub record Closes (quote : ℕ) (before : Bool) (bytes : List ℕ) (n : ℕ) : Type 0 where
  pub within : n < length bytes
  pub closes : slice_index bytes n ≡ quote
  pub free : after_backslash before bytes n ≡ false
  pub first : (k : ℕ) → k < n → slice_index bytes k ≡ quote → after_backslash before bytes k ≡ true

-- No newline ends what is left of a comment: each one is right after a backslash.
abbrev pub Unended : List ℕ → Type 0
Unended bytes = (k : ℕ) → k < length bytes → slice_index bytes k ≡ 10 → after_backslash false bytes k ≡ true

-- n bytes of blanks and comments come first.
pub data IsGap : List ℕ → ℕ → Type 0 where
  -- none
  empty : (bytes : List ℕ) → IsGap bytes 0
  -- a blank, and then more
  blank : (b : ℕ) (rest : List ℕ) (n : ℕ) → is_blank b ≡ true → IsGap rest n → IsGap (b ∷ rest) (suc n)
  -- a backslash and its newline, and then more
  joined : (rest : List ℕ) (n : ℕ) → IsGap rest n → IsGap (92 ∷ 10 ∷ rest) (suc (suc n))
  -- `#`, the bytes of a comment and the newline that ends it, and then more
  comment : (rest : List ℕ) (inside n : ℕ) → Closes 10 false rest inside → IsGap (drop (suc inside) rest) n → IsGap (35 ∷ rest) (suc (suc inside + n))
  -- `#` and a comment to the end of the text
  last_comment : (rest : List ℕ) → Unended rest → IsGap (35 ∷ rest) (suc (length rest))

-- The signs and their tokens.
pub data IsSign : List ℕ → What → Type 0 where
  brace_open : IsSign (codes "{") BraceOpen
  brace_close : IsSign (codes "}") BraceClose
  paren_open : IsSign (codes "(") ParenOpen
  paren_close : IsSign (codes ")") ParenClose
  point : IsSign (codes ".") Dot
  equals : IsSign (codes "=") Equals
  bang : IsSign (codes "!") Bang
  conjunction : IsSign (codes "&&") And
  disjunction : IsSign (codes "||") Or

-- A lexeme of n bytes comes first.
pub data IsLexeme : List ℕ → Lexeme → ℕ → Type 0 where
  -- a word, as long as it can be
  word : (b : ℕ) (rest : List ℕ) (n : ℕ) → begins_word b ≡ true → Longest continues_word (b ∷ rest) n → IsLexeme (b ∷ rest) (One (Word (take n (b ∷ rest)))) n
  -- two quotes, and the value of the bytes between
  quoted : (quote : ℕ) (rest value : List ℕ) (n : ℕ) → is_quote quote ≡ true → Closes quote false rest n → HasValue quote (take n rest) value → IsLexeme (quote ∷ rest) (One (Quoted value)) (n + 2)
  -- `$` and a name, as long as it can be
  uses : (b : ℕ) (rest : List ℕ) (n : ℕ) → begins_name b ≡ true → Longest continues_name (b ∷ rest) n → IsLexeme (36 ∷ b ∷ rest) (Uses (take n (b ∷ rest))) (1 + n)
  -- a sign
  sign : (own rest : List ℕ) (what : What) → IsSign own what → IsLexeme (own ++ rest) (One what) (length own)

-- The line of a byte of a text: one more than the number of newlines before it.
abbrev pub line_at : List ℕ → ℕ → ℕ
line_at text at = 1 + count_by (λ b. b == 10) (take at text)

-- A lexeme from one byte of a text up to another.
abbrev pub stands : List ℕ → Lexeme → ℕ → ℕ → Spanned
stands text lexeme first next = record { lexeme = lexeme; span = record { line = line_at text first; start = first; end = next } }

-- The lexemes of a text from a place on.
pub data Spelling (text : List ℕ) : ℕ → List Spanned → Type 0 where
  -- blanks and comments, and the end
  ends : (at gap : ℕ) → IsGap (drop at text) gap → at + gap ≡ length text → Spelling text at (stands text (One End) (at + gap) (at + gap) ∷ [])
  -- blanks and comments, a lexeme, and the lexemes after it
  goes_on : (at gap own : ℕ) (lexeme : Lexeme) (lexemes : List Spanned) → IsGap (drop at text) gap → IsLexeme (drop (at + gap) text) lexeme own → Spelling text (at + gap + own) lexemes → Spelling text at (stands text lexeme (at + gap) (at + gap + own) ∷ lexemes)

-- The last lexeme is the end of the text.
abbrev pub Ended : List Spanned → Type 0
Ended [] = ⊥
Ended (p ∷ []) = p.lexeme ≡ One End
Ended (p ∷ q ∷ rest) = Ended (q ∷ rest)
