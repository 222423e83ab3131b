-- Texts without a list of lexemes: the place where they are stuck, and the reason.
use Rattle.std.specs.Prelude.{◌≡◌, ◌≢◌, ℕ, ◌+◌, true, false, List, [], ◌∷◌, drop}
use Rattle.ifs_lex.specs.Characters.{is_quote}
use Rattle.ifs_lex.specs.declared.fault.LexFault.{LexFault}
use Rattle.ifs_lex.specs.declared.fault.LexFault.TheVariants as lexing
use Rattle.ifs_lex.specs.Lexemes.{Lexeme, Spanned}
use Rattle.ifs_lex.specs.Spelling.{IsGap, IsLexeme, Closes, stands, line_at}

-- Lexemes of a text from one place up to another.
pub data UpTo (text : List ℕ) : ℕ → List Spanned → ℕ → Type 0 where
  -- blanks and comments
  gap_to : (at gap : ℕ) → IsGap (drop at text) gap → UpTo text at [] (at + gap)
  -- blanks and comments, a lexeme, and the lexemes after it
  lexeme_to : (at gap own end : ℕ) (lexeme : Lexeme) (lexemes : List Spanned) → IsGap (drop at text) gap → IsLexeme (drop (at + gap) text) lexeme own
      → UpTo text (at + gap + own) lexemes end → UpTo text at (stands text lexeme (at + gap) (at + gap + own) ∷ lexemes) end

-- A quote opens here, and none closes it.
pub record IsUnclosed (bytes : List ℕ) : Type 0 where
  pub quote : ℕ
  pub rest : List ℕ
  pub begins : bytes ≡ quote ∷ rest
  pub opens : is_quote quote ≡ true
  pub unclosed : (n : ℕ) → ¬ Closes quote false rest n

-- Nothing fits: neither the end, nor a blank or a comment, nor a lexeme.
pub record FitsNothing (bytes : List ℕ) : Type 0 where
  pub goes_on : bytes ≢ []
  pub no_gap : (n : ℕ) → IsGap bytes n → n ≡ 0
  pub no_lexeme : (lexeme : Lexeme) (n : ℕ) → ¬ IsLexeme bytes lexeme n

-- The fault at a place where nothing fits, with its line: P2 at a quote that none closes, and otherwise P1.
abbrev pub IsFaultAt : List ℕ → ℕ → LexFault → Type 0
IsFaultAt text at (lexing.Stray line) = (line ≡ line_at text at) × ¬ IsUnclosed (drop at text)
IsFaultAt text at (lexing.Unclosed line) = (line ≡ line_at text at) × IsUnclosed (drop at text)
IsFaultAt text at _ = ⊥

-- A text is stuck at a place: lexemes come up to it, and nothing fits there.
pub record IsStuck (text : List ℕ) (at : ℕ) (fault : LexFault) : Type 0 where
  pub lexemes : List Spanned
  pub before : UpTo text 0 lexemes at
  pub nothing : FitsNothing (drop at text)
  pub fault_is : IsFaultAt text at fault

-- A text is stuck somewhere with this fault.
abbrev pub StuckWith : List ℕ → LexFault → Type 0
StuckWith text fault = (at : ℕ) × IsStuck text at fault

-- P1 and P2 say that the text itself is stuck with that fault. Other faults do not say so.
abbrev pub SaysStuck : List ℕ → LexFault → Type 0
SaysStuck text (lexing.Stray line) = StuckWith text (lexing.Stray line)
SaysStuck text (lexing.Unclosed line) = StuckWith text (lexing.Unclosed line)
SaysStuck text _ = Unit {0}
