-- Which claims the text of a file states.
use Rattle.std.specs.Prelude.{◌≡◌, ◌≢◌, ◌<◌, ◌≤◌, ◌+◌, ◌-◌, ℕ, min, max, false, List, [], ◌∷◌, ◌++◌, length, slice_index}
use Rattle.std.specs.List.{AllByRecursion, list_any}
use Rattle.ifs_lex.specs.declared.token.Token.{Token}
use Rattle.ifs_lex.specs.Lexemes.{lexemes_of}
use Rattle.ifs_lex.specs.Expansion.{HasTokens, is_equals}
use Rattle.ifs_policy.specs.declared.tables.Tables.{Tables}
use Rattle.ifs_claim_parse.specs.declared.context.LinePlace.{LinePlace}
use Rattle.ifs_claim_parse.specs.declared.stated.Stated.{Stated}
use Rattle.ifs_claim_parse.specs.Says.{Says, NamesAreIn}

-- A line has no newline in it.
abbrev pub IsLine : List ℕ → Type 0
IsLine line = (i : ℕ) → i < length line → slice_index line i ≢ 10

-- The offset in the file of an offset behind the macros. It is in the line, or at its end.
abbrev pub offset_in : LinePlace → ℕ → ℕ
offset_in place offset = place.at + min (offset - place.macros) place.bytes

-- Tokens of a line state a claim, from the first token to the last one.
pub record IsStated (tables : Tables) (place : LinePlace) (tokens : List Token) (stated : Stated) : Type 0 where
  pub says : Says tables tokens stated.claim
  pub numbered : stated.line ≡ place.number
  pub starts : (first : Token) (rest : List Token) → tokens ≡ first ∷ rest → stated.part.start ≡ offset_in place first.span.start
  pub ends : (front : List Token) (last : Token) → tokens ≡ front ++ last ∷ [] → stated.part.end ≡ max stated.part.start (offset_in place last.span.end)

-- A line without tokens states nothing, and any other one claim.
abbrev pub AreStated : Tables → LinePlace → List Token → List Stated → Type 0
AreStated tables place [] found = found ≡ []
AreStated tables place (token ∷ tokens) found = (stated : Stated) × (found ≡ stated ∷ []) × IsStated tables place (token ∷ tokens) stated

-- The place of a line with this number and this offset.
abbrev pub place_of : List ℕ → ℕ → ℕ → List ℕ → LinePlace
place_of macros number at line = record { number = number; at = at; bytes = length line; macros = length macros }

-- A line states claims: it has no `=`, and its tokens are those that it has behind the definitions of macros.
pub record LineStates (macros : List ℕ) (defs : List (List ℕ × List ℕ)) (tables : Tables) (number at : ℕ) (line : List ℕ) (found : List Stated) : Type 0 where
  pub plain : list_any (λ p. is_equals p.lexeme) (lexemes_of line) ≡ false
  pub tokens : List Token
  pub end : Token
  pub has : HasTokens (macros ++ line) defs (tokens ++ end ∷ [])
  pub stated : AreStated tables (place_of macros number at line) tokens found

-- The lines of a text state claims, in order. The first one has this number and begins at this offset.
pub data AreClaims (macros : List ℕ) (defs : List (List ℕ × List ℕ)) (tables : Tables) : ℕ → ℕ → List ℕ → List Stated → Type 0 where
  -- the last line
  last_line : (number at : ℕ) (line : List ℕ) (found : List Stated) → IsLine line → LineStates macros defs tables number at line found → AreClaims macros defs tables number at line found
  -- a line, its newline, and the lines after it
  next_line : (number at : ℕ) (line rest : List ℕ) (found others : List Stated) → IsLine line → LineStates macros defs tables number at line found
      → AreClaims macros defs tables (number + 1) (at + length line + 1) rest others → AreClaims macros defs tables number at (line ++ 10 ∷ rest) (found ++ others)

-- The policy has all that the claims speak of.
abbrev pub NamesOfAllAreIn : Tables → List Stated → Type 0
NamesOfAllAreIn tables stated = AllByRecursion (λ s. NamesAreIn tables s.claim) stated

-- A file states claims: it has at most 65,536 bytes, and they are at most 1,024.
pub record FileStates (macros : List ℕ) (defs : List (List ℕ × List ℕ)) (tables : Tables) (text : List ℕ) (stated : List Stated) : Type 0 where
  pub short : length text ≤ 65536
  pub few : length stated ≤ 1024
  pub claims : AreClaims macros defs tables 1 0 text stated
  pub names : NamesOfAllAreIn tables stated
