-- A gap by its parts: blanks, joined lines and comments.
use Rattle.std.specs.Prelude.{◌≡◌, ℕ, ◌+◌, ◌<◌, ◌≤◌, List, length, drop, Option}
use Rattle.std.specs.Option.{option_map_or}
use Rattle.ifs_lex.specs.Lexemes.{gap_len, Blanks}

-- The bytes of a comment, by what comes after its `#` and the place of the newline that ends it.
abbrev pub comment_bytes : List ℕ → Option ℕ → ℕ
comment_bytes bytes newline = option_map_or (λ n. n + 1) newline (length bytes)

-- A part of a gap has this many bytes, and the rest of the gap comes after it.
pub record IsGapPart (bytes : List ℕ) (part : ℕ) : Type 0 where
  pub some : 0 < part
  pub within : part ≤ length bytes
  pub rest : gap_len Blanks bytes ≡ part + gap_len Blanks (drop part bytes)
