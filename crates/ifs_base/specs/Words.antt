-- Words of lines: hexadecimal digits, link states, quoted texts and lists.
use Rattle.std.specs.Prelude.{ℕ, ◌≢◌, ◌<◌, ◌+◌, ◌/◌, ◌%◌, ◌==◌, ◌||◌, nat_lt, if◌then◌else◌, List, [], ◌∷◌, ◌++◌, codes}
use Rattle.std.specs.List.{flat_map}
use Rattle.ifs_base.specs.declared.op.LinkState.{LinkState}
use Rattle.ifs_base.specs.declared.op.LinkState.TheVariants.{Unknown, Down, Up}
use Rattle.ifs_base.specs.declared.words.QuotedByte.{QuotedByte}
use Rattle.ifs_base.specs.declared.words.QuotedByte.TheVariants.{Plain, Escaped, Hexadecimal}

-- The word of a link state.
abbrev pub link_word : LinkState → List ℕ
link_word Unknown = codes "unknown"
link_word Down = codes "down"
link_word Up = codes "up"

-- A hexadecimal digit, in lower case.
abbrev pub hex_digit : ℕ → ℕ
hex_digit digit = if nat_lt digit 10 then 48 + digit else 87 + digit

-- A byte that is no hexadecimal digit in lower case.
abbrev pub IsNoDigit : ℕ → Type 0
IsNoDigit byte = (digit : ℕ) → digit < 16 → byte ≢ hex_digit digit

-- A byte of a quoted text. A quote and a backslash get a backslash. Bytes below 32 and the byte 127 are hexadecimal.
abbrev pub quoted_byte : ℕ → List ℕ
quoted_byte byte =
    if (byte == 34) || (byte == 92) then 92 ∷ byte ∷ [] else
    if nat_lt byte 32 || (byte == 127) then 92 ∷ 120 ∷ hex_digit (byte / 16) ∷ hex_digit (byte % 16) ∷ [] else
    byte ∷ []

-- A text in quotes.
abbrev pub quoted : List ℕ → List ℕ
quoted text = codes "\"" ++ flat_map quoted_byte text ++ codes "\""

-- Texts with commas between them, or a dash if there is none.
abbrev pub listed : List (List ℕ) → List ℕ
listed [] = codes "-"
listed (text ∷ texts) = text ++ flat_map (λ other. codes "," ++ other) texts

-- The bytes that a `QuotedByte` stands for.
abbrev pub bytes_of : QuotedByte → List ℕ
bytes_of (Plain byte) = byte ∷ []
bytes_of (Escaped byte) = 92 ∷ byte ∷ []
bytes_of (Hexadecimal high low) = 92 ∷ 120 ∷ high ∷ low ∷ []
