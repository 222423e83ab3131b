-- The place of an offset in a text: its line and its column. Both count from 1. An offset past the end stands for the end.
use Rattle.std.specs.Prelude.{ℕ, Bool, not, ◌+◌, ◌&&◌, ◌==◌, nat_le, List, take, count_by}
use Rattle.std.specs.List.{after_last}

-- A newline.
abbrev pub is_newline : ℕ → Bool
is_newline byte = byte == 10

-- A byte that begins a character of UTF-8: any byte but the continuation bytes, 0x80 to 0xbf.
abbrev pub begins_character : ℕ → Bool
begins_character byte = not (nat_le 128 byte && nat_le byte 191)

-- The line of an offset: one more than the newlines before it.
abbrev pub line_of : List ℕ → ℕ → ℕ
line_of text offset = 1 + count_by is_newline (take offset text)

-- The column of an offset: one more than the characters between the last newline before it and itself.
abbrev pub column_of : List ℕ → ℕ → ℕ
column_of text offset = 1 + count_by begins_character (after_last is_newline (take offset text))
