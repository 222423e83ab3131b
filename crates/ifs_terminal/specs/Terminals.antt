-- Which characters a terminal may act on in place of showing them.
use Rattle.std.specs.Prelude.{ℕ, Bool, ◌&&◌, ◌||◌, ◌==◌, nat_le}

-- A control character: U+0000 to U+001F, U+007F to U+009F. A separator of lines or paragraphs: U+2028, U+2029. A character that changes the direction of the text around it: U+061C, U+200E, U+200F, U+202A to U+202E, U+2066 to U+2069.
abbrev pub acts_on_terminal : ℕ → Bool
acts_on_terminal code =
    (nat_le 0 code && nat_le code 31) || (nat_le 127 code && nat_le code 159) || (code == 1564) || (code == 8206) ||
    (code == 8207) || (nat_le 8232 code && nat_le code 8238) || (nat_le 8294 code && nat_le code 8297)
