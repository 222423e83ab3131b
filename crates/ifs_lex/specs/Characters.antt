-- The bytes of a policy text, in ASCII.
use Rattle.std.specs.Prelude.{ℕ, Bool, false, ◌&&◌, ◌||◌, ◌==◌, nat_le, List, [], ◌∷◌, length}
use Rattle.std.specs.List.{prefix_len}
use Rattle.std.specs.Str.{bytes_eq}
use Rattle.std.specs.Prelude.{codes}

-- A letter: A to Z, a to z.
abbrev pub is_letter : ℕ → Bool
is_letter b = (nat_le 65 b && nat_le b 90) || (nat_le 97 b && nat_le b 122)

-- A digit: 0 to 9.
abbrev pub is_digit : ℕ → Bool
is_digit b = nat_le 48 b && nat_le b 57

-- A blank: tab, newline, carriage return, space.
abbrev pub is_blank : ℕ → Bool
is_blank b = (b == 9) || (b == 10) || (b == 13) || (b == 32)

-- A quote: " or '.
abbrev pub is_quote : ℕ → Bool
is_quote b = (b == 34) || (b == 39)

-- A byte with which a macro name can begin: a letter or _.
abbrev pub begins_name : ℕ → Bool
begins_name b = is_letter b || (b == 95)

-- A byte with which a macro name can go on: a letter, a digit or _.
abbrev pub continues_name : ℕ → Bool
continues_name b = is_letter b || is_digit b || (b == 95)

-- A byte with which a word can begin: a letter, a digit, _ or /.
abbrev pub begins_word : ℕ → Bool
begins_word b = is_letter b || is_digit b || (b == 95) || (b == 47)

-- A byte with which a word can go on: one of these, or - : + @ % * ~.
abbrev pub continues_word : ℕ → Bool
continues_word b = begins_word b || (b == 45) || (b == 58) || (b == 43) || (b == 64) || (b == 37) || (b == 42) || (b == 126)

-- A macro name.
abbrev pub is_macro_name : List ℕ → Bool
is_macro_name [] = false
is_macro_name (b ∷ rest) = begins_name b && (prefix_len continues_name rest == length rest)

-- A reserved word.
abbrev pub is_reserved : List ℕ → Bool
is_reserved word =
    bytes_eq word (codes "state") || bytes_eq word (codes "init-state") || bytes_eq word (codes "init") ||
    bytes_eq word (codes "if") || bytes_eq word (codes "run") || bytes_eq word (codes "set-state") || bytes_eq word (codes "every")
