-- Decimal numbers.
use Rattle.std.specs.Prelude.{ℕ, ◌+◌, ◌-◌, ◌*◌, ◌^◌, nat_lt, if◌then◌else◌, List, [], ◌∷◌, Option, Some, None}
use Rattle.std.specs.Char.{is_ascii_digit}
use Rattle.ifs_base.specs.declared.numbers.Number.{Number}
use Rattle.ifs_base.specs.declared.numbers.Number.TheVariants.{Within, TooGreat}

-- The number that digits spell after those that spell n. There is none if a byte is no digit.
abbrev pub number_from : ℕ → List ℕ → Option ℕ
number_from n [] = Some n
number_from n (digit ∷ digits) = if is_ascii_digit digit then number_from (10 * n + (digit - 48)) digits else None

-- The number that a text spells: one or more decimal digits.
abbrev pub number_of : List ℕ → Option ℕ
number_of [] = None
number_of (digit ∷ digits) = number_from 0 (digit ∷ digits)

-- A number if it is below 2 ^ 64, or else that it is too great.
abbrev pub sized : ℕ → Number
sized n = if nat_lt n (2 ^ 64) then Within n else TooGreat
