-- One step of reading a number.
use Rattle.std.specs.Prelude.{ℕ, ◌+◌, ◌*◌, ◌^◌, nat_lt, if◌then◌else◌, Option, Some, None}

-- A number with one more digit at its end, if that is below 2 ^ 64.
abbrev pub with_digit : Option ℕ → ℕ → Option ℕ
with_digit None digit = None
with_digit (Some n) digit = if nat_lt (10 * n + digit) (2 ^ 64) then Some (10 * n + digit) else None
