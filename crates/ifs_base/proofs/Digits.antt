-- The loop over the digits of a number.
use Rattle.std.proofs.Common.{◌≡◌, ℕ, ◌^◌, ◌≤◌, Option, Some, None}

-- The loop keeps the number n if it is below 2 ^ 64, and nothing otherwise.
abbrev pub Keeps : Option ℕ → ℕ → Type 0
Keeps None n = 2 ^ 64 ≤ n
Keeps (Some m) n = m ≡ n
