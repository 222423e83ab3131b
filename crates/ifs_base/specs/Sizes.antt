-- The limits of names, commands and periods.
use Rattle.std.specs.Prelude.{ℕ, ◌≢◌, ◌≤◌, List, length, All}

-- A name or a command has from 1 to 1,024 bytes, none of them a NUL.
pub record TextFits (text : List ℕ) : Type 0 where
  pub not_empty : 1 ≤ length text
  pub within : length text ≤ 1024
  pub no_nul : All (λ byte. byte ≢ 0) text

-- A test's period is from 1 second to 604,800 (seven days).
pub record PeriodFits (seconds : ℕ) : Type 0 where
  pub not_zero : 1 ≤ seconds
  pub within : seconds ≤ 604800
