-- Devices in memory.
use Rattle.std.specs.Prelude.{ℕ, ◌-◌, ◌==◌, if◌then◌else◌, List, Option, Some, None}

-- A reader: the bytes left, the number of failures, and the number of calls before the one that fails, if any.
pub record Input : Type 0 where
  pub left : List ℕ
  pub faults : ℕ
  pub fails_after : Option ℕ

-- A writer: the bytes written, its capacity, the number of failures, and the number of calls before the one that fails, if any.
pub record Output : Type 0 where
  pub written : List ℕ
  pub capacity : ℕ
  pub faults : ℕ
  pub fails_after : Option ℕ

-- The number of calls before the one that fails, after one more call.
abbrev pub counted_down : Option ℕ → Option ℕ
counted_down None = None
counted_down (Some calls) = if calls == 0 then None else Some (calls - 1)
