-- The place of a report on a request line.
use Rattle.std.specs.Prelude.{ℕ, ◌≤◌}
use Rattle.ifs_report.specs.declared.reports.Place.{Place}
use Rattle.ifs_report.specs.declared.reports.Place.TheVariants as places

-- A part of a text lies within its first bytes.
pub record LiesWithin (len start end : ℕ) : Type 0 where
  pub begins : start ≤ end
  pub ends : end ≤ len

-- A place is a part of a text of so many bytes.
abbrev pub IsWithin : ℕ → Place → Type 0
IsWithin len (places.Text part) = LiesWithin len part.start part.end
IsWithin len _ = ⊥
