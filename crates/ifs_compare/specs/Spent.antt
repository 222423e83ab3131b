-- Situations that searches have looked at.
use Rattle.std.specs.Prelude.{◌≡◌, ◌≤◌, ◌-◌, Bool, true}
use Rattle.ifs_compare.specs.declared.effort.Effort.{Effort}

-- No more situations are left than there were, and each pair of handlers may look at as many.
pub record IsReduced (before after : Effort) : Type 0 where
  pub left : after.left ≤ before.left
  pub each : after.each ≡ before.each

-- As many situations are gone as one pair may look at, or all that were left.
abbrev pub IsUsedUp : Effort → Effort → Type 0
IsUsedUp before after = after.left ≤ before.left - before.each

-- Situations are gone. If something is not decided, they are used up.
pub record IsSpent (before after : Effort) (undecided : Bool) : Type 0 where
  pub reduced : IsReduced before after
  pub used_up : undecided ≡ true → IsUsedUp before after
