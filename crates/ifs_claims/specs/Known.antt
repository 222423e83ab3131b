-- What is known of how often the state changes, for every number that a claim may have.
use Rattle.std.specs.Prelude.{ℕ, ◌≡◌, ◌≤◌, ◌/◌, ◌-◌, ◌⊎◌, min, false, Some}
use Rattle.ifs_solver.specs.declared.searching.Budget.{Budget}
use Rattle.ifs_claims.specs.declared.known_changes.KnownChanges.{KnownChanges}

-- The state is known never to change more often than this: so it is of some number up to this one.
pub record IsNever (known : KnownChanges) (most : ℕ) : Type 0 where
  pub least : ℕ
  pub is : known.never_more ≡ Some least
  pub up_to : least ≤ most

-- Under some facts it is known to change more often: so it is of some number from this one on.
pub record IsMore (known : KnownChanges) (most : ℕ) : Type 0 where
  pub greatest : ℕ
  pub is : known.more ≡ Some greatest
  pub from : most ≤ greatest

-- One of both is known of a number, and of each number that a claim may have.
abbrev pub IsKnown : KnownChanges → ℕ → Type 0
IsKnown known most = IsNever known most ⊎ IsMore known most

abbrev pub AreAllKnown : KnownChanges → Type 0
AreAllKnown known = (most : ℕ) → most ≤ 65535 → IsKnown known most

-- Of a quarter of a budget, as much is gone as one question may look at, or all.
abbrev pub IsQuarterUsed : Budget → Budget → Type 0
IsQuarterUsed before after = after.left ≤ before.left - min before.each (before.left / 4)

-- After the first answer each number is known, or the quarter of the budget is used up.
abbrev pub IsHalvedFirst : KnownChanges → KnownChanges → Budget → Budget → Type 0
IsHalvedFirst old new before after = old.is_halved ≡ false → AreAllKnown new ⊎ IsQuarterUsed before after
