-- Searches by halves for the greatest number of changes.
use Rattle.std.specs.Prelude.{ℕ, ◌≡◌, ◌≤◌, ◌<◌, ◌+◌, suc, true, Option, Some, None}
use Rattle.ifs_solver.specs.declared.searching.Budget.{Budget}
use Rattle.ifs_solver.specs.declared.searching.Extent.{Extent}
use Rattle.ifs_solver.specs.declared.searching.Extent.TheVariants.{Somewhere, Nowhere, Undecided}
use Rattle.ifs_claims.specs.Known.{IsHalvedFirst}
use Rattle.ifs_claims.specs.declared.known_changes.KnownChanges.{KnownChanges}

-- The least number that is not known to be exceeded.
abbrev pub after : Option ℕ → ℕ
after None = 0
after (Some greatest) = suc greatest

-- A number is in the middle of those that are not known.
pub record IsMiddle (known : KnownChanges) (number : ℕ) : Type 0 where
  pub most : ℕ
  pub is : known.never_more ≡ Some most
  pub some : after known.more < most
  pub low : number + number ≤ after known.more + most
  pub high : after known.more + most ≤ number + number + 1

-- There are none up to the one that is never exceeded.
abbrev pub IsNoneBetween : KnownChanges → Type 0
IsNoneBetween known = (most : ℕ) → known.never_more ≡ Some most → most ≤ after known.more

-- Of a policy with so many states, the answer for a number is kept. If it is exceeded, although there are not more states, each number is.
pub record HasLearnedMore (count most : ℕ) (old new : KnownChanges) : Type 0 where
  pub greatest : ℕ
  pub is : new.more ≡ Some greatest
  pub from : most ≤ greatest
  pub end : count ≤ most → greatest ≡ 65535
  pub same : new.never_more ≡ old.never_more

abbrev pub HasLearnedOf : ℕ → ℕ → Extent → KnownChanges → KnownChanges → Type 0
HasLearnedOf count most Nowhere old new = (new.never_more ≡ Some most) × (new.more ≡ old.more)
HasLearnedOf count most Somewhere old new = HasLearnedMore count most old new
HasLearnedOf count most Undecided old new = new ≡ old

abbrev pub HasLearned : ℕ → ℕ → Extent → KnownChanges → KnownChanges → Type 0
HasLearned count most told old new = HasLearnedOf count most told old new × (new.is_halved ≡ old.is_halved)

-- The search by halves is made once.
pub record IsHalvedOf (old new : KnownChanges) (before after : Budget) : Type 0 where
  pub once : new.is_halved ≡ true
  pub first : IsHalvedFirst old new before after
  pub again : old.is_halved ≡ true → (new ≡ old) × (after ≡ before)
