-- Searches by halves for the greatest number of changes.
use Rattle.std.proofs.Common.{◌≡◌, ℕ, ◌-◌, ◌<◌, ◌≤◌, ◌⊎◌, inl, inr, ⊎_elim, Option, Some, None, refl, arith}
use Rattle.ifs_claims.specs.declared.known_changes.KnownChanges.{KnownChanges}
use Rattle.ifs_claims.proofs.Worlds.{within_or_past}
use Rattle.ifs_claims.specs.Known.{AreAllKnown, IsMore}
use Rattle.ifs_claims.specs.inner.Known.{IsNoneBetween, after}

-- One number is never exceeded, or each number is exceeded.
abbrev pub HasEnd : KnownChanges → Type 0
HasEnd known = ((most : ℕ) × (known.never_more ≡ Some most)) ⊎ (known.more ≡ Some 65535)

-- If no number is left in between, each is known.
pub all_known : (known : KnownChanges) → HasEnd known → IsNoneBetween known → AreAllKnown known
all_known known (inr is) none number le = inr (record { greatest = 65535; is = is; from = le })
all_known known (inl (most, is)) none number le = ⊎_elim (λ up_to. inl (record { least = most; is = is; up_to = up_to })) (λ above. inr (by known.more refl (none most is) above)) (within_or_past most number)
  where
    by : (o : Option ℕ) → known.more ≡ o → most ≤ after o → number < most → IsMore known number
    by None more_is up_to above = absurd (omega (arith, up_to, above))
    by (Some greatest) more_is up_to above = record { greatest = greatest; is = more_is; from = omega (arith, up_to, above) }

-- How many numbers are not known.
abbrev pub width_of : Option ℕ → Option ℕ → ℕ
width_of None more = 0
width_of (Some most) more = most - after more

abbrev pub width : KnownChanges → ℕ
width known = width_of known.never_more known.more
