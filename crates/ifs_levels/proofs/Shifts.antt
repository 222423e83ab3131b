-- What commands make of ranges of levels.
use Rattle.std.proofs.Common.{◌≡◌, ℕ, Bool, true, false, ◌&&◌, List, [], ◌∷◌, Option, Some, None, refl, sym, ap, ◌∙◌, subst, arith, pos, negsuc}
use Rattle.std.specs.Prelude.{ℤ, ◌+ℤ◌, int_le, ◌≤ℤ◌, T}
use Rattle.std.proofs.lemmas.Bool.{false≢true}
use Rattle.std.proofs.lemmas.Int.{ints}
use Rattle.ifs_base.specs.declared.ids.CommandId.{CommandId}
use Rattle.ifs_levels.specs.declared.metering.Change.{Change}
use Rattle.ifs_levels.specs.declared.metering.Change.TheVariants.{Keeps, Adds, Sets}
use Rattle.ifs_levels.specs.declared.ranges.LevelRange.{LevelRange}
use Rattle.ifs_levels.specs.Metering.{Meter, changed, level_by}
use Rattle.ifs_levels.specs.Ranges.{is_from, is_up_to, is_within, end_changed, range_changed, range_by}
use Rattle.ifs_levels.specs.Levels.{stays_by}
use Rattle.ifs_levels.specs.inner.Ranges.{StaysIn}

from_T : (b : Bool) → T b → b ≡ true
from_T true h = refl
from_T false h = absurd h

in_order : (a b : ℤ) → int_le a b ≡ true → a ≤ℤ b
in_order a b e = omega (arith, ints, e)

ordered : (a b : ℤ) → a ≤ℤ b → int_le a b ≡ true
ordered a b h = from_T (int_le a b) h.le

shifted : (a b n : ℤ) → int_le a b ≡ true → int_le (a +ℤ n) (b +ℤ n) ≡ true
shifted a b n e = let h = in_order a b e in ordered (a +ℤ n) (b +ℤ n) (omega (arith, ints, h))

same : (a : ℤ) → int_le a a ≡ true
same a = ordered a a (omega (arith, ints))

-- An end of a range, and a level on its side of it.
from_changed : (change : Change) (end : Option ℤ) (level : ℤ) → is_from end level ≡ true → is_from (end_changed change end) (changed change level) ≡ true
from_changed Keeps end level h = h
from_changed (Adds number) None level h = refl
from_changed (Adds number) (Some least) level h = shifted least level number h
from_changed (Sets value) end level h = same value

up_to_changed : (change : Change) (end : Option ℤ) (level : ℤ) → is_up_to end level ≡ true → is_up_to (end_changed change end) (changed change level) ≡ true
up_to_changed Keeps end level h = h
up_to_changed (Adds number) None level h = refl
up_to_changed (Adds number) (Some greatest) level h = shifted level greatest number h
up_to_changed (Sets value) end level h = same value

and_first : (a b : Bool) → (a && b) ≡ true → a ≡ true
and_first true b e = refl
and_first false b e = e

and_second : (a b : Bool) → (a && b) ≡ true → b ≡ true
and_second true b e = e
and_second false b e = absurd (false≢true e)

and_both : (a b : Bool) → a ≡ true → b ≡ true → (a && b) ≡ true
and_both true b e f = f
and_both false b e f = e

within_changed : (change : Change) (range : LevelRange) (level : ℤ) → is_within range level ≡ true → is_within (range_changed change range) (changed change level) ≡ true
within_changed change range level h =
    and_both (is_from (end_changed change range.least) (changed change level)) (is_up_to (end_changed change range.greatest) (changed change level))
    (from_changed change range.least level (and_first (is_from range.least level) (is_up_to range.greatest level) h))
    (up_to_changed change range.greatest level (and_second (is_from range.least level) (is_up_to range.greatest level) h))

-- A level in a range, and what commands make of both.
pub within_by : (meter : Meter) (range : LevelRange) (level : ℤ) (commands : List CommandId) → is_within range level ≡ true → is_within (range_by meter range commands) (level_by meter level commands) ≡ true
within_by meter range level [] h = h
within_by meter range level (x ∷ xs) h = within_by meter (range_changed (meter x) range) (changed (meter x) level) xs (within_changed (meter x) range level h)

-- What stays in a range does so from each level.
pub each_stays : (meter : Meter) (range levels : LevelRange) (commands : List CommandId) → StaysIn meter range levels commands → (level : ℤ) → is_within levels level ≡ true
    → stays_by meter (is_within range) level commands ≡ true
each_stays meter range levels [] h level is = h level is
each_stays meter range levels (x ∷ xs) h level is =
    and_both (is_within range level) (stays_by meter (is_within range) (changed (meter x) level) xs) (h.0 level is)
    (each_stays meter range (range_changed (meter x) levels) xs h.1 (changed (meter x) level) (within_changed (meter x) levels level is))

pub only_has : (range : LevelRange) (level : ℤ) → range.least ≡ Some level → range.greatest ≡ Some level → is_within range level ≡ true
only_has range level low high =
    and_both (is_from range.least level) (is_up_to range.greatest level) (ap (λ e. is_from e level) low ∙ same level) (ap (λ e. is_up_to e level) high ∙ same level)
