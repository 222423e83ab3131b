-- Ranges of levels, and what commands make of them.
use Rattle.std.specs.Prelude.{◌≡◌, ◌&&◌, Bool, true, List, [], ◌∷◌, Option, Some, None, ℤ, ◌+ℤ◌, int_le}
use Rattle.ifs_base.specs.declared.ids.CommandId.{CommandId}
use Rattle.ifs_levels.specs.declared.metering.Change.{Change}
use Rattle.ifs_levels.specs.declared.metering.Change.TheVariants.{Keeps, Adds, Sets}
use Rattle.ifs_levels.specs.declared.ranges.LevelRange.{LevelRange}
use Rattle.ifs_levels.specs.Metering.{Meter}

-- A level is not below the least one, if there is one.
abbrev pub is_from : Option ℤ → ℤ → Bool
is_from None level = true
is_from (Some least) level = int_le least level

-- A level is not above the greatest one, if there is one.
abbrev pub is_up_to : Option ℤ → ℤ → Bool
is_up_to None level = true
is_up_to (Some greatest) level = int_le level greatest

-- A range has a level.
abbrev pub is_within : LevelRange → ℤ → Bool
is_within range level = is_from range.least level && is_up_to range.greatest level

-- A range has all levels of another one.
abbrev pub HasAllOf : LevelRange → LevelRange → Type 0
HasAllOf range other = (level : ℤ) → is_within other level ≡ true → is_within range level ≡ true

-- It is so of each level of a range.
abbrev pub OfEach : LevelRange → (ℤ → Type 0) → Type 0
OfEach range P = (level : ℤ) → is_within range level ≡ true → P level

-- What a change makes of the end of a range.
abbrev pub end_changed : Change → Option ℤ → Option ℤ
end_changed Keeps end = end
end_changed (Adds number) None = None
end_changed (Adds number) (Some level) = Some (level +ℤ number)
end_changed (Sets value) end = Some value

-- What a change makes of a range.
abbrev pub range_changed : Change → LevelRange → LevelRange
range_changed change range = record { least = end_changed change range.least; greatest = end_changed change range.greatest }

-- What commands make of a range, in order.
abbrev pub range_by : Meter → LevelRange → List CommandId → LevelRange
range_by meter range [] = range
range_by meter range (command ∷ commands) = range_by meter (range_changed (meter command) range) commands
