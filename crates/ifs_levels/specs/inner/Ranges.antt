-- Ends of ranges, and what stays in a range.
use Rattle.std.specs.Prelude.{◌≡◌, true, List, [], ◌∷◌, Option, ℤ}
use Rattle.ifs_base.specs.declared.ids.CommandId.{CommandId}
use Rattle.ifs_levels.specs.declared.moments.Outcome.{Outcome}
use Rattle.ifs_levels.specs.declared.ranges.LevelRange.{LevelRange}
use Rattle.ifs_levels.specs.Metering.{Meter}
use Rattle.ifs_levels.specs.Ranges.{is_from, is_up_to, HasAllOf, range_changed}

-- A range with the first least level has each level that one with the second has.
abbrev pub StartsBy : Option ℤ → Option ℤ → Type 0
StartsBy least other = (level : ℤ) → is_from other level ≡ true → is_from least level ≡ true

-- The same of greatest levels.
abbrev pub EndsBy : Option ℤ → Option ℤ → Type 0
EndsBy greatest other = (level : ℤ) → is_up_to other level ≡ true → is_up_to greatest level ≡ true

-- A range has some levels, and all that some commands make of them one after the other.
abbrev pub StaysIn : Meter → LevelRange → LevelRange → List CommandId → Type 0
StaysIn meter range levels [] = HasAllOf range levels
StaysIn meter range levels (command ∷ commands) = HasAllOf range levels × StaysIn meter range (range_changed (meter command) levels) commands

-- A range has some levels, and all that an outcome makes of them on the way.
abbrev pub IsStaying : Meter → LevelRange → LevelRange → Outcome → Type 0
IsStaying meter range levels outcome = StaysIn meter range levels outcome.commands.items
