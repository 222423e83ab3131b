-- What is said of policies over the same tables, and why something is left.
use Rattle.std.specs.Prelude.{◌≡◌, ◌≢◌, ◌<◌, ◌⊎◌, Bool, true, false, List, length}
use Rattle.std.specs.Bool.{OnTrue, OnFalse}
use Rattle.ifs_gen.specs.Trees.{Policy}
use Rattle.ifs_gen.specs.PlainSizes.{room_of}
use Rattle.ifs_solver.specs.declared.fact_sets.Scope.{Scope}
use Rattle.ifs_solver.specs.FactSets.{scope_of}
use Rattle.ifs_compare.specs.declared.answers.Compared.{Compared}
use Rattle.ifs_compare.specs.declared.answers.Difference.{Difference}
use Rattle.ifs_compare.specs.declared.effort.Effort.{Effort}
use Rattle.ifs_compare.specs.declared.renumbering.Renumbered.{Renumbered}
use Rattle.ifs_compare.specs.Alike.{is_same}
use Rattle.ifs_compare.specs.Spent.{IsUsedUp}
use Rattle.ifs_compare.specs.Renumbering.{HaveSameNames}
use Rattle.ifs_compare.specs.Differing.{Blocks, blocks_of, blocks_as, AreApart, HandlersDiffer, MomentsDiffer}
use Rattle.ifs_compare.specs.inner.Reporting.{IsMore}

-- The blocks of a policy with other numbers, as they are made.
abbrev pub blocks_made : Renumbered → Blocks
blocks_made made = record { initial = made.initial; always = made.always; states = made.states }

-- A difference is reported only of blocks that differ. A question is left only if the situations are used up, or handlers differ. Where blocks are not known to be alike, one of these is so.
pub record AreTold (scope : Scope) (old new : Blocks) (before after : Effort) (alike : Bool) (told_before told_after : Compared) : Type 0 where
  pub differences : IsMore (AreApart scope old new ⊎ MomentsDiffer scope old new) told_before.differences.items told_after.differences.items
  pub undecided : IsMore (IsUsedUp before after ⊎ HandlersDiffer scope old new) told_before.undecided.items told_after.undecided.items
  pub apart : alike ≡ false → IsUsedUp before after ⊎ (AreApart scope old new ⊎ HandlersDiffer scope old new)

-- What is said of whether events may queue as many commands.
pub record IsRoomTold (old new : Policy) (same : Bool) (before after : List Difference) : Type 0 where
  pub as_many : OnTrue same ((room_of old ≡ room_of new) × (after ≡ before))
  pub apart : OnFalse same ((room_of old ≢ room_of new) × (0 < length after))

-- What is said of two policies is what was found. If they are not known to be the same, and nothing was found, a question is left.
pub record IsConcluded (same : Bool) (found compared : Compared) : Type 0 where
  pub known : is_same compared ≡ true → same ≡ true
  pub differences : compared.differences.items ≡ found.differences.items
  pub undecided : IsMore ((same ≡ false) × (is_same found ≡ true)) found.undecided.items compared.undecided.items

-- What is said of two policies, with their names.
pub record AreNamedTold (old new : Policy) (before after : Effort) (alike : Bool) (told_before told_after : Compared) : Type 0 where
  pub differences : IsMore (¬ HaveSameNames old.tables new.tables ⊎ (AreApart (scope_of old) (blocks_of old) (blocks_as old new) ⊎ MomentsDiffer (scope_of old) (blocks_of old) (blocks_as old new))) told_before.differences.items told_after.differences.items
  pub named : HaveSameNames old.tables new.tables → AreTold (scope_of old) (blocks_of old) (blocks_as old new) before after alike told_before told_after
