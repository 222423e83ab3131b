-- What is said of two policies.
use Rattle.std.specs.Prelude.{◌≡◌, ◌<◌, ◌⊎◌, true, List, length}
use Rattle.ifs_compare.specs.declared.answers.Compared.{Compared}
use Rattle.ifs_compare.specs.declared.answers.Difference.{Difference}
use Rattle.ifs_compare.specs.declared.reporting.Case.{Case}
use Rattle.ifs_compare.specs.Differing.{AreApart, HandlersDiffer}
use Rattle.ifs_compare.specs.inner.Comparing.{blocks_in, is_judged_open}
use Rattle.ifs_compare.specs.inner.Evaluating.{DoMomentsDiffer}

-- They do something else, so that a difference is reported.
abbrev pub Differ : Case → Type 0
Differ case = AreApart case.stage.scope (blocks_in case.stage.sides.old) (blocks_in case.stage.sides.new) ⊎ DoMomentsDiffer case.stage.scope case.stage.sides

-- Something is not decided: it is not judged, or handlers differ.
abbrev pub IsLeft : Case → Type 0
IsLeft case = (is_judged_open case.judged.now ≡ true) ⊎ HandlersDiffer case.stage.scope (blocks_in case.stage.sides.old) (blocks_in case.stage.sides.new)

-- If a list has members, it had some before, or something is so.
abbrev pub IsMore : Type 0 → List Difference → List Difference → Type 0
IsMore P before after = 0 < length after → (0 < length before) ⊎ P

-- What is said is so.
pub record IsTold (case : Case) (before after : Compared) : Type 0 where
  pub differences : IsMore (Differ case) before.differences.items after.differences.items
  pub undecided : IsMore (IsLeft case) before.undecided.items after.undecided.items
