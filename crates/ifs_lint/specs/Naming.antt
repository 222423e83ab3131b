-- Which places and states findings are on.
use Rattle.std.specs.Prelude.{ℕ, ◌+◌, if◌then◌else◌, List, [], ◌∷◌, ◌++◌, Option, Some, map}
use Rattle.ifs_report.specs.declared.reports.Severity.{Severity}
use Rattle.ifs_solver.specs.declared.answers.Answer.{Answer}
use Rattle.ifs_solver.specs.declared.searching.Extent.{Extent}
use Rattle.ifs_solver.specs.declared.touring.StateAnswer.{StateAnswer}
use Rattle.ifs_lint.specs.declared.finding.Finding.{Finding}
use Rattle.ifs_lint.specs.declared.wording.StateKind.{StateKind}
use Rattle.ifs_lint.specs.declared.wording.StateKind.TheVariants.{NeverEntered, NeverLeft}
use Rattle.ifs_lint.specs.Kinds.{is_nowhere, kind_of, kinds_of_place, state_severity, state_word}

-- A kind, and the number of a place.
pub record OnPlace : Type 0 where
  pub kind : List ℕ
  pub place : Option ℕ

-- A kind, how grave it is, and the number of a state.
pub record OnState : Type 0 where
  pub kind : List ℕ
  pub severity : Severity
  pub state : Option ℕ

-- What a finding on a place names.
abbrev pub on_place : Finding → OnPlace
on_place finding = record { kind = kind_of finding; place = finding.number }

-- What some findings on places name, in order.
abbrev pub on_places : List Finding → List OnPlace
on_places findings = map on_place findings

-- What a finding on a state names.
abbrev pub on_state : Finding → OnState
on_state finding = record { kind = kind_of finding; severity = finding.report.severity; state = finding.number }

-- What some findings on states name, in order.
abbrev pub on_states : List Finding → List OnState
on_states findings = map on_state findings

-- What is made of values and their numbers, from one on.
abbrev pub numbered : {X Y : Type 0} → (ℕ → X → List Y) → ℕ → List X → List Y
numbered made first [] = []
numbered made first (value ∷ values) = made first value ++ numbered made (first + 1) values

-- What a finding of this kind on a place names.
abbrev pub place_named : ℕ → List ℕ → OnPlace
place_named place kind = record { kind = kind; place = Some place }

-- What the answer for a place names: that place, if the answer is a defect.
abbrev pub places_named : ℕ → Answer → List OnPlace
places_named place answer = map (place_named place) (kinds_of_place answer)

-- What a finding of this kind on a state names.
abbrev pub state_named : ℕ → StateKind → OnState
state_named state kind = record { kind = state_word kind; severity = state_severity kind; state = Some state }

-- What one answer for a state names: that state, if no facts do what was asked.
abbrev pub states_named_at : StateKind → ℕ → Extent → List OnState
states_named_at kind state extent = if is_nowhere extent then state_named state kind ∷ [] else []

-- What both answers for a state name: that it is never entered, and then that it is never left.
abbrev pub states_named : ℕ → StateAnswer → List OnState
states_named state answer = states_named_at NeverEntered state answer.entered ++ states_named_at NeverLeft state answer.left
