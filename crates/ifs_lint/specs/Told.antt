-- What is said of a policy: the defects that right answers name, and no others.
use Rattle.std.specs.Prelude.{ℕ, ◌≡◌, ◌⊎◌, true, List, [], codes, count_by, length}
use Rattle.std.specs.List.{All}
use Rattle.ifs_policy.specs.declared.policy.PolicyParts.{PolicyParts}
use Rattle.ifs_solver.specs.declared.answers.Answer.{Answer}
use Rattle.ifs_solver.specs.declared.touring.StateAnswer.{StateAnswer}
use Rattle.ifs_solver.specs.Places.{places_of, AreAnswers}
use Rattle.ifs_solver.specs.FactSets.{scope_of}
use Rattle.ifs_solver.specs.Situations.{AreStateAnswers}
use Rattle.memchr.specs.Find.{OccursAt}
use Rattle.ifs_claims.specs.Changes.{RestsWithin}
use Rattle.ifs_lint.specs.declared.finding.Finding.{Finding}
use Rattle.ifs_lint.specs.declared.finding.Said.{Said}
use Rattle.ifs_lint.specs.declared.linting.Linted.{Linted}
use Rattle.ifs_lint.specs.Clean.{is_defect}
use Rattle.ifs_lint.specs.Rounds.{IsRound}
use Rattle.ifs_lint.specs.Kinds.{kind_of, is_open, is_open_state}
use Rattle.ifs_lint.specs.Naming.{on_places, on_states, numbered, places_named, states_named}

-- The findings on places are those that some answers name, in order, and as many as these are not decided.
pub record SaysPlaces (answers : List Answer) (said : Said) : Type 0 where
  pub on : on_places said.findings.items ≡ numbered places_named 0 answers
  pub undecided : said.undecided ≡ count_by is_open answers

-- The same of states.
pub record SaysStates (answers : List StateAnswer) (said : Said) : Type 0 where
  pub on : on_states said.findings.items ≡ numbered states_named 0 answers
  pub undecided : said.undecided ≡ count_by is_open_state answers

-- The same of both.
pub record SaysAll (answers : List Answer) (state_answers : List StateAnswer) (linted : Linted) : Type 0 where
  pub places : SaysPlaces answers linted.places
  pub states : SaysStates state_answers linted.states

-- The findings are those that right answers for all places and all states name.
pub record Tells (policy : PolicyParts) (linted : Linted) : Type 0 where
  pub answers : List Answer
  pub right : AreAnswers (scope_of policy) (places_of policy) answers
  pub state_answers : List StateAnswer
  pub right_states : AreStateAnswers policy state_answers
  pub says : SaysAll answers state_answers linted

-- A finding is on a round that the policy goes.
pub record TellsRound (policy : PolicyParts) (finding : Finding) : Type 0 where
  pub kind : kind_of finding ≡ codes "round"
  pub states : IsRound policy finding.states.items

-- A finding is on a comment, and on no round.
pub record IsOnComment (finding : Finding) : Type 0 where
  pub kind : kind_of finding ≡ codes "comment"
  pub states : finding.states.items ≡ []

-- A finding is a defect, and one of both.
pub record IsOnRounds (policy : PolicyParts) (finding : Finding) : Type 0 where
  pub defect : is_defect finding ≡ true
  pub on : TellsRound policy finding ⊎ IsOnComment finding

-- Each of some findings is.
abbrev pub AreOnRounds : PolicyParts → List Finding → Type 0
AreOnRounds policy = All (IsOnRounds policy)

-- Each round in what is said of rounds is one that the policy goes.
abbrev pub TellsRounds : PolicyParts → Said → Type 0
TellsRounds policy said = AreOnRounds policy said.findings.items

-- A text does not have the words of a comment that leaves out a round.
abbrev pub MeansNone : List ℕ → Type 0
MeansNone text = (k : ℕ) → OccursAt text (codes "may flap") k → ⊥

-- If nothing is said of rounds and all of them are decided, the state never changes more often than there are states while no fact does: from wherever steps lead to, in every world. A round would go on for ever.
abbrev pub IsQuietOf : List ℕ → PolicyParts → Said → Type 0
IsQuietOf text policy said = MeansNone text → said.findings.items ≡ [] → said.undecided ≡ 0 → RestsWithin policy (length policy.tables.states)
