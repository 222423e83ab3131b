-- The kind of a finding, as a program reads it.
use Rattle.std.specs.Prelude.{ℕ, Bool, true, false, ◌||◌, List, Option, Some, None, codes, option_to_list}
use Rattle.ifs_report.specs.declared.reports.Severity.{Severity}
use Rattle.ifs_report.specs.declared.reports.Severity.TheVariants.{Warning, Note}
use Rattle.ifs_solver.specs.declared.answers.Answer.{Answer}
use Rattle.ifs_solver.specs.declared.answers.Answer.TheVariants as answer
use Rattle.ifs_solver.specs.declared.searching.Extent.{Extent}
use Rattle.ifs_solver.specs.declared.searching.Extent.TheVariants as extent
use Rattle.ifs_solver.specs.declared.touring.StateAnswer.{StateAnswer}
use Rattle.ifs_lint.specs.declared.finding.Finding.{Finding}
use Rattle.ifs_lint.specs.declared.wording.StateKind.{StateKind}
use Rattle.ifs_lint.specs.declared.wording.StateKind.TheVariants.{NeverEntered, NeverLeft}

-- The word of an answer that names a defect.
abbrev pub answer_word : Answer → Option (List ℕ)
answer_word answer.Never = Some (codes "never")
answer_word answer.Always = Some (codes "always")
answer_word answer.Unreached = Some (codes "unreached")
answer_word answer.Overruled = Some (codes "overruled")
answer_word answer.Skipped = None
answer_word answer.Used = None
answer_word answer.Undecided = None

-- The kinds of the findings on a place: one if its answer names a defect.
abbrev pub kinds_of_place : Answer → List (List ℕ)
kinds_of_place answer = option_to_list (answer_word answer)

-- The word of what is said of a state.
abbrev pub state_word : StateKind → List ℕ
state_word NeverEntered = codes "never-entered"
state_word NeverLeft = codes "never-left"

-- No facts do.
abbrev pub is_nowhere : Extent → Bool
is_nowhere extent.Nowhere = true
is_nowhere extent.Somewhere = false
is_nowhere extent.Undecided = false

-- How grave that is.
abbrev pub state_severity : StateKind → Severity
state_severity NeverEntered = Warning
state_severity NeverLeft = Note

-- The kind of a finding.
abbrev pub kind_of : Finding → List ℕ
kind_of finding = finding.report.code.now

-- An answer for a place is not decided.
abbrev pub is_open : Answer → Bool
is_open answer.Undecided = true
is_open answer.Never = false
is_open answer.Always = false
is_open answer.Unreached = false
is_open answer.Overruled = false
is_open answer.Skipped = false
is_open answer.Used = false

-- An answer for a state is not decided.
abbrev pub is_open_extent : Extent → Bool
is_open_extent extent.Undecided = true
is_open_extent extent.Somewhere = false
is_open_extent extent.Nowhere = false

-- One of the two answers for a state is not decided.
abbrev pub is_open_state : StateAnswer → Bool
is_open_state answer = is_open_extent answer.entered || is_open_extent answer.left
