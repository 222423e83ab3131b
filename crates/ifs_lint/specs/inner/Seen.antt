-- Answers for states that say no more than others.
use Rattle.std.specs.Prelude.{◌≡◌, ◌⊎◌, List}
use Rattle.std.specs.List.{AllZip}
use Rattle.ifs_solver.specs.declared.searching.Extent.TheVariants.{Undecided}
use Rattle.ifs_solver.specs.declared.answers.Answer.{Answer}
use Rattle.ifs_solver.specs.declared.touring.StateAnswer.{StateAnswer}
use Rattle.ifs_lint.specs.declared.linting.Linted.{Linted}
use Rattle.ifs_lint.specs.Told.{SaysAll}

-- An answer says no more than another one: it may leave open whether the state is entered.
pub record SaysLess (answer less : StateAnswer) : Type 0 where
  pub entered : (less.entered ≡ answer.entered) ⊎ (less.entered ≡ Undecided)
  pub left : less.left ≡ answer.left

-- Each of some answers says no more than the one at its place.
abbrev pub SayLess : List StateAnswer → List StateAnswer → Type 0
SayLess = AllZip SaysLess

-- What is said is what these answers name for places, and what some that say no more than these name for states.
pub record SaysLessOfStates (answers : List Answer) (state_answers : List StateAnswer) (linted : Linted) : Type 0 where
  pub seen : List StateAnswer
  pub less : SayLess state_answers seen
  pub says : SaysAll answers seen linted
