-- Answers, by what was found.
use Rattle.ifs_solver.specs.declared.answers.Answer.{Answer}
use Rattle.ifs_solver.specs.declared.answers.Answer.TheVariants as answer
use Rattle.ifs_solver.specs.declared.searching.Extent.{Extent}
use Rattle.ifs_solver.specs.declared.searching.Extent.TheVariants.{Somewhere, Nowhere, Undecided}

-- Of a condition, by where it is true and where it is false.
abbrev pub condition_answer : Extent → Extent → Answer
condition_answer Nowhere Nowhere = answer.Skipped
condition_answer Nowhere Somewhere = answer.Never
condition_answer Somewhere Nowhere = answer.Always
condition_answer Somewhere Somewhere = answer.Used
condition_answer Undecided falsehood = answer.Undecided
condition_answer Nowhere Undecided = answer.Undecided
condition_answer Somewhere Undecided = answer.Undecided

-- Of a `run`, by where it is reached.
abbrev pub command_answer : Extent → Answer
command_answer Nowhere = answer.Unreached
command_answer Somewhere = answer.Used
command_answer Undecided = answer.Undecided

-- Of a `set-state`, by where it is reached, and where it is the last one.
abbrev pub wish_answer : Extent → Extent → Answer
wish_answer Nowhere last = answer.Unreached
wish_answer Somewhere Nowhere = answer.Overruled
wish_answer Somewhere Somewhere = answer.Used
wish_answer Somewhere Undecided = answer.Undecided
wish_answer Undecided Nowhere = answer.Undecided
wish_answer Undecided Somewhere = answer.Used
wish_answer Undecided Undecided = answer.Undecided
