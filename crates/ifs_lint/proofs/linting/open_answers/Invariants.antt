use Rattle.std.proofs.Common.{◌≡◌, ◌+◌, drop, count_by}
use Rattle.ifs_lint.specs.Kinds.{is_open}
use Rattle.ifs_lint.proofs.linting.open_answers.Given as goal

abbrev pub invariant-loop-answer : goal.invariant-loop-answer
invariant-loop-answer l = l.count + count_by is_open (drop l.answer-index l.answers) ≡ count_by is_open l.answers
