-- The answers so far.
use Rattle.std.proofs.Common.{take}
use Rattle.ifs_lint.specs.inner.Seen.{SayLess}
use Rattle.ifs_lint.proofs.linting.answers_seen.Given as goal

abbrev pub invariant-loop-answer : goal.invariant-loop-answer
invariant-loop-answer l = SayLess (take l.answer-index l.answers) l.seen.items
