-- What is said of the first states is so.
use Rattle.ifs_compare.specs.inner.Comparing.{is_undecided}
use Rattle.ifs_compare.proofs.States.{AreFirstJudged}
use Rattle.ifs_compare.proofs.parts.judge_states.Given as goal

abbrev pub invariant-loop-index : goal.invariant-loop-index
invariant-loop-index l = AreFirstJudged l.scope l.sides (is_undecided l.always) l.fn.effort l.effort l.alike l.answers.items l.index
