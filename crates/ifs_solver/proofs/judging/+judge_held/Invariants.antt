-- What the rest of the statements makes of the verdict is what all make of the first one.
use Rattle.std.proofs.Common.{◌≡◌, drop}
use Rattle.ifs_parse.specs.Views.{block_of}
use Rattle.ifs_solver.specs.FactSets.{fact_set_of}
use Rattle.ifs_solver.specs.inner.Judging.{judged_held}
use Rattle.ifs_solver.proofs.judging.+judge_held.Given as goal

abbrev pub invariant-judge_held-loop-statement : goal.invariant-judge_held-loop-statement
invariant-judge_held-loop-statement l =
    judged_held (fact_set_of l.set) l.verdict (block_of (drop l.statement-index l.statement-items)) ≡ judged_held (fact_set_of l.set) l.initial.verdict (block_of l.statement-items)
