-- The places so far and those of the statements that are left make those of the block.
use Rattle.std.proofs.Common.{◌≡◌, ◌++◌, drop}
use Rattle.std.specs.List.{flat_map}
use Rattle.ifs_lint.specs.inner.Marking.{statement_kinds}
use Rattle.ifs_lint.proofs.reasons.Walk.+block.Given as goal

abbrev pub invariant-block-loop-statement : goal.invariant-block-loop-statement
invariant-block-loop-statement l = l.passed.items ++ flat_map statement_kinds (drop l.statement-index l.statement-items) ≡ l.initial.passed.items ++ flat_map statement_kinds l.statement-items
