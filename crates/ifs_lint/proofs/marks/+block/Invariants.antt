-- The marks so far and those of the statements that are left make those of the block.
use Rattle.std.proofs.Common.{◌≡◌, ◌++◌, drop}
use Rattle.std.specs.List.{flat_map}
use Rattle.ifs_lint.specs.inner.Marking.{kinds_in, statement_kinds}
use Rattle.ifs_lint.proofs.marks.+block.Given as goal

abbrev pub invariant-put_block-loop-statement : goal.invariant-put_block-loop-statement
invariant-put_block-loop-statement l = kinds_in l.marks.items ++ flat_map statement_kinds (drop l.statement-index l.statement-items) ≡ kinds_in l.initial.marks.items ++ flat_map statement_kinds l.statement-items
