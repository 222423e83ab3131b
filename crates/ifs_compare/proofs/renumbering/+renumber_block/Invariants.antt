-- The statements so far have other numbers.
use Rattle.std.proofs.Common.{◌≡◌, map, take}
use Rattle.ifs_compare.specs.inner.Numbering.{renumbered_statement}
use Rattle.ifs_compare.proofs.renumbering.+renumber_block.Given as goal

abbrev pub invariant-renumber_block-loop-statement : goal.invariant-renumber_block-loop-statement
invariant-renumber_block-loop-statement l = l.made.items ≡ map (renumbered_statement l.numbering.from.now l.numbering.to.now) (take l.statement-index l.statement-items)
