-- What the rest of the statements makes of the visitor is what all make of it.
use Rattle.std.proofs.Common.{◌≡◌, drop}
use Rattle.ifs_parse.specs.Views.{block_of}
use Rattle.ifs_policy.specs.Visits.{after_block}
use Rattle.ifs_policy.proofs.visiting.+visit_block.Given as goal

abbrev pub invariant-visit_block-loop-statement : goal.invariant-visit_block-loop-statement
invariant-visit_block-loop-statement g l =
    after_block g.V.SingleVisitor.after l.visitor (block_of (drop l.statement-index l.statement-items)) ≡ after_block g.V.SingleVisitor.after l.initial.visitor (block_of l.statement-items)
