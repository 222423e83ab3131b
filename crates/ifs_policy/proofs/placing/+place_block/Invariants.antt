-- The statements so far are placed.
use Rattle.std.proofs.Common.{◌≡◌, map, take}
use Rattle.ifs_policy.specs.inner.Sized.{place_statement}
use Rattle.ifs_policy.proofs.placing.+place_block.Given as goal

abbrev pub invariant-place_block-loop-statement : goal.invariant-place_block-loop-statement
invariant-place_block-loop-statement l = l.placed.items ≡ map (place_statement l.tables) (take l.statement-index l.statement-items)
