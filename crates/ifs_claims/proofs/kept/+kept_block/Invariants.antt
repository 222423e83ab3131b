-- The statements so far.
use Rattle.std.proofs.Common.{◌≡◌, map, take}
use Rattle.ifs_claims.specs.inner.Kept.{kept_statement}
use Rattle.ifs_claims.proofs.kept.+kept_block.Given as goal

abbrev pub invariant-kept_block-loop-statement : goal.invariant-kept_block-loop-statement
invariant-kept_block-loop-statement l = l.made.items ≡ map (kept_statement l.at.always.now) (take l.statement-index l.statement-items)
