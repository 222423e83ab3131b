-- All tests are mentioned in both, or in neither.
use Rattle.std.proofs.Common.{arith}
use Rattle.ifs_compare.proofs.Masks.{masks_same}
use Rattle.ifs_compare.proofs.parts.same_active.Goals as goal

pub returns-clause-same : goal.returns-clause-same
returns-clause-same c = masks_same c.args.old.now c.args.new.now c.args.scope.tests (λ t lt. c.loop-index.invariant t (omega (arith, lt, c.loop-index-test.false)))
