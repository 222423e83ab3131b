-- The set so far and that of the rest make the whole set.
use Rattle.std.proofs.Common.{◌≡◌, ◌+◌, ◌<◌, length, All}
use Rattle.ifs_gen.specs.PlainSizes.{mask_of}
use Rattle.ifs_gen.proofs.generating.mask_of.Given as goal

abbrev pub invariant-loop-left : goal.invariant-loop-left
invariant-loop-left l = record {
  set : l.mask + mask_of l.left ≡ mask_of l.tests;
  known : All (λ test. test.0 < 64) l.left;
}

abbrev pub decreases-loop-left : goal.decreases-loop-left
decreases-loop-left l = length l.left
