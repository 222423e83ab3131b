-- The `init` is among what is left.
use Rattle.std.proofs.Common.{◌≡◌, length}
use Rattle.ifs_policy.specs.Resolution.{always_of, init_in}
use Rattle.ifs_lint.proofs.marks.put_always_init.Given as goal

abbrev pub invariant-items : goal.invariant-items
invariant-items l = record {
  same : init_in (always_of l.left) ≡ init_in (always_of l.items);
  kept : l.marks.items ≡ l.initial.marks.items;
}

abbrev pub decreases-items : goal.decreases-items
decreases-items l = length l.left
