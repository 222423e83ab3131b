-- The `init` is among what is left.
use Rattle.std.proofs.Common.{◌≡◌, length}
use Rattle.ifs_policy.specs.Resolution.{init_in}
use Rattle.ifs_lint.proofs.marks.put_init.Given as goal

abbrev pub invariant-parts : goal.invariant-parts
invariant-parts l = record {
  same : init_in l.left ≡ init_in l.parts;
  kept : l.marks.items ≡ l.initial.marks.items;
}

abbrev pub decreases-parts : goal.decreases-parts
decreases-parts l = length l.left
