-- There is no `init-state` in the items so far.
use Rattle.std.proofs.Common.{◌≡◌, drop}
use Rattle.ifs_policy.specs.Resolution.{initial_of}
use Rattle.ifs_policy.proofs.placing.initial_of.Given as goal

abbrev pub invariant-loop-item : goal.invariant-loop-item
invariant-loop-item l = initial_of l.tables (drop l.item-index l.items) ≡ initial_of l.tables l.items
