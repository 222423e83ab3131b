-- The states of the items so far are placed.
use Rattle.std.proofs.Common.{◌≡◌, ◌++◌, drop}
use Rattle.ifs_policy.specs.Resolution.{place_states}
use Rattle.ifs_policy.proofs.placing.place_states.Given as goal

abbrev pub invariant-loop-item : goal.invariant-loop-item
invariant-loop-item l = l.placed.items ++ place_states l.tables (drop l.item-index l.items) ≡ place_states l.tables l.items
