-- The states so far and their routines are appended.
use Rattle.std.proofs.Common.{◌≡◌, ◌+◌, ◌++◌, length, drop, take}
use Rattle.ifs_gen.specs.PolicyImage.{routines_of, states_from}
use Rattle.ifs_gen.specs.Sharing.{shared_coder}
use Rattle.ifs_gen.proofs.generating.put_states.Given as goal

abbrev pub invariant-loop-index : goal.invariant-loop-index
invariant-loop-index l = record {
  states : l.states.items ++ states_from (length l.shared) l.count (l.index + 1) (drop l.index l.names) (drop l.index l.parts) ≡ states_from (length l.shared) l.count 1 l.names l.parts;
  routines : l.routines.items ≡ l.initial.routines.items ++ routines_of (shared_coder l.shared) l.count (take l.index l.parts);
}
