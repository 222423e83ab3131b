-- The remaining mentions decide for all.
use Rattle.std.proofs.Common.{map, drop}
use Rattle.ifs_policy.specs.inner.Entries.{DecidesStates}
use Rattle.ifs_policy.specs.inner.Seen.{seen}
use Rattle.ifs_policy.proofs.names.check_states.Given as goal

abbrev pub invariant-loop-mention : goal.invariant-loop-mention
invariant-loop-mention l = DecidesStates l.states (map seen (drop l.mention-index l.mentions)) (map seen l.mentions)
