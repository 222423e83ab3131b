-- The remaining mentions decide for all.
use Rattle.std.proofs.Common.{map, drop}
use Rattle.ifs_policy.specs.inner.Entries.{Decides}
use Rattle.ifs_policy.specs.inner.Seen.{seen}
use Rattle.ifs_policy.proofs.names.Names.note_all.Given as goal

abbrev pub invariant-loop-mention : goal.invariant-loop-mention
invariant-loop-mention l = Decides l.self (map seen (drop l.mention-index l.mentions)) l.fn.self (map seen l.mentions)
