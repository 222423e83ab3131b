-- The states before this one.
use Rattle.ifs_claims.specs.inner.Changing.{AreEntriesQuiet}
use Rattle.ifs_claims.proofs.beginning.Leaving.ask_entries.Given as goal

abbrev pub invariant-loop-index : goal.invariant-loop-index
invariant-loop-index l = AreEntriesQuiet l.self.reachable.now l.self.most l.self.state l.index l.extent
