-- The commands so far.
use Rattle.std.proofs.Common.{◌≢◌, [], length}
use Rattle.ifs_claim_parse.specs.inner.Left.{BeginWithCommands}
use Rattle.ifs_claim_parse.proofs.next.read_commands.Given as goal

abbrev pub invariant-names : goal.invariant-names
invariant-names l = record {
  named : BeginWithCommands l.line.tables.now l.tokens l.commands.items l.left;
  some : l.commands.items ≢ [];
}

abbrev pub decreases-names : goal.decreases-names
decreases-names l = length l.left
