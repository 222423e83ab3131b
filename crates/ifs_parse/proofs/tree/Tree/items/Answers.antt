use Rattle.std.proofs.Common.{subst}
use Rattle.ifs_parse.specs.Grammar.{IsSaid}
use Rattle.ifs_parse.proofs.tree.Tree.items.Goals as goal

pub returns-clause-said : goal.returns-clause-said
returns-clause-said c = subst IsSaid c.self.view_is c.self.invariant
