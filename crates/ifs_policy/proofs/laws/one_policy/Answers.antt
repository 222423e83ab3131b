use Rattle.std.proofs.Common.{sym, ◌∙◌}
use Rattle.ifs_policy.proofs.laws.one_policy.Goals as goal

pub returns : goal.returns
returns c = λ items policy other r s. r.placed ∙ sym s.placed
