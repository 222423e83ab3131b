use Rattle.ifs_policy.proofs.AtTokens.{refused_at}
use Rattle.ifs_policy.proofs.laws.refused_at_a_token.Goals as goal

pub returns : goal.returns
returns c = refused_at
