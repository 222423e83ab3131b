use Rattle.ifs_gen.proofs.laws.one_limit.Goals as goal
use Rattle.ifs_gen.proofs.Refusing as refusing

pub returns : goal.returns
returns c = refusing.one_limit
