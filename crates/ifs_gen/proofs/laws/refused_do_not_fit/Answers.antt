use Rattle.ifs_gen.proofs.laws.refused_do_not_fit.Goals as goal
use Rattle.ifs_gen.proofs.Refusing as refusing

pub returns : goal.returns
returns c = refusing.does_not_fit
