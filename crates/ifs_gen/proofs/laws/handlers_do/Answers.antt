use Rattle.ifs_gen.proofs.laws.handlers_do.Goals as goal
use Rattle.ifs_gen.proofs.Handlers as handlers

pub returns : goal.returns
returns c = handlers.handlers_do
