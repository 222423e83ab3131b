use Rattle.ifs_gen.proofs.laws.budgets_are_least.Goals as goal
use Rattle.ifs_gen.proofs.Least as least

pub returns : goal.returns
returns c = least.budgets_are_least c.instructions_are_read_back.ensures c.one_typing.ensures
