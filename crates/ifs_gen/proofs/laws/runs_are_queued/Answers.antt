use Rattle.ifs_gen.proofs.laws.runs_are_queued.Goals as goal
use Rattle.ifs_gen.proofs.Sized as sized

pub returns : goal.returns
returns c = sized.runs_are_queued
