use Rattle.ifs_compare.proofs.Runs.{alike_run_the_same}
use Rattle.ifs_compare.proofs.laws.alike_run_the_same.Goals as goal

pub returns : goal.returns
returns c = alike_run_the_same
