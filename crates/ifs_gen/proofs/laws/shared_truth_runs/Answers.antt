use Rattle.ifs_gen.proofs.laws.shared_truth_runs.Goals as goal
use Rattle.ifs_gen.proofs.Called as called

pub returns : goal.returns
returns c = called.shared_truth_runs c.instructions_are_read_back.ensures
