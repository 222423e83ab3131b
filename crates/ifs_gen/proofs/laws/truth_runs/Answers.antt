use Rattle.ifs_gen.proofs.laws.truth_runs.Goals as goal
use Rattle.ifs_gen.proofs.Simulation as simulation

pub returns : goal.returns
returns c = simulation.truth_runs
