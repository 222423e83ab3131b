use Rattle.ifs_gen.proofs.laws.block_runs.Goals as goal
use Rattle.ifs_gen.proofs.Simulation as simulation

pub returns : goal.returns
returns c = simulation.blocks_run
