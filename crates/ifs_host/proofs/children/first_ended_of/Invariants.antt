-- The programs are unchanged, and those before this one still run.
use Rattle.std.proofs.Common.{◌≡◌, map, take}
use Rattle.ifs_host.specs.Runners.{RunnerTells}
use Rattle.ifs_host.specs.Children.{Program, all_run}
use Rattle.ifs_host.proofs.children.first_ended_of.Given as goal

abbrev pub invariant-loop-index : goal.invariant-loop-index
invariant-loop-index g l = record {
  same : map {B = Program} (λ it. (it.start, g.Q.Runner.number it.child)) l.running ≡ map {B = Program} (λ it. (it.start, g.Q.Runner.number it.child)) l.fn.running;
  log : RunnerTells (all_run (take l.index (map {B = Program} (λ it. (it.start, g.Q.Runner.number it.child)) l.fn.running)))
      (g.Q.Runner.told l.fn.runner) (g.Q.Runner.told l.runner);
}
