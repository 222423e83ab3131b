-- None of the programs before these is of the test.
use Rattle.std.proofs.Common.{◌≡◌, map, length}
use Rattle.ifs_host.specs.Children.{Program, runs_for}
use Rattle.ifs_host.proofs.children.is_among.Given as goal

abbrev pub invariant-loop-left : goal.invariant-loop-left
invariant-loop-left g l =
    runs_for l.test (map {B = Program} (λ it. (it.start, g.Q.Runner.number it.child)) l.left)
    ≡ runs_for l.fn.test (map {B = Program} (λ it. (it.start, g.Q.Runner.number it.child)) l.fn.running)

abbrev pub decreases-loop-left : goal.decreases-loop-left
decreases-loop-left g l = length l.left
