-- The programs that were looked at follow the others, and none has come.
use Rattle.std.proofs.Common.{◌≤◌, length, map}
use Rattle.std.specs.Vec.{vec_capacity}
use Rattle.ifs_host.specs.Children.{Program}
use Rattle.ifs_host.specs.inner.Looking.{HasReaped}
use Rattle.ifs_host.proofs.children.reap.Given as goal

abbrev pub invariant-loop-looked : goal.invariant-loop-looked
invariant-loop-looked g l = record {
  reaped : HasReaped l._looked (map {B = Program} (λ it. (it.start, g.Q.Runner.number it.child)) l.fn.late.items) (map {B = Program} (λ it. (it.start, g.Q.Runner.number it.child)) l.late.items)
      (g.Q.Runner.told l.fn.runner) (g.Q.Runner.told l.runner);
  capacity : vec_capacity l.fn.late ≤ vec_capacity l.late;
  count : length l.late.items ≤ length l.fn.late.items;
}
