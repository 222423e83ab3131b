use Rattle.std.proofs.Common.{◌<◌, ◌≤◌, length, arith, map}
use Rattle.std.proofs.lemmas.List.{length-map}
use Rattle.ifs_host.specs.Children.{Program}
use Rattle.ifs_host.proofs.Reaping.{none_reaped, one_more_reaped, some_left, all_looked_at}
use Rattle.ifs_host.proofs.children.reap.Goals as goal

pub loop-looked-init : goal.loop-looked-init
loop-looked-init g c = record { reaped = none_reaped _ _; capacity = omega arith; count = omega arith }

pub look_at_first-requires-clause-some : goal.look_at_first-requires-clause-some
look_at_first-requires-clause-some g c =
    let under : c.loop-looked._looked < length (map {B = Program} (λ it. (it.start, g.Q.Runner.number it.child)) c.args.late.now.items) =
    omega (arith, c.loop-looked-test.true, c.len-looked-end.ensures, c.args.late.now.ok.0, length-map {B = Program} c.args.late.now.items (λ it. (it.start, g.Q.Runner.number it.child))) in
    let some : 0 < length (map {B = Program} (λ it. (it.start, g.Q.Runner.number it.child)) c.loop-looked.late.items) =
    some_left _ _ _ _ _ c.loop-looked.invariant.reaped under in
    omega (arith, some, length-map {B = Program} c.loop-looked.late.items (λ it. (it.start, g.Q.Runner.number it.child)))

pub loop-looked-preserved : goal.loop-looked-preserved
loop-looked-preserved g c =
    let under : c.loop-looked._looked < length (map {B = Program} (λ it. (it.start, g.Q.Runner.number it.child)) c.args.late.now.items) =
    omega (arith, c.loop-looked-test.true, c.len-looked-end.ensures, c.args.late.now.ok.0, length-map {B = Program} c.args.late.now.items (λ it. (it.start, g.Q.Runner.number it.child))) in
    record {
      reaped = one_more_reaped _ _ _ _ _ _ _ c.loop-looked.invariant.reaped under c.look_at_first.ensures.looks;
      capacity = omega (arith, c.loop-looked.invariant.capacity, c.look_at_first.ensures.capacity);
      count = omega (arith, c.loop-looked.invariant.count, c.look_at_first.ensures.count);
    }

pub returns-clause-reaped : goal.returns-clause-reaped
returns-clause-reaped g c =
    let over : length (map {B = Program} (λ it. (it.start, g.Q.Runner.number it.child)) c.args.late.now.items) ≤ c.loop-looked._looked =
    omega (arith, c.loop-looked-test.false, c.len-looked-end.ensures, c.args.late.now.ok.0, length-map {B = Program} c.args.late.now.items (λ it. (it.start, g.Q.Runner.number it.child))) in
    all_looked_at _ _ _ _ _ c.loop-looked.invariant.reaped over
