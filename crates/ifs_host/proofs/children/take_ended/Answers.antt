use Rattle.std.proofs.Common.{List, map, subst}
use Rattle.ifs_host.specs.Children.{Program}
use Rattle.ifs_host.specs.inner.Looking.{Takes}
use Rattle.ifs_host.proofs.Reaping.{finds_none}
use Rattle.ifs_host.proofs.Waiting.{found_ends}
use Rattle.ifs_host.proofs.children.take_ended.Goals as goal

pub returns-in-Some-clause-ends : goal.returns-in-Some-clause-ends
returns-in-Some-clause-ends g c =
    found_ends c.take_found.result c.in-Some.found.index c.in-Some.found.status c.in-Some.found.value _ _ _ _ _ _
    c.in-Some.ensures.ends
    (subst (λ (programs : List Program). Takes c.in-Some.found.index c.in-Some.found.status c.take_found.result.0 programs
    (map {B = Program} (λ it. (it.start, g.Q.Runner.number it.child)) c.args.late.now.items)
    (map {B = Program} (λ it. (it.start, g.Q.Runner.number it.child)) c.take_found.new.running.items)
    (map {B = Program} (λ it. (it.start, g.Q.Runner.number it.child)) c.take_found.new.late.items))
    c.first_ended.ensures.same c.take_found.ensures.takes)
    c.take_found.ensures.value

pub returns-in-None-clause-ends : goal.returns-in-None-clause-ends
returns-in-None-clause-ends g c =
    finds_none _ _ _ _ _ _ _ c.first_ended.ensures.same c.in-None.ensures.ends c.reap.ensures.reaped
