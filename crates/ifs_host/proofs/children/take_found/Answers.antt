use Rattle.std.proofs.Common.{◌∙◌, ◌++◌, Bool, ap, map}
use Rattle.ifs_host.specs.Children.{Program, if_stays}
use Rattle.ifs_host.proofs.Waiting.{taken}
use Rattle.ifs_host.proofs.children.take_found.Goals as goal

pub returns-clause-takes : goal.returns-clause-takes
returns-clause-takes g c =
    taken (λ it. (it.start, g.Q.Runner.number it.child)) c.args.running.now.items c.remove-it.new.self.items c.args.found.index
    c.remove-it.result c.args.found.status _ _ c.requires.inside c.remove-it.ensures.value c.remove-it.ensures.items
    (c.keep_if.ensures.items
    ∙ ap (λ (stays : Bool). map {B = Program} (λ it. (it.start, g.Q.Runner.number it.child)) c.args.late.now.items
    ++ if_stays stays (c.remove-it.result.start, g.Q.Runner.number c.remove-it.result.child))
    c.reached_limit.ensures)
