use Rattle.std.proofs.Common.{◌<◌, ◌++◌, List, length, get_or, ap, sym, ◌∙◌, arith}
use Rattle.ifs_base.specs.declared.op.LinkState.TheVariants.{Unknown}
use Rattle.ifs_core.specs.declared.carried.NamedLink.{NamedLink}
use Rattle.ifs_core.specs.Carrying.{known_link}
use Rattle.ifs_core.proofs.KnownLinks.{known_links-more}
use Rattle.ifs_core.proofs.carried.known_links.Goals as goal

pub loop-interface-preserved : goal.loop-interface-preserved
loop-interface-preserved c =
    let links = c.args.links.now in
    let interface = c.loop-interface.interface in
    let name = c.interface.result.now in
    let inside : interface < length links = omega (arith, c.loop-interface-test.true, c.interfaces-interface-end.ensures, c.requires) in
    c.in_ok-add_known.ensures ∙ ap (λ (known : List NamedLink). known ++ known_link name (get_or links interface Unknown)) c.loop-interface.invariant
    ∙ sym (known_links-more c.args.image.now.interfaces links interface name c.interface.ensures inside)
