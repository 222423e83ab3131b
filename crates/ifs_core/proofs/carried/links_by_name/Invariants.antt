use Rattle.std.proofs.Common.{◌≡◌, map, take}
use Rattle.ifs_core.specs.Carrying.{link_named}
use Rattle.ifs_core.proofs.carried.links_by_name.Given as goal

abbrev pub invariant-loop-interface : goal.invariant-loop-interface
invariant-loop-interface l = l.links.items ≡ map (link_named l.known) (take l.interface l.image.interfaces)
