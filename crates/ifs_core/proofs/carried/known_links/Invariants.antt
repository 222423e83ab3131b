use Rattle.std.proofs.Common.{◌≡◌, take}
use Rattle.ifs_core.specs.Carrying.{known_links}
use Rattle.ifs_core.proofs.carried.known_links.Given as goal

abbrev pub invariant-loop-interface : goal.invariant-loop-interface
invariant-loop-interface l = l.known.items ≡ known_links (take l.interface l.image.interfaces) (take l.interface l.links)
