use Rattle.std.proofs.Common.{◌≡◌, drop}
use Rattle.ifs_core.specs.Carrying.{link_named}
use Rattle.ifs_core.proofs.carried.link_named.Given as goal

abbrev pub invariant-loop-known : goal.invariant-loop-known
invariant-loop-known l = link_named l.links l.name ≡ link_named (drop l.known-index l.links) l.name
