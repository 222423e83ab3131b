use Rattle.std.proofs.Common.{◌≡◌, map, take}
use Rattle.ifs_base.specs.declared.op.LinkState.TheVariants.{Unknown}
use Rattle.ifs_core.proofs.event.unknown_links.Given as goal

abbrev pub invariant-loop-interface : goal.invariant-loop-interface
invariant-loop-interface l = l.links.items ≡ map (λ _. Unknown) (take l._interface l.image.interfaces)
