use Rattle.std.proofs.Common.{◌<◌, ◌++◌, ◌∷◌, [], List, length, sym, ap, ◌∙◌, arith}
use Rattle.ifs_base.specs.declared.op.LinkState.{LinkState}
use Rattle.ifs_base.specs.declared.op.LinkState.TheVariants.{Unknown}
use Rattle.ifs_core.proofs.Tables.{constant_more}
use Rattle.ifs_core.proofs.event.unknown_links.Goals as goal

pub loop-interface-preserved : goal.loop-interface-preserved
loop-interface-preserved c =
    let inside : c.loop-interface._interface < length c.args.image.now.interfaces = omega (arith, c.loop-interface-test.true, c.interfaces-interface-end.ensures) in
    c.push.ensures.items ∙ ap (λ (links : List LinkState). links ++ Unknown ∷ []) c.loop-interface.invariant ∙ sym (constant_more Unknown c.args.image.now.interfaces c.loop-interface._interface inside)
