use Rattle.std.proofs.Common.{◌++◌, ◌∷◌, [], List, Some, option_map, sym, ap, ◌∙◌}
use Rattle.ifs_base.specs.declared.op.LinkState.{LinkState}
use Rattle.ifs_core.specs.Carrying.{link_named}
use Rattle.ifs_core.proofs.Tables.{entry_more}
use Rattle.ifs_core.proofs.carried.links_by_name.Goals as goal

pub loop-interface-preserved : goal.loop-interface-preserved
loop-interface-preserved c =
    c.push.ensures.items ∙ ap (λ (links : List LinkState). links ++ c.link_named.result ∷ []) c.loop-interface.invariant
    ∙ sym (entry_more (link_named c.args.known.now) c.args.image.now.interfaces c.loop-interface.interface c.link_named.result
    (ap (option_map (link_named c.args.known.now)) c.interface.ensures ∙ ap Some (sym c.link_named.ensures)))
