-- One name after the other.
use Rattle.std.proofs.Common.{sym, ap, ◌∙◌}
use Rattle.ifs_compare.specs.Renumbering.{part_named, renumbered_if_any}
use Rattle.ifs_compare.proofs.Listed.{map_next}
use Rattle.ifs_compare.proofs.renumbering.renumber_states.Goals as goal

pub loop-index-preserved : goal.loop-index-preserved
loop-index-preserved c =
    let from = c.args.numbering.from.now in
    let to = c.args.numbering.to.now in
    map_next (part_named c.args.policy.now from to) to.states c.loop-index.index c.in-Some.name.now c.in_ok-renumber_if_any-in-Some.field-0 c.loop-index.made.items c.push.new.self.items (sym c.in-Some.ensures.value)
    (c.in_ok-renumber_if_any-in-Some.ensures ∙ ap (renumbered_if_any from to) c.part_named-part.ensures) c.loop-index.invariant c.in_ok-push-in-Some.ensures.items
