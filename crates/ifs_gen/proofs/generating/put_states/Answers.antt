-- One more state.
use Rattle.std.proofs.Common.{◌≡◌, length, Some, rules}
use Rattle.std.specs.Prelude.{slice_get}
use Rattle.ifs_gen.specs.Sharing.{shared_coder}
use Rattle.ifs_gen.proofs.Copying.{state_next, routines_next, at_index}
use Rattle.ifs_gen.proofs.generating.put_states.Goals as goal

pub loop-index-preserved : goal.loop-index-preserved
loop-index-preserved c =
    let named : slice_get c.args.names.now c.loop-index.index ≡ Some c.in-Some.name.now = search rules in
    let at : slice_get c.args.parts.now c.loop-index.index ≡ Some c.index-parts-index.result = at_index c.args.parts.now c.loop-index.index _ c.index-parts-index.result (search rules) c.index-parts-index.is in
    record {
      states = state_next (length c.args.shared.now) c.args.count c.args.names.now c.args.parts.now c.loop-index.states.items c.push.new.self.items _ c.loop-index.index c.in-Some.name.now c.index-parts-index.result c.loop-index.invariant.states named at (search rules);
      routines = routines_next (shared_coder c.args.shared.now) c.args.count c.args.parts.now c.args.routines.now.items c.loop-index.routines.items c.put_routines.new.routines.items c.loop-index.index c.index-parts-index.result c.loop-index.invariant.routines at (search rules);
    }
