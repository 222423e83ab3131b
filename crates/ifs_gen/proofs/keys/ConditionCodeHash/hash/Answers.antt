-- The hash takes the number of instructions, then all instructions.
use Rattle.ifs_gen.proofs.CodeKeys.{all_fed}
use Rattle.ifs_gen.proofs.keys.ConditionCodeHash.hash.Goals as goal

pub returns : goal.returns
returns g c =
    all_fed g.H.Hasher.write c.args.state.now c.write_usize.new.self c.loop-op.state c.args.self.now c.as_slice.result.now c.as_slice-op-items.result.now c.loop-op.op-index
    c.as_slice.ensures c.as_slice-op-items.ensures c.write_usize.ensures c.loop-op-test.false c.loop-op.invariant
