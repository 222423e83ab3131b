-- The hash has taken the instructions so far.
use Rattle.std.proofs.Common.{◌≡◌, fold, take}
use Rattle.std.specs.List.{flat_map}
use Rattle.ifs_gen.specs.inner.Keys.{fed_op}
use Rattle.ifs_gen.proofs.keys.ConditionCodeHash.hash.Given as goal

abbrev pub invariant-loop-op : goal.invariant-loop-op
invariant-loop-op g l = l.state ≡ fold g.H.Hasher.write l.initial.state (flat_map fed_op (take l.op-index l.op-items))
