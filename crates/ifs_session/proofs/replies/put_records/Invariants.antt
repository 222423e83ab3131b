use Rattle.std.proofs.Common.{◌≡◌, drop}
use Rattle.std.specs.List.{flat_map}
use Rattle.std.specs.Io.KnownBytes.{append_known}
use Rattle.ifs_session.specs.Replies.{record_line}
use Rattle.ifs_session.proofs.replies.put_records.Given as goal

abbrev pub invariant-loop-index : goal.invariant-loop-index
invariant-loop-index g l = record {
  told : append_known (g.W.ByteOut.written l.out) (flat_map (record_line l.core.image) (drop l.index l.core.state.trace)) ≡ append_known (g.W.ByteOut.written l.initial.out) (flat_map (record_line l.core.image) l.core.state.trace);
  kept : g.W.ByteOut.faults l.out ≡ g.W.ByteOut.faults l.initial.out;
}
