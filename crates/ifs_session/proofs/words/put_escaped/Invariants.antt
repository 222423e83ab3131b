use Rattle.std.proofs.Common.{◌≡◌, length}
use Rattle.std.specs.List.{flat_map}
use Rattle.std.specs.Io.KnownBytes.{append_known}
use Rattle.ifs_base.specs.Words.{quoted_byte}
use Rattle.ifs_session.proofs.words.put_escaped.Given as goal

abbrev pub invariant-runs : goal.invariant-runs
invariant-runs g l = record {
  told : append_known (g.W.ByteOut.written l.out) (flat_map quoted_byte l.left) ≡ append_known (g.W.ByteOut.written l.fn.out) (flat_map quoted_byte l.fn.text);
  kept : g.W.ByteOut.faults l.out ≡ g.W.ByteOut.faults l.fn.out;
}

abbrev pub decreases-runs : goal.decreases-runs
decreases-runs g l = length l.left
