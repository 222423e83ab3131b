use Rattle.std.proofs.Common.{◌≡◌, ◌++◌, drop, codes, map}
use Rattle.std.specs.List.{flat_map}
use Rattle.std.specs.Io.KnownBytes.{append_known}
use Rattle.ifs_session.specs.Replies.{start_word}
use Rattle.ifs_session.proofs.replies.put_start_list.Given as goal

abbrev pub invariant-loop-start : goal.invariant-loop-start
invariant-loop-start g l = record {
  told : append_known (g.W.ByteOut.written l.out) (flat_map (λ other. codes "," ++ other) (map start_word (drop l.start-index l.others))) ≡ append_known (g.W.ByteOut.written l.initial.out) (flat_map (λ other. codes "," ++ other) (map start_word l.others));
  kept : g.W.ByteOut.faults l.out ≡ g.W.ByteOut.faults l.initial.out;
}
