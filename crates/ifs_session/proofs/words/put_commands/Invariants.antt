use Rattle.std.proofs.Common.{◌≡◌, ◌++◌, drop, codes, decimal, map}
use Rattle.std.specs.List.{flat_map}
use Rattle.std.specs.Io.KnownBytes.{append_known}
use Rattle.ifs_session.proofs.words.put_commands.Given as goal

abbrev pub invariant-loop-command : goal.invariant-loop-command
invariant-loop-command g l = record {
  told : append_known (g.W.ByteOut.written l.out) (flat_map (λ other. codes "," ++ other) (map (λ c. decimal c.0) (drop l.command-index l.others))) ≡ append_known (g.W.ByteOut.written l.initial.out) (flat_map (λ other. codes "," ++ other) (map (λ c. decimal c.0) l.others));
  kept : g.W.ByteOut.faults l.out ≡ g.W.ByteOut.faults l.initial.out;
}
