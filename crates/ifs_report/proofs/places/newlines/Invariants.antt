use Rattle.std.proofs.Common.{◌≡◌, ◌+◌, count_by, drop}
use Rattle.ifs_report.specs.Positions.{is_newline}
use Rattle.ifs_report.proofs.places.newlines.Given as goal

abbrev pub invariant-loop-byte : goal.invariant-loop-byte
invariant-loop-byte l = l.count + count_by is_newline (drop l.byte-index l.bytes) ≡ count_by is_newline l.bytes
