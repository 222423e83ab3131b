use Rattle.std.proofs.Common.{◌≡◌, ◌+◌, ◌==◌, count_by, drop}
use Rattle.ifs_lex.proofs.cursor.newlines_of_block.Given as goal

abbrev pub invariant-loop-byte : goal.invariant-loop-byte
invariant-loop-byte l = l.count + count_by (λ b. b == 10) (drop l.byte-index l.bytes) ≡ count_by (λ b. b == 10) l.bytes
