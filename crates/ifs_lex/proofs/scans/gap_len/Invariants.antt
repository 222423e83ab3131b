use Rattle.std.proofs.Common.{◌≡◌, ◌≤◌, ◌+◌, ◌-◌, length, drop}
use Rattle.ifs_lex.specs.Lexemes.{gap_len, Blanks}
use Rattle.ifs_lex.proofs.scans.gap_len.Given as goal

abbrev pub invariant-loop-part : goal.invariant-loop-part
invariant-loop-part l =
    (l.len ≤ length l.bytes) × (l.len + gap_len Blanks (drop l.len l.bytes) ≡ gap_len Blanks l.bytes)

abbrev pub decreases-loop-part : goal.decreases-loop-part
decreases-loop-part l = length l.bytes - l.len
