use Rattle.std.proofs.Common.{◌≡◌, ◌≤◌, ◌+◌, length}
use Rattle.std.specs.List.{prefix_len}
use Rattle.ifs_asm.specs.Spellings.{is_plain}
use Rattle.ifs_asm.proofs.plain.far_plain.Given as goal

abbrev pub invariant-loop-block : goal.invariant-loop-block
invariant-loop-block l = (length l.bytes + prefix_len is_plain l.left ≡ length l.left + prefix_len is_plain l.bytes) × (length l.left ≤ length l.bytes)

abbrev pub decreases-loop-block : goal.decreases-loop-block
decreases-loop-block l = length l.left
