use Rattle.std.proofs.Common.{◌≡◌, ◌≤◌, ◌+◌, length}
use Rattle.std.specs.List.{prefix_len}
use Rattle.ifs_asm.specs.inner.Words.{Inside, goes_on, word_len}
use Rattle.ifs_asm.proofs.words.behind_quotes.Given as goal

abbrev pub invariant-loop-left : goal.invariant-loop-left
invariant-loop-left l = (length l.bytes + word_len Inside l.left ≡ length l.left + word_len Inside l.bytes) × (length l.left ≤ length l.bytes) × (prefix_len goes_on l.left ≡ 0)

abbrev pub decreases-loop-left : goal.decreases-loop-left
decreases-loop-left l = length l.left
