use Rattle.std.proofs.Common.{◌≡◌, ◌≤◌, ◌+◌, length}
use Rattle.ifs_asm.specs.inner.Words.{Bare, word_len}
use Rattle.ifs_asm.proofs.words.word_len.Given as goal

abbrev pub invariant-loop-byte : goal.invariant-loop-byte
invariant-loop-byte l = (length l.bytes + word_len Bare l.left ≡ length l.left + word_len Bare l.bytes) × (length l.left ≤ length l.bytes)

abbrev pub decreases-loop-byte : goal.decreases-loop-byte
decreases-loop-byte l = length l.left
