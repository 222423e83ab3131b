use Rattle.std.proofs.Common.{◌≡◌, drop}
use Rattle.ifs_asm.specs.Spellings.{is_silent}
use Rattle.ifs_asm.proofs.words.is_silent.Given as goal

abbrev pub invariant-loop-byte : goal.invariant-loop-byte
invariant-loop-byte l = is_silent (drop l.byte-index l.line) ≡ is_silent l.line
