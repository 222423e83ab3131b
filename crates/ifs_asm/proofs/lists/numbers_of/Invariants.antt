use Rattle.std.proofs.Common.{◌≡◌, ◌==◌, option_map}
use Rattle.std.specs.List.{slice_split}
use Rattle.ifs_asm.specs.inner.Words.{masked}
use Rattle.ifs_asm.specs.inner.Forms.{mask_by, parts_left, masked_on, len_left}
use Rattle.ifs_asm.proofs.lists.numbers_of.Given as goal

abbrev pub invariant-loop-left : goal.invariant-loop-left
invariant-loop-left l = masked_on (mask_by l.list) (parts_left (option_map (λ rest. rest.now) l.left)) ≡ masked 0 (slice_split (λ byte. byte == 44) l.word)

abbrev pub decreases-loop-left : goal.decreases-loop-left
decreases-loop-left l = len_left (option_map (λ rest. rest.now) l.left)
