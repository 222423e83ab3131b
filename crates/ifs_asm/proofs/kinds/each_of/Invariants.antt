use Rattle.std.proofs.Common.{◌≡◌, ◌==◌, [], Some, option_map}
use Rattle.std.specs.List.{slice_split}
use Rattle.ifs_asm.specs.inner.Words.{kinds_from}
use Rattle.ifs_asm.specs.inner.Forms.{kinds_by, parts_left, kinds_on, len_left}
use Rattle.ifs_asm.proofs.kinds.each_of.Given as goal

abbrev pub invariant-loop-left : goal.invariant-loop-left
invariant-loop-left l = kinds_on (kinds_by (Some l.list)) (parts_left (option_map (λ rest. rest.now) l.left)) ≡ kinds_from [] (slice_split (λ byte. byte == 44) l.word)

abbrev pub decreases-loop-left : goal.decreases-loop-left
decreases-loop-left l = len_left (option_map (λ rest. rest.now) l.left)
