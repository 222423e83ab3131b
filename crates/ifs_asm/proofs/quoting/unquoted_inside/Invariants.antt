use Rattle.std.proofs.Common.{◌≡◌, ◌++◌, length}
use Rattle.std.specs.Option.{option_map}
use Rattle.std.specs.List.{prefix_len}
use Rattle.ifs_asm.specs.Spellings.{is_plain}
use Rattle.ifs_asm.specs.inner.Words.{Within, text_from}
use Rattle.ifs_asm.proofs.quoting.unquoted_inside.Given as goal

abbrev pub invariant-loop-escape : goal.invariant-loop-escape
invariant-loop-escape l = (option_map (λ text. l.bytes.items ++ text) (text_from l.left Within) ≡ text_from l.inside Within) × (prefix_len is_plain l.left ≡ 0)

abbrev pub decreases-loop-escape : goal.decreases-loop-escape
decreases-loop-escape l = length l.left
