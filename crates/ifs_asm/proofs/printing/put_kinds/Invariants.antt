use Rattle.std.proofs.Common.{◌≡◌, ◌++◌, string_bytes}
use Rattle.ifs_asm.specs.Texts.{kinds_word}
use Rattle.ifs_asm.specs.inner.Lists.{kinds_left}
use Rattle.ifs_asm.proofs.printing.put_kinds.Given as goal

abbrev pub invariant-loop-kind : goal.invariant-loop-kind
invariant-loop-kind l = string_bytes l.out ++ kinds_left l.is_first l.kind-index l.kinds ≡ string_bytes l.fn.out ++ kinds_word l.kinds
