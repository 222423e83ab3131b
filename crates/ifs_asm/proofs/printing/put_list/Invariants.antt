use Rattle.std.proofs.Common.{◌≡◌, ◌++◌, string_bytes, decimal, map}
use Rattle.ifs_base.specs.Words.{listed}
use Rattle.ifs_asm.specs.Texts.{tests_of}
use Rattle.ifs_asm.specs.inner.Lists.{left_at}
use Rattle.ifs_asm.proofs.printing.put_list.Given as goal

abbrev pub invariant-loop-test : goal.invariant-loop-test
invariant-loop-test l = string_bytes l.out ++ left_at l.is_first l.mask l.test ≡ string_bytes l.fn.out ++ listed (map decimal (tests_of l.mask))
