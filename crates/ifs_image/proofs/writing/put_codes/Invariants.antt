use Rattle.std.proofs.Common.{◌≡◌, ◌++◌, take, map}
use Rattle.ifs_base.specs.Spelling.{code_of_kind}
use Rattle.ifs_image.proofs.writing.put_codes.Given as goal

abbrev pub invariant-loop-kind : goal.invariant-loop-kind
invariant-loop-kind l = l.out.items ≡ l.fn.out.items ++ map code_of_kind (take l.kind-index l.kinds)
