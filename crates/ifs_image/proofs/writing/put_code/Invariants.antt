use Rattle.std.proofs.Common.{◌≡◌, ◌++◌, take, All}
use Rattle.std.specs.List.{flat_map}
use Rattle.ifs_base.specs.Spelling.{spelling, HasSpelling}
use Rattle.ifs_image.proofs.writing.put_code.Given as goal

abbrev pub invariant-loop-op : goal.invariant-loop-op
invariant-loop-op l = record {
  bytes : l.out.items ≡ l.fn.out.items ++ flat_map spelling (take l.op-index l.code);
  in_range : All HasSpelling (take l.op-index l.code);
}
