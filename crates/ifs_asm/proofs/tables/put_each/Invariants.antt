use Rattle.std.proofs.Common.{◌≡◌, ◌++◌, take, string_bytes, All}
use Rattle.std.specs.List.{flat_map}
use Rattle.ifs_asm.proofs.tables.put_each.Given as goal

abbrev pub invariant-loop-entry : goal.invariant-loop-entry
invariant-loop-entry g l = record {
  bytes : string_bytes l.out ≡ string_bytes l.fn.out ++ flat_map (g.P.Table.text l.table) (take l.entry-index l.entries);
  in_range : All g.P.Table.InRange (take l.entry-index l.entries);
}
