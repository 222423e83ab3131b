-- The entries so far are in the other table.
use Rattle.std.proofs.Common.{◌≡◌, true, take}
use Rattle.std.specs.Prelude.{All}
use Rattle.std.specs.List.{list_any}
use Rattle.ifs_compare.proofs.names.are_in.Given as goal

abbrev pub invariant-loop-index : goal.invariant-loop-index
invariant-loop-index g l = All (λ entry. list_any (g.T.PartialEq.eq entry) l.other ≡ true) (take l.index l.one)
