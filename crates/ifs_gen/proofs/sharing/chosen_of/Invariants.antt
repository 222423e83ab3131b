-- The chosen codes so far are kept.
use Rattle.std.proofs.Common.{◌≡◌, take}
use Rattle.std.specs.Prelude.{filter}
use Rattle.std.specs.List.{list_any}
use Rattle.ifs_gen.specs.Sharing.{same_code, most_shared}
use Rattle.ifs_gen.proofs.sharing.chosen_of.Given as goal

abbrev pub invariant-loop-index : goal.invariant-loop-index
invariant-loop-index l = l.shared ≡ take most_shared (filter (λ code. list_any (same_code code) l.met.again) (take l.index l.met.once))
