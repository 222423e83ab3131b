-- If there is no place, the result is the number of entries.
use Rattle.std.proofs.Common.{◌≡◌, ℕ, ◌≤◌, Bool, true, false, cond, List, length, Some, None, nat_lt, refl, arith}
use Rattle.std.proofs.lemmas.Bool.{ltb-false}
use Rattle.std.proofs.lemmas.List.Sums.{prefix_len-le-length}
use Rattle.std.specs.Option.{unwrap_or}
use Rattle.std.specs.List.{position, position_or_len}
use Rattle.ifs_policy.proofs.placing.place_or_len.Goals as goal

placed : (place count : ℕ) (b : Bool) → place ≤ count → nat_lt place count ≡ b → unwrap_or (cond b (Some place) None) count ≡ place
placed place count true within e = refl
placed place count false within e = let above = ltb-false place count e in omega arith

found : {X : Type 0} (p : X → Bool) (xs : List X) → unwrap_or (position p xs) (length xs) ≡ position_or_len p xs
found p xs = placed (position_or_len p xs) (length xs) (nat_lt (position_or_len p xs) (length xs)) (prefix_len-le-length _ xs) refl

pub returns : goal.returns
returns g c = let e = found (g.T.PartialEq.eq c.args.entry.now) c.args.table.now in grind (arith)
