-- The statements of the parts so far are placed.
use Rattle.std.proofs.Common.{◌≡◌, ◌++◌, map, drop}
use Rattle.ifs_policy.specs.inner.Sized.{borrowed, place_statement}
use Rattle.ifs_policy.proofs.Places.{statements_in}
use Rattle.ifs_policy.proofs.placing.place_body.Given as goal

abbrev pub invariant-loop-part : goal.invariant-loop-part
invariant-loop-part l = l.placed.items ++ map (place_statement l.tables) (statements_in (borrowed (drop l.part-index l.parts))) ≡ map (place_statement l.tables) (statements_in (borrowed l.parts))
