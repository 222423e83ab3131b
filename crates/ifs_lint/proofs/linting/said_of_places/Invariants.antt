-- The findings so far.
use Rattle.std.proofs.Common.{◌≡◌, take}
use Rattle.ifs_lint.specs.Naming.{numbered, on_places, places_named}
use Rattle.ifs_lint.proofs.linting.said_of_places.Given as goal

abbrev pub invariant-loop-place : goal.invariant-loop-place
invariant-loop-place l = on_places l.findings.items ≡ numbered places_named 0 (take l.place l.answers)
