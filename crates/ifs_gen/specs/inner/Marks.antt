-- Marks of tests, by index.
use Rattle.std.specs.Prelude.{ℕ, Bool, true, false, List, [], ◌∷◌, slice_set}
use Rattle.ifs_base.specs.declared.ids.TestId.{TestId}

-- The marks after these tests are marked. A test without a place changes nothing.
abbrev pub with_marks : List Bool → List TestId → List Bool
with_marks marks [] = marks
with_marks marks (test ∷ tests) = with_marks (slice_set marks test.0 true) tests

-- The test of an index, if it is marked.
abbrev pub test_where : Bool → ℕ → List TestId
test_where true index = record { 0 = index } ∷ []
test_where false index = []
