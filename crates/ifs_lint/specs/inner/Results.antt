-- Results of tests in a world.
use Rattle.std.specs.Prelude.{ℕ, ◌≡◌, ◌<◌, Bool, List, Option, Some, slice_get}

-- A value that a test has is its result.
abbrev pub IsResult : List (Option Bool) → List Bool → ℕ → Type 0
IsResult values results test = (value : Bool) → slice_get values test ≡ Some (Some value) → slice_get results test ≡ Some value

-- It is so of the first tests.
abbrev pub AreResults : List (Option Bool) → List Bool → ℕ → Type 0
AreResults values results count = (test : ℕ) → test < count → IsResult values results test
