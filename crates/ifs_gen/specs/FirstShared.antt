-- Which conditions are shared, said of the whole list of a policy's conditions.
use Rattle.std.specs.Prelude.{ℕ, ◌≡◌, ◌≢◌, ◌<◌, ◌≤◌, ◌⊎◌, List, length, All, AllPairs, Contains, Some, slice_get}
use Rattle.ifs_base.specs.declared.op.Op.{Op}
use Rattle.ifs_gen.specs.Trees.{Policy}
use Rattle.ifs_gen.specs.PlainSizes.{parts_of}
use Rattle.ifs_gen.specs.PolicyImage.{shared_of}
use Rattle.ifs_gen.specs.Sharing.{conditions_in}

-- A code occurs before an index.
abbrev pub OccursBefore : List (List Op) → ℕ → List Op → Type 0
OccursBefore all j code = (i : ℕ) × (i < j) × (slice_get all i ≡ Some code)

-- A code occurs at an index, and before it.
abbrev pub OccursTwice : List (List Op) → List Op → Type 0
OccursTwice all code = (j : ℕ) × (slice_get all j ≡ Some code) × OccursBefore all j code

-- The shared codes among all codes.
pub record AreShared (all shared : List (List Op)) : Type 0 where
  -- they are distinct, have five instructions or more, and occur twice or more
  pub distinct : AllPairs (λ code other. code ≢ other) shared
  pub long : All (λ code. 5 ≤ length code) shared
  pub twice : All (OccursTwice all) shared
  -- they are at most 510
  pub few : length shared ≤ 510
  -- they are in the order of their first occurrence
  pub order : (k l j : ℕ) (code other : List Op) → k < l → slice_get shared k ≡ Some code → slice_get shared l ≡ Some other
      → slice_get all j ≡ Some other → OccursBefore all j code
  -- any other such code occurs behind 510 shared ones
  pub rest : (j : ℕ) (code : List Op) → slice_get all j ≡ Some code → 5 ≤ length code → OccursTwice all code
      → Contains shared code ⊎ ((length shared ≡ 510) × All (OccursBefore all j) shared)

-- The shared conditions of a policy are those among all its conditions.
abbrev pub FirstAreShared : Type 0
FirstAreShared = (policy : Policy) → AreShared (conditions_in (parts_of policy)) (shared_of policy)
