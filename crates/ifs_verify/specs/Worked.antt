-- The heights of a routine with parameters and of one that calls it, worked out.
use Rattle.std.specs.Prelude.{ℕ, ◌≡◌, ◌≤◌, List, [], ◌∷◌, replicate, slice_index_or}
use Rattle.ifs_base.specs.declared.op.Kind.{Kind}
use Rattle.ifs_base.specs.declared.op.Kind.TheVariants.{Truth}
use Rattle.ifs_base.specs.declared.op.Op.TheVariants.{Ret, Yes, Both, Call, Pop, Dup}
use Rattle.ifs_image.specs.declared.parts.Routine.{Routine}
use Rattle.ifs_image.specs.declared.parts.ImageParts.{ImageParts}
use Rattle.ifs_verify.specs.Bounds.{AreHeights}

-- So many truths.
abbrev pub truths : ℕ → List Kind
truths n = replicate n Truth

-- A routine that takes two truths, has four at most, and leaves one.
abbrev pub callee : Routine
callee = record { params = record { items = truths 2 }; results = record { items = truths 1 }; code = Dup ∷ Dup ∷ Pop ∷ Pop ∷ Both ∷ Ret ∷ [] }

-- A routine that calls it with three truths on the stack.
abbrev pub caller : Routine
caller = record { params = record { items = [] }; results = record { items = [] }; code = Yes ∷ Yes ∷ Yes ∷ Call (record { 0 = 0 }) ∷ Pop ∷ Pop ∷ Ret ∷ [] }

-- An image that has these two routines.
abbrev pub with_call : ImageParts → ImageParts
with_call image = record image { routines = callee ∷ caller ∷ [] }

-- The kinds before each instruction of the two.
abbrev pub kinds_of_both : ℕ → ℕ → List Kind
kinds_of_both routine place = truths (slice_index_or (slice_index_or ((2 ∷ 3 ∷ 4 ∷ 3 ∷ 2 ∷ 1 ∷ []) ∷ (0 ∷ 1 ∷ 2 ∷ 3 ∷ 2 ∷ 1 ∷ 0 ∷ []) ∷ []) routine []) place 0)

-- The least heights are four, and five: one truth stays below the two that the callee takes.
pub record CallsAreWorked : Type 0 where
  pub fit : (image : ImageParts) (heights : ℕ → ℕ) → heights 0 ≡ 4 → heights 1 ≡ 5 → AreHeights (with_call image) kinds_of_both heights
  pub least : (image : ImageParts) (heights : ℕ → ℕ) → AreHeights (with_call image) kinds_of_both heights → (4 ≤ heights 0) × (5 ≤ heights 1)
