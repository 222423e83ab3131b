-- Ways of control to a place of a routine, and the kinds on the stack there.
use Rattle.std.specs.Prelude.{ℕ, ◌≡◌, ◌≤◌, List, Some}
use Rattle.ifs_base.specs.declared.op.Kind.{Kind}
use Rattle.ifs_base.specs.declared.op.Op.{Op}
use Rattle.ifs_image.specs.declared.parts.ImageParts.{ImageParts}
use Rattle.ifs_image.specs.Code.{op_at, params_of, IsSuccessor, effect}

-- Some way from a routine's start, over places up to a last one, leads to a place with a list of kinds.
pub data Leads (image : ImageParts) (routine last : ℕ) : ℕ → List Kind → Type 0 where
  -- a way begins at place 0 with the routine's parameters
  begins : Leads image routine last 0 (params_of image routine)
  -- and goes on from a place to a successor, with what the instruction leaves
  goes_on : (place to : ℕ) (op : Op) (kinds after : List Kind) → Leads image routine last place kinds → place ≤ last → op_at image routine place ≡ Some op
      → effect image op kinds ≡ Some after → IsSuccessor op place to → Leads image routine last to after
