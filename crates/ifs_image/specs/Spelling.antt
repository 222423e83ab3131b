-- The bytes of an image, in the order of the format.
use Rattle.std.specs.Prelude.{◌≡◌, ℕ, ◌==◌, if◌then◌else◌, List, [], ◌∷◌, ◌++◌, length, map, codes}
use Rattle.std.specs.Int.{w16, w32, w64, to_be_bytes}
use Rattle.std.specs.List.{flat_map}
use Rattle.ifs_base.specs.declared.op.Kind.{Kind}
use Rattle.ifs_base.specs.Spelling.{spelling, code_of_kind}
use Rattle.ifs_image.specs.declared.parts.Budgets.{Budgets}
use Rattle.ifs_image.specs.declared.parts.Counts.{Counts}
use Rattle.ifs_image.specs.declared.parts.Handlers.{Handlers}
use Rattle.ifs_image.specs.declared.parts.TestSpec.{TestSpec}
use Rattle.ifs_image.specs.declared.parts.StateSpec.{StateSpec}
use Rattle.ifs_image.specs.declared.parts.Routine.{Routine}
use Rattle.ifs_image.specs.declared.parts.ImageParts.{ImageParts}
use Rattle.ifs_image.specs.Limits.{Fits, InRange}

-- Magic and version.
unfoldable pub front_bytes : ℕ → List ℕ
front_bytes version = codes "IFSV" ++ version ∷ []

-- Stack, frames, cost, commands.
unfoldable pub budgets_bytes : Budgets → List ℕ
budgets_bytes b = to_be_bytes w16 b.stack ++ to_be_bytes w16 b.frames ++ to_be_bytes w32 b.cost ++ to_be_bytes w16 b.commands

-- Interfaces, tests, commands, states, routines.
unfoldable pub counts_bytes : Counts → List ℕ
counts_bytes c = to_be_bytes w16 c.interfaces ++ to_be_bytes w16 c.tests ++ to_be_bytes w16 c.commands ++ to_be_bytes w16 c.states ++ to_be_bytes w16 c.routines

-- Init routine, body routine, test mask.
unfoldable pub handlers_bytes : Handlers → List ℕ
handlers_bytes h = to_be_bytes w16 h.init.0 ++ to_be_bytes w16 h.body.0 ++ to_be_bytes w64 h.mask

-- Length, text.
unfoldable pub text_bytes : List ℕ → List ℕ
text_bytes text = to_be_bytes w16 (length text) ++ text

-- Period, length, command.
unfoldable pub test_bytes : TestSpec → List ℕ
test_bytes t = to_be_bytes w32 t.period ++ text_bytes t.text

-- Length, name, init routine, body routine, test mask.
unfoldable pub state_bytes : StateSpec → List ℕ
state_bytes s = text_bytes s.name ++ handlers_bytes s.handlers

-- Number of kinds, kinds.
unfoldable pub kinds_bytes : List Kind → List ℕ
kinds_bytes kinds = length kinds ∷ map code_of_kind kinds

-- The parameters of a routine, which version 1 does not spell.
unfoldable pub params_bytes : ℕ → List Kind → List ℕ
params_bytes version params = if version == 1 then [] else kinds_bytes params

-- The results of a routine: the number alone in version 1.
unfoldable pub results_bytes : ℕ → List Kind → List ℕ
results_bytes version results = if version == 1 then length results ∷ [] else kinds_bytes results

-- Parameters, results, number of instructions, instructions.
unfoldable pub routine_bytes : ℕ → Routine → List ℕ
routine_bytes version r =
    params_bytes version r.params.items ++ results_bytes version r.results.items
    ++ to_be_bytes w16 (length r.code) ++ flat_map spelling r.code

-- The number of entries of each table of an image.
abbrev pub counts : ImageParts → Counts
counts p = record { interfaces = length p.interfaces; tests = length p.tests; commands = length p.commands; states = length p.states; routines = length p.routines }

-- The spelling of an image.
unfoldable pub image_bytes : ImageParts → List ℕ
image_bytes p =
    front_bytes p.version ++ budgets_bytes p.budgets ++ counts_bytes (counts p) ++ to_be_bytes w16 p.initial.0 ++ handlers_bytes p.always
    ++ flat_map text_bytes p.interfaces ++ flat_map test_bytes p.tests ++ flat_map text_bytes p.commands
    ++ flat_map state_bytes p.states ++ flat_map (routine_bytes p.version) p.routines

-- Bytes spell an image, which fits its limits.
pub record Spells (bytes : List ℕ) (p : ImageParts) : Type 0 where
  pub fits : Fits p
  pub in_range : InRange p
  pub bytes_are : bytes ≡ image_bytes p
