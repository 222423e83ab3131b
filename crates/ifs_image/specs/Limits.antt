-- The limits of an image: of its numbers, counts and texts, of its names, and of what its version can say.
use Rattle.std.specs.Prelude.{ℕ, ◌≡◌, ◌≢◌, ◌<◌, ◌≤◌, ◌^◌, ◌⊎◌, ◌==◌, if◌then◌else◌}
use Rattle.std.specs.Prelude.{List, [], ◌∷◌, length, map, All, AllPairs, sum_by, IsUtf8}
use Rattle.ifs_base.specs.declared.op.Kind.TheVariants.{Truth}
use Rattle.ifs_base.specs.Sizes.{TextFits, PeriodFits}
use Rattle.ifs_base.specs.Spelling.{HasSpelling}
use Rattle.ifs_image.specs.declared.parts.Budgets.{Budgets}
use Rattle.ifs_image.specs.declared.parts.Handlers.{Handlers}
use Rattle.ifs_image.specs.declared.parts.TestSpec.{TestSpec}
use Rattle.ifs_image.specs.declared.parts.StateSpec.{StateSpec}
use Rattle.ifs_image.specs.declared.parts.Routine.{Routine}
use Rattle.ifs_image.specs.declared.parts.ImageParts.{ImageParts}

-- The stated limits of one event fit their own limits.
pub record BudgetsFit (b : Budgets) : Type 0 where
  pub stack : b.stack ≤ 32
  pub frames : b.frames ≤ 32
  pub cost : b.cost ≤ 300000
  pub commands : b.commands ≤ 64

-- Each table has at most its number of entries, and there is a state.
pub record CountsFit (p : ImageParts) : Type 0 where
  pub interfaces : length p.interfaces ≤ 64
  pub tests : length p.tests ≤ 64
  pub commands : length p.commands ≤ 1024
  pub some_state : 1 ≤ length p.states
  pub states : length p.states ≤ 256
  pub routines : length p.routines ≤ 1024

-- A test's period and command fit.
pub record TestFits (t : TestSpec) : Type 0 where
  pub period : PeriodFits t.period
  pub text : TextFits t.text

-- The versions of the format.
abbrev pub IsVersion : ℕ → Type 0
IsVersion version = (1 ≤ version) × (version ≤ 2)

-- A routine has no parameters, and no result or one truth.
pub record IsPlain (r : Routine) : Type 0 where
  pub params : r.params.items ≡ []
  pub results : (r.results.items ≡ []) ⊎ (r.results.items ≡ Truth ∷ [])

-- A routine is plain or the version is 2, and it has at most 1,024 instructions.
pub record RoutineFits (version : ℕ) (r : Routine) : Type 0 where
  pub kinds : (version ≡ 2) ⊎ IsPlain r
  pub code : length r.code ≤ 1024

-- All names are different.
abbrev pub AreDistinct : List (List ℕ) → Type 0
AreDistinct names = AllPairs (λ name other. name ≢ other) names

-- The names of a table are texts, and all different.
pub record NamesFit (names : List (List ℕ)) : Type 0 where
  pub texts : All TextFits names
  pub distinct : AreDistinct names

-- The names of states, in the order of their table.
abbrev pub names_of : List StateSpec → List (List ℕ)
names_of states = map (λ s. s.name) states

-- The names of the states are texts, and all different.
pub record StatesFit (states : List StateSpec) : Type 0 where
  pub texts : All (λ s. TextFits s.name) states
  pub distinct : AreDistinct (names_of states)

-- The number of instructions of all routines together.
abbrev pub instructions : List Routine → ℕ
instructions routines = sum_by (λ r. length r.code) routines

-- The greatest number of instructions of all routines together, by the version.
abbrev pub code_limit : ℕ → ℕ
code_limit version = if version == 1 then 8192 else 65535

-- Each routine fits its limits, and so do all together.
pub record RoutinesFit (version : ℕ) (routines : List Routine) : Type 0 where
  pub each : All (RoutineFits version) routines
  pub together : instructions routines ≤ code_limit version

-- An image fits all limits, and its names are distinct.
pub record Fits (p : ImageParts) : Type 0 where
  pub version : IsVersion p.version
  pub budgets : BudgetsFit p.budgets
  pub counts : CountsFit p
  pub interfaces : NamesFit p.interfaces
  pub tests : All TestFits p.tests
  pub commands : All TextFits p.commands
  pub states : StatesFit p.states
  pub routines : RoutinesFit p.version p.routines

-- A handler's routines and its mask fit their fields.
pub record HandlersInRange (h : Handlers) : Type 0 where
  pub init : h.init.0 < 2 ^ 16
  pub body : h.body.0 < 2 ^ 16
  pub mask : h.mask < 2 ^ 64

-- A state's name is a text, and its handlers fit their fields.
pub record StateInRange (s : StateSpec) : Type 0 where
  pub name : IsUtf8 s.name
  pub handlers : HandlersInRange s.handlers

-- A routine has at most four parameters and four results, and each operand fits its field.
pub record RoutineInRange (r : Routine) : Type 0 where
  pub params : length r.params.items ≤ 4
  pub results : length r.results.items ≤ 4
  pub code : All HasSpelling r.code

-- What the types of the parts ensure: numbers and lists of kinds fit their fields, and texts are UTF-8.
pub record InRange (p : ImageParts) : Type 0 where
  pub initial : p.initial.0 < 2 ^ 16
  pub always : HandlersInRange p.always
  pub interfaces : All IsUtf8 p.interfaces
  pub tests : All (λ t. IsUtf8 t.text) p.tests
  pub commands : All IsUtf8 p.commands
  pub states : All StateInRange p.states
  pub routines : All RoutineInRange p.routines
