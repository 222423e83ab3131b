-- The fields of a spelling in their order: what each is, and its bytes.
use Rattle.std.specs.Prelude.{ℕ, ◌==◌, if◌then◌else◌, List, [], ◌∷◌, ◌++◌, length, codes}
use Rattle.std.specs.Int.{Width, w16, w32, w64, byte_len, to_be_bytes}
use Rattle.std.specs.List.{flat_map}
use Rattle.ifs_base.specs.declared.op.Kind.{Kind}
use Rattle.ifs_base.specs.declared.op.Op.{Op}
use Rattle.ifs_base.specs.Spelling.{spelling, code_of_kind}
use Rattle.ifs_image.specs.declared.parts.Budgets.{Budgets}
use Rattle.ifs_image.specs.declared.parts.Counts.{Counts}
use Rattle.ifs_image.specs.declared.parts.Handlers.{Handlers}
use Rattle.ifs_image.specs.declared.parts.TestSpec.{TestSpec}
use Rattle.ifs_image.specs.declared.parts.StateSpec.{StateSpec}
use Rattle.ifs_image.specs.declared.parts.Routine.{Routine}
use Rattle.ifs_image.specs.declared.parts.ImageParts.{ImageParts}
use Rattle.ifs_image.specs.Spelling.{text_bytes, counts}

-- What a field is. A number, or the code of a kind, has so many bytes. A text or a name begins with its length.
pub data FieldKind : Type 0 where
  Magic : FieldKind
  Version : FieldKind
  Number : ℕ → FieldKind
  Text : FieldKind
  Name : FieldKind
  Instruction : FieldKind

-- A field: what it is, and its bytes.
pub record Field : Type 0 where
  pub kind : FieldKind
  pub bytes : List ℕ

abbrev pub field : FieldKind → List ℕ → Field
field kind bytes = record { kind = kind; bytes = bytes }

-- The bytes of fields, one after the other.
abbrev pub bytes_of : List Field → List ℕ
bytes_of fields = flat_map (λ f. f.bytes) fields

-- A number of several bytes, a number of one byte, a text, a name, a kind, and an instruction.
abbrev pub number : Width → ℕ → Field
number w n = field (Number (byte_len w)) (to_be_bytes w n)

abbrev pub byte : ℕ → Field
byte n = field (Number 1) (n ∷ [])

abbrev pub text_fields : List ℕ → List Field
text_fields text = field Text (text_bytes text) ∷ []

abbrev pub name_fields : List ℕ → List Field
name_fields name = field Name (text_bytes name) ∷ []

abbrev pub kind_fields : Kind → List Field
kind_fields kind = byte (code_of_kind kind) ∷ []

abbrev pub op_fields : Op → List Field
op_fields op = field Instruction (spelling op) ∷ []

-- Magic and version.
abbrev pub front_fields : ℕ → List Field
front_fields version = field Magic (codes "IFSV") ∷ field Version (version ∷ []) ∷ []

-- Stack, frames, cost, commands.
abbrev pub budgets_fields : Budgets → List Field
budgets_fields b = number w16 b.stack ∷ number w16 b.frames ∷ number w32 b.cost ∷ number w16 b.commands ∷ []

-- Interfaces, tests, commands, states, routines.
abbrev pub counts_fields : Counts → List Field
counts_fields c = number w16 c.interfaces ∷ number w16 c.tests ∷ number w16 c.commands ∷ number w16 c.states ∷ number w16 c.routines ∷ []

-- Init routine, body routine, test mask.
abbrev pub handlers_fields : Handlers → List Field
handlers_fields h = number w16 h.init.0 ∷ number w16 h.body.0 ∷ number w64 h.mask ∷ []

-- Period, command.
abbrev pub test_fields : TestSpec → List Field
test_fields t = number w32 t.period ∷ text_fields t.text

-- Name, init routine, body routine, test mask.
abbrev pub state_fields : StateSpec → List Field
state_fields s = name_fields s.name ++ handlers_fields s.handlers

-- Number of kinds, kinds.
abbrev pub kinds_fields : List Kind → List Field
kinds_fields kinds = byte (length kinds) ∷ flat_map kind_fields kinds

-- The parameters of a routine, which version 1 does not spell.
abbrev pub params_fields : ℕ → List Kind → List Field
params_fields version params = if version == 1 then [] else kinds_fields params

-- The results of a routine: the number alone in version 1.
abbrev pub results_fields : ℕ → List Kind → List Field
results_fields version results = if version == 1 then byte (length results) ∷ [] else kinds_fields results

-- Parameters, results, number of instructions, instructions.
abbrev pub routine_fields : ℕ → Routine → List Field
routine_fields version r =
    params_fields version r.params.items ++ results_fields version r.results.items
    ++ number w16 (length r.code) ∷ flat_map op_fields r.code

-- The fields of an image.
unfoldable pub image_fields : ImageParts → List Field
image_fields p =
    front_fields p.version ++ budgets_fields p.budgets ++ counts_fields (counts p) ++ number w16 p.initial.0 ∷ handlers_fields p.always
    ++ flat_map name_fields p.interfaces ++ flat_map test_fields p.tests ++ flat_map text_fields p.commands
    ++ flat_map state_fields p.states ++ flat_map (routine_fields p.version) p.routines
