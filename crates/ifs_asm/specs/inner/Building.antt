-- What lines so far say, and how one more line changes it.
use Rattle.std.specs.Prelude.{ℕ, ◌+◌, ◌==◌, ◌&&◌, ◌||◌, not, nat_lt, Bool, true, false, if◌then◌else◌, List, []}
use Rattle.std.specs.Prelude.{◌∷◌, ◌++◌, length, Option, Some, None, option_and_then, is_some, take, map, min}
use Rattle.std.specs.List.{flat_map}
use Rattle.ifs_base.specs.declared.ids.StateId.{StateId}
use Rattle.ifs_base.specs.declared.op.Kind.TheVariants.{Truth}
use Rattle.ifs_base.specs.declared.op.Op.{Op}
use Rattle.ifs_image.specs.declared.parts.Budgets.{Budgets}
use Rattle.ifs_image.specs.declared.parts.Handlers.{Handlers}
use Rattle.ifs_image.specs.declared.parts.TestSpec.{TestSpec}
use Rattle.ifs_image.specs.declared.parts.StateSpec.{StateSpec}
use Rattle.ifs_image.specs.declared.parts.Routine.{Routine}
use Rattle.ifs_image.specs.declared.parts.ImageParts.{ImageParts}
use Rattle.ifs_image.specs.Limits.{names_of, code_limit}
use Rattle.ifs_image.specs.Reading.{stands_in}
use Rattle.ifs_asm.specs.declared.building.Begun.{Begun}
use Rattle.ifs_asm.specs.declared.line.Version.{Version}
use Rattle.ifs_asm.specs.declared.line.Version.TheVariants.{One, Two}
use Rattle.ifs_asm.specs.declared.line.Head.{Head}
use Rattle.ifs_asm.specs.declared.line.Head.TheVariants.{Plain, Signature}
use Rattle.ifs_asm.specs.declared.line.Line.{Line}
use Rattle.ifs_asm.specs.declared.line.Line.TheVariants as lines
use Rattle.ifs_asm.specs.Texts.{version_number, front_lines, routine_lines}
use Rattle.ifs_asm.specs.Spellings.{is_silent}
use Rattle.ifs_asm.specs.inner.Words.{words_up_to}
use Rattle.ifs_asm.specs.inner.Forms.{line_of}

-- What lines say: the number of lines before the tables and their values (version 1 if there is no line yet), the tables, the
-- complete routines, the current routine, and the number of all instructions, up to 65,535.
pub record Built : Type 0 where
  pub front : ℕ
  pub version : Version
  pub budgets : Budgets
  pub initial : StateId
  pub always : Handlers
  pub interfaces : List (List ℕ)
  pub tests : List TestSpec
  pub commands : List (List ℕ)
  pub states : List StateSpec
  pub routines : List Routine
  pub current : Option Routine
  pub count : ℕ

-- The current routine, if there is one, as a list.
abbrev pub listed_routine : Option Routine → List Routine
listed_routine None = []
listed_routine (Some r) = r ∷ []

-- The current routine, from its beginning and its instructions.
abbrev pub current_routine : Option Begun → List Op → Option Routine
current_routine None code = None
current_routine (Some begun) code = Some (record { params = begun.params; results = begun.results; code = code })

-- A routine without instructions, from its first line.
abbrev pub begun : Head → Routine
begun (Plain true) = record { params = record { items = [] }; results = record { items = Truth ∷ [] }; code = [] }
begun (Plain false) = record { params = record { items = [] }; results = record { items = [] }; code = [] }
begun (Signature params results) = record { params = params; results = results; code = [] }

-- The parts of an image that lines say.
abbrev pub parts_said : Built → ImageParts
parts_said b = record { version = version_number b.version; budgets = b.budgets; initial = b.initial; always = b.always; interfaces = b.interfaces; tests = b.tests; commands = b.commands; states = b.states; routines = b.routines ++ listed_routine b.current }

-- The lines themselves.
abbrev pub lines_said : Built → List Line
lines_said b =
    take b.front (front_lines (parts_said b)) ++ map lines.Interface b.interfaces ++ map lines.Test b.tests ++ map lines.Command b.commands
    ++ map lines.State b.states ++ flat_map (routine_lines b.version) (b.routines ++ listed_routine b.current)

-- Whether a list is empty.
abbrev pub is_none : {A : Type 0} → List A → Bool
is_none [] = true
is_none (x ∷ xs) = false

-- The number of instructions in the current routine.
abbrev pub current_len : Option Routine → ℕ
current_len None = 0
current_len (Some r) = length r.code

-- The number of routines.
abbrev pub routine_count : Built → ℕ
routine_count b = length (b.routines ++ listed_routine b.current)

-- A routine begins in the form of the other version.
abbrev pub is_of_other : Version → Head → Bool
is_of_other One (Signature params results) = true
is_of_other Two (Plain truth) = true
is_of_other _ _ = false

-- A line has no form: it repeats the name of an interface or a state, or begins a routine in the form of the other version.
abbrev pub has_no_form : Built → Line → Bool
has_no_form b (lines.Interface name) = stands_in name b.interfaces
has_no_form b (lines.State s) = stands_in s.name (names_of b.states)
has_no_form b (lines.Routine head) = nat_lt 0 b.front && is_of_other b.version head
has_no_form b _ = false

-- There is no room for a line.
abbrev pub is_full : Built → Line → Bool
is_full b (lines.Interface name) = not (nat_lt (length b.interfaces) 64)
is_full b (lines.Test t) = not (nat_lt (length b.tests) 64)
is_full b (lines.Command text) = not (nat_lt (length b.commands) 1024)
is_full b (lines.State s) = not (nat_lt (length b.states) 256)
is_full b (lines.Routine head) = not (nat_lt (routine_count b) 1024)
is_full b (lines.Instruction op) = not (nat_lt (current_len b.current) 1024) || not (nat_lt b.count (code_limit (version_number b.version)))
is_full b _ = false

-- A line may come next: no later line came before, and each line before the tables comes once.
abbrev pub is_in_order : Built → Line → Bool
is_in_order b (lines.Version version) = b.front == 0
is_in_order b (lines.Stack n) = b.front == 1
is_in_order b (lines.Frames n) = b.front == 2
is_in_order b (lines.Cost n) = b.front == 3
is_in_order b (lines.Commands n) = b.front == 4
is_in_order b (lines.Start n) = b.front == 5
is_in_order b (lines.Always h) = b.front == 6
is_in_order b (lines.Interface name) = (b.front == 7) && (is_none b.tests && (is_none b.commands && is_none b.states))
is_in_order b (lines.Test t) = (b.front == 7) && (is_none b.commands && is_none b.states)
is_in_order b (lines.Command text) = (b.front == 7) && is_none b.states
is_in_order b (lines.State s) = (b.front == 7) && not (is_some b.current)
is_in_order b (lines.Routine head) = not (is_none b.states)
is_in_order b (lines.Instruction op) = is_some b.current

-- A routine with one more instruction.
abbrev pub with_op : Op → Option Routine → Option Routine
with_op op None = None
with_op op (Some r) = Some (record r { code = r.code ++ op ∷ [] })

-- What lines say with one more line.
abbrev pub with_line : Built → Line → Built
with_line b (lines.Version version) = record b { front = 1; version = version }
with_line b (lines.Stack n) = record b { front = 2; budgets = record b.budgets { stack = n } }
with_line b (lines.Frames n) = record b { front = 3; budgets = record b.budgets { frames = n } }
with_line b (lines.Cost n) = record b { front = 4; budgets = record b.budgets { cost = n } }
with_line b (lines.Commands n) = record b { front = 5; budgets = record b.budgets { commands = n } }
with_line b (lines.Start n) = record b { front = 6; initial = n }
with_line b (lines.Always h) = record b { front = 7; always = h }
with_line b (lines.Interface name) = record b { interfaces = b.interfaces ++ name ∷ [] }
with_line b (lines.Test t) = record b { tests = b.tests ++ t ∷ [] }
with_line b (lines.Command text) = record b { commands = b.commands ++ text ∷ [] }
with_line b (lines.State s) = record b { states = b.states ++ s ∷ [] }
with_line b (lines.Routine head) = record b { routines = b.routines ++ listed_routine b.current; current = Some (begun head) }
with_line b (lines.Instruction op) = record b { current = with_op op b.current; count = min (b.count + 1) 65535 }

-- The same, if that line may come next.
abbrev pub one_line_more : Built → Line → Option Built
one_line_more b line = if has_no_form b line || (is_full b line || not (is_in_order b line)) then None else Some (with_line b line)

-- The line that bytes without a newline say.
unfoldable pub line_in : List ℕ → Option Line
line_in bytes = line_of (words_up_to 9 bytes)

-- What lines say after more lines, given as bytes.
abbrev pub built_by : Built → List (List ℕ) → Option Built
built_by b [] = Some b
built_by b (bytes ∷ others) = option_and_then (λ line. option_and_then (λ next. built_by next others) (one_line_more b line)) (line_in bytes)

-- What lines say after more lines.
abbrev pub built_of : Built → List Line → Option Built
built_of b [] = Some b
built_of b (line ∷ others) = option_and_then (λ next. built_of next others) (one_line_more b line)

-- A line as a list; the empty list if the line is empty or a comment.
abbrev pub spoken_line : List ℕ → List (List ℕ)
spoken_line bytes = if is_silent bytes then [] else bytes ∷ []

-- The state before the first line.
abbrev pub nothing : Built
nothing = record {
  front = 0;
  version = One;
  budgets = record { stack = 0; frames = 0; cost = 0; commands = 0 };
  initial = record { 0 = 0 };
  always = record { init = record { 0 = 0 }; body = record { 0 = 0 }; mask = 0 };
  interfaces = [];
  tests = [];
  commands = [];
  states = [];
  routines = [];
  current = None;
  count = 0;
}
