-- Reading an image from the first byte on, field by field: the result is the image, or the first fault.
use Rattle.std.specs.Prelude.{ℕ, zero, suc, ◌+◌, ◌-◌, min, Bool, ◌&&◌, ◌||◌, not, ◌==◌, nat_lt, if◌then◌else◌}
use Rattle.std.specs.Prelude.{List, [], ◌∷◌, ◌++◌, length, take, drop, replicate, slice_index, Result, Ok, Err, codes}
use Rattle.std.specs.Int.{Width, w16, w32, w64, byte_len, from_be_bytes}
use Rattle.std.specs.List.{list_any}
use Rattle.std.specs.Option.{ok_or}
use Rattle.std.specs.Str.{bytes_eq, is_utf8}
use Rattle.ifs_base.specs.declared.op.Kind.{Kind}
use Rattle.ifs_base.specs.declared.op.Kind.TheVariants.{Truth}
use Rattle.ifs_base.specs.declared.op.Op.{Op}
use Rattle.ifs_base.specs.Spelling.{op_of, kind_of_code}
use Rattle.ifs_base.specs.Results.{◌>>=◌}
use Rattle.ifs_image.specs.declared.fault.ImageFault.{ImageFault}
use Rattle.ifs_image.specs.declared.fault.ImageFault.TheVariants.{Truncated, WrongMagic, WrongVersion, OutOfLimit}
use Rattle.ifs_image.specs.declared.fault.ImageFault.TheVariants.{BadText, RepeatedName, Trailing, NoInstruction}
use Rattle.ifs_image.specs.declared.parts.Budgets.{Budgets}
use Rattle.ifs_image.specs.declared.parts.Counts.{Counts}
use Rattle.ifs_image.specs.declared.parts.Head.{Head}
use Rattle.ifs_image.specs.declared.parts.Handlers.{Handlers}
use Rattle.ifs_image.specs.declared.parts.TestSpec.{TestSpec}
use Rattle.ifs_image.specs.declared.parts.StateSpec.{StateSpec}
use Rattle.ifs_image.specs.declared.parts.Routine.{Routine}
use Rattle.ifs_image.specs.declared.parts.ImageParts.{ImageParts}
use Rattle.ifs_image.specs.Limits.{names_of, instructions, code_limit}

-- A place in the bytes: its offset, and the bytes from there on.
pub record Cursor : Type 0 where
  pub at : ℕ
  pub left : List ℕ

-- The place with an offset and the bytes from there on.
abbrev pub cursor : ℕ → List ℕ → Cursor
cursor at left = record { at = at; left = left }

-- Reading at a place: the result is a value and the place after it, or the first fault.
abbrev pub Read : Type 0 → Type 0
Read X = Result (X × Cursor) ImageFault

-- The next `n` bytes.
unfoldable pub bytes_at : ℕ → Cursor → Read (List ℕ)
bytes_at n p = if nat_lt (length p.left) n then Err (Truncated p.at) else Ok (take n p.left, cursor (p.at + n) (drop n p.left))

-- A number of one byte.
unfoldable pub byte_at : Cursor → Read ℕ
byte_at p = do
  bytes ← bytes_at 1 p
  Ok (slice_index bytes.0 0, bytes.1)

-- A number of several bytes, the high one first.
unfoldable pub number_at : Width → Cursor → Read ℕ
number_at w p = do
  bytes ← bytes_at (byte_len w) p
  Ok (from_be_bytes w bytes.0, bytes.1)

-- A number of several bytes within two limits.
unfoldable pub number_within : Width → ℕ → ℕ → Cursor → Read ℕ
number_within w least most p = do
  n ← number_at w p
  if nat_lt n.0 least || nat_lt most n.0 then Err (OutOfLimit p.at) else Ok n

-- The first four bytes of every image.
unfoldable pub magic_at : Cursor → Read (Unit {0})
magic_at p = do
  bytes ← bytes_at 4 p
  if bytes_eq bytes.0 (codes "IFSV") then Ok (tt, bytes.1) else Err (WrongMagic p.at)

-- The version, 1 or 2.
unfoldable pub version_at : Cursor → Read ℕ
version_at p = do
  version ← byte_at p
  if (version.0 == 1) || (version.0 == 2) then Ok version else Err (WrongVersion p.at)

-- The stated limits of one event.
unfoldable pub budgets_at : Cursor → Read Budgets
budgets_at p = do
  stack ← number_within w16 0 32 p
  frames ← number_within w16 0 32 stack.1
  cost ← number_within w32 0 300000 frames.1
  commands ← number_within w16 0 64 cost.1
  Ok (record { stack = stack.0; frames = frames.0; cost = cost.0; commands = commands.0 }, commands.1)

-- The number of entries of each table.
unfoldable pub counts_at : Cursor → Read Counts
counts_at p = do
  interfaces ← number_within w16 0 64 p
  tests ← number_within w16 0 64 interfaces.1
  commands ← number_within w16 0 1024 tests.1
  states ← number_within w16 1 256 commands.1
  routines ← number_within w16 0 1024 states.1
  Ok (record { interfaces = interfaces.0; tests = tests.0; commands = commands.0; states = states.0; routines = routines.0 }, routines.1)

-- Two routines and a mask.
unfoldable pub handlers_at : Cursor → Read Handlers
handlers_at p = do
  init ← number_at w16 p
  body ← number_at w16 init.1
  mask ← number_at w64 body.1
  Ok (record { init = record { 0 = init.0 }; body = record { 0 = body.0 }; mask = mask.0 }, mask.1)

-- The length of a text, from 1 to 1,024.
unfoldable pub length_at : Cursor → Read ℕ
length_at p = do
  n ← number_at w16 p
  if (n.0 == 0) || nat_lt 1024 n.0 then Err (BadText p.at) else Ok n

-- Bytes are UTF-8 without a NUL.
unfoldable pub is_text : List ℕ → Bool
is_text bytes = is_utf8 bytes && not (list_any (λ byte. byte == 0) bytes)

-- A text of `n` bytes.
unfoldable pub text_sized : ℕ → Cursor → Read (List ℕ)
text_sized n p = do
  bytes ← bytes_at n p
  if is_text bytes.0 then Ok bytes else Err (BadText p.at)

-- A length and a text of that many bytes.
unfoldable pub text_at : Cursor → Read (List ℕ)
text_at p = do
  n ← length_at p
  text_sized n.0 n.1

-- Whether a table has a name.
abbrev pub stands_in : List ℕ → List (List ℕ) → Bool
stands_in name names = list_any (λ other. bytes_eq other name) names

-- A length and a name that no earlier entry has. Its fault is at the name.
unfoldable pub name_at : List (List ℕ) → Cursor → Read (List ℕ)
name_at before p = do
  n ← length_at p
  name ← text_sized n.0 n.1
  if stands_in name.0 before then Err (RepeatedName n.1.at) else Ok name

-- A period and a command.
unfoldable pub test_at : Cursor → Read TestSpec
test_at p = do
  period ← number_within w32 1 604800 p
  text ← text_at period.1
  Ok (record { period = period.0; text = text.0 }, text.1)

-- A name and handlers.
unfoldable pub state_at : List StateSpec → Cursor → Read StateSpec
state_at before p = do
  name ← name_at (names_of before) p
  handlers ← handlers_at name.1
  Ok (record { name = name.0; handlers = handlers.0 }, handlers.1)

-- Four bytes that spell an instruction.
unfoldable pub instruction_at : Cursor → Read Op
instruction_at p = do
  bytes ← bytes_at 4 p
  op ← ok_or (op_of bytes.0) (NoInstruction p.at)
  Ok (op, bytes.1)

-- The next entries of a table, each read with the entries before it.
unfoldable pub items_at : {X : Type 0} → (List X → Cursor → Read X) → ℕ → List X → Cursor → Read (List X)
items_at entry zero before p = Ok (before, p)
items_at entry (suc n) before p = do
  x ← entry before p
  items_at entry n (before ++ x.0 ∷ []) x.1

-- A number of one byte, up to a limit.
unfoldable pub byte_within : ℕ → Cursor → Read ℕ
byte_within most p = do
  n ← byte_at p
  if nat_lt most n.0 then Err (OutOfLimit p.at) else Ok n

-- A kind of values.
unfoldable pub kind_at : Cursor → Read Kind
kind_at p = do
  code ← byte_at p
  kind ← ok_or (kind_of_code code.0) (OutOfLimit p.at)
  Ok (kind, code.1)

-- A number of kinds, at most four, and the kinds, the topmost last.
unfoldable pub kinds_at : Cursor → Read (List Kind)
kinds_at p = do
  n ← byte_within 4 p
  items_at (λ _. kind_at) n.0 [] n.1

-- A number of truths, at most one.
unfoldable pub truths_at : Cursor → Read (List Kind)
truths_at p = do
  n ← byte_within 1 p
  Ok (replicate n.0 Truth, n.1)

-- The parameters of a routine: none in version 1.
unfoldable pub params_at : ℕ → Cursor → Read (List Kind)
params_at version p = if version == 1 then Ok ([], p) else kinds_at p

-- The results of a routine: a number of truths in version 1.
unfoldable pub results_at : ℕ → Cursor → Read (List Kind)
results_at version p = if version == 1 then truths_at p else kinds_at p

-- A routine of at most `room` instructions.
unfoldable pub routine_at : ℕ → ℕ → Cursor → Read Routine
routine_at version room p = do
  params ← params_at version p
  results ← results_at version params.1
  n ← number_within w16 0 (min room 1024) results.1
  code ← items_at (λ _. instruction_at) n.0 [] n.1
  Ok (record { params = record { items = params.0 }; results = record { items = results.0 }; code = code.0 }, code.1)

-- The room that routines leave for later ones.
abbrev pub room_after : ℕ → List Routine → ℕ
room_after version before = code_limit version - instructions before

-- The next routine after earlier ones.
abbrev pub routine_after : ℕ → List Routine → Cursor → Read Routine
routine_after version before = routine_at version (room_after version before)

-- The fields before the tables.
unfoldable pub head_at : Cursor → Read Head
head_at p = do
  magic ← magic_at p
  version ← version_at magic.1
  budgets ← budgets_at version.1
  counts ← counts_at budgets.1
  initial ← number_at w16 counts.1
  always ← handlers_at initial.1
  Ok (record { version = version.0; budgets = budgets.0; counts = counts.0; initial = record { 0 = initial.0 }; always = always.0 }, always.1)

-- All fields of an image.
unfoldable pub parts_at : Cursor → Read ImageParts
parts_at p = do
  head ← head_at p
  interfaces ← items_at name_at head.0.counts.interfaces [] head.1
  tests ← items_at (λ _. test_at) head.0.counts.tests [] interfaces.1
  commands ← items_at (λ _. text_at) head.0.counts.commands [] tests.1
  states ← items_at state_at head.0.counts.states [] commands.1
  routines ← items_at (routine_after head.0.version) head.0.counts.routines [] states.1
  Ok (record { version = head.0.version; budgets = head.0.budgets; initial = head.0.initial; always = head.0.always; interfaces = interfaces.0; tests = tests.0; commands = commands.0; states = states.0; routines = routines.0 }, routines.1)

-- The image that all of the bytes spell, or the first fault.
unfoldable pub image_of : List ℕ → Result ImageParts ImageFault
image_of bytes = do
  parts ← parts_at (cursor 0 bytes)
  if length parts.1.left == 0 then Ok parts.0 else Err (Trailing parts.1.at)
