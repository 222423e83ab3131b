-- Which line words say: the first word and the number of words decide.
use Rattle.std.specs.Prelude.{ℕ, ◌+◌, ◌==◌, ◌&&◌, nat_lt, if◌then◌else◌, Bool, List, [], ◌∷◌}
use Rattle.std.specs.Prelude.{codes, length, Option, Some, None, option_and_then, option_map}
use Rattle.std.specs.List.{slice_split}
use Rattle.std.specs.Str.{bytes_eq}
use Rattle.ifs_base.specs.Numbers.{number_of}
use Rattle.ifs_base.specs.declared.op.Kind.{Kind}
use Rattle.ifs_base.specs.declared.op.LinkState.{LinkState}
use Rattle.ifs_base.specs.declared.op.LinkState.TheVariants.{Unknown, Down, Up}
use Rattle.ifs_base.specs.declared.op.Op.{Op}
use Rattle.ifs_base.specs.declared.op.Op.TheVariants.{Ret, Yes, No, Link, Test, Known, Negate, Both}
use Rattle.ifs_base.specs.declared.op.Op.TheVariants.{Either, PushCommand, PushState, Queue, Want}
use Rattle.ifs_base.specs.declared.op.Op.TheVariants.{Jump, JumpFalse, JumpTrue, Call, Pop, Dup}
use Rattle.ifs_image.specs.declared.parts.Handlers.{Handlers}
use Rattle.ifs_asm.specs.declared.line.Version.TheVariants.{One, Two}
use Rattle.ifs_asm.specs.declared.line.Head.TheVariants.{Plain, Signature}
use Rattle.ifs_asm.specs.declared.line.Line.{Line}
use Rattle.ifs_asm.specs.declared.line.Line.TheVariants as lines
use Rattle.ifs_asm.specs.declared.forms.Field.{Field}
use Rattle.ifs_asm.specs.declared.forms.Field.TheVariants.{Stack, Frames, Cost, Commands, Start}
use Rattle.ifs_asm.specs.declared.forms.Formed.{Formed}
use Rattle.ifs_asm.specs.declared.forms.Bounded.{Bounded}
use Rattle.ifs_asm.specs.declared.forms.SizedText.{SizedText}
use Rattle.ifs_asm.specs.declared.forms.HandlersForm.{HandlersForm}
use Rattle.ifs_asm.specs.declared.lists.ListForm.{ListForm}
use Rattle.ifs_asm.specs.declared.kinds.KindsForm.{KindsForm}
use Rattle.ifs_asm.specs.declared.lists.ListForm.TheVariants.{Mask, OutOfRange}
use Rattle.ifs_asm.specs.inner.Words.{text_in, mask_in, masked, kinds_in, kinds_from}

-- An instruction without operand.
abbrev pub plain_op : List ℕ → Option Op
plain_op name =
    if bytes_eq name (codes "ret") then Some Ret else
    if bytes_eq name (codes "true") then Some Yes else
    if bytes_eq name (codes "false") then Some No else
    if bytes_eq name (codes "not") then Some Negate else
    if bytes_eq name (codes "and") then Some Both else
    if bytes_eq name (codes "or") then Some Either else
    if bytes_eq name (codes "queue") then Some Queue else
    if bytes_eq name (codes "want") then Some Want else
    if bytes_eq name (codes "pop") then Some Pop else
    if bytes_eq name (codes "dup") then Some Dup else None

-- An instruction with an operand.
abbrev pub indexed_op : List ℕ → ℕ → Option Op
indexed_op name n =
    if bytes_eq name (codes "test") then Some (Test (record { 0 = n })) else
    if bytes_eq name (codes "known") then Some (Known (record { 0 = n })) else
    if bytes_eq name (codes "cmd") then Some (PushCommand (record { 0 = n })) else
    if bytes_eq name (codes "state") then Some (PushState (record { 0 = n })) else
    if bytes_eq name (codes "jump") then Some (Jump n) else
    if bytes_eq name (codes "jf") then Some (JumpFalse n) else
    if bytes_eq name (codes "jt") then Some (JumpTrue n) else
    if bytes_eq name (codes "call") then Some (Call (record { 0 = n })) else None

-- The link state that a word names.
abbrev pub link_state_in : List ℕ → Option LinkState
link_state_in word =
    if bytes_eq word (codes "unknown") then Some Unknown else
    if bytes_eq word (codes "down") then Some Down else
    if bytes_eq word (codes "up") then Some Up else None

-- A number, if it is at most a limit.
abbrev pub up_to : ℕ → ℕ → Option ℕ
up_to most n = if nat_lt most n then None else Some n

-- The number that a word spells, if it is at most a limit.
abbrev pub number_up_to : ℕ → List ℕ → Option ℕ
number_up_to most word = option_and_then (up_to most) (number_of word)

-- A text, if it has 1 to 1,024 bytes.
abbrev pub text_within : List ℕ → Option (List ℕ)
text_within text = if nat_lt 0 (length text) && nat_lt (length text) 1025 then Some text else None

-- The text that a word quotes, if it has 1 to 1,024 bytes.
abbrev pub sized_text : List ℕ → Option (List ℕ)
sized_text word = option_and_then text_within (text_in word)

-- A number, if it is a period.
abbrev pub period_within : ℕ → Option ℕ
period_within n = if nat_lt 0 n && nat_lt n 604801 then Some n else None

-- The period that a word spells.
abbrev pub period_in : List ℕ → Option ℕ
period_in word = option_and_then period_within (number_of word)

-- The line of the version. Each version has one spelling.
abbrev pub version : List ℕ → Option Line
version word =
    if bytes_eq word (codes "1") then Some (lines.Version One) else
    if bytes_eq word (codes "2") then Some (lines.Version Two) else None

-- The line of an instruction with an operand.
abbrev pub indexed_line : List ℕ → List ℕ → Option Line
indexed_line name word = option_and_then (λ n. option_map lines.Instruction (indexed_op name n)) (number_up_to 65535 word)

-- The field that a name begins the line of.
abbrev pub field_in : List ℕ → Option Field
field_in name =
    if bytes_eq name (codes "stack") then Some Stack else
    if bytes_eq name (codes "frames") then Some Frames else
    if bytes_eq name (codes "cost") then Some Cost else
    if bytes_eq name (codes "commands") then Some Commands else
    if bytes_eq name (codes "start") then Some Start else None

-- The greatest number of a field.
abbrev pub most_of : Field → ℕ
most_of Stack = 32
most_of Frames = 32
most_of Cost = 300000
most_of Commands = 64
most_of Start = 65535

-- The line of a field with a number.
abbrev pub field_line : Field → ℕ → Line
field_line Stack n = lines.Stack n
field_line Frames n = lines.Frames n
field_line Cost n = lines.Cost n
field_line Commands n = lines.Commands n
field_line Start n = lines.Start (record { 0 = n })

-- A line of a name and a number, given the field of the name.
abbrev pub numbered_line : Option Field → List ℕ → List ℕ → Option Line
numbered_line None name word = indexed_line name word
numbered_line (Some field) name word = option_map (field_line field) (number_up_to (most_of field) word)

-- A line of a name and a number.
abbrev pub number_line : List ℕ → List ℕ → Option Line
number_line name word = numbered_line (field_in name) name word

-- A line of a name and a word.
abbrev pub two_words : List ℕ → List ℕ → Option Line
two_words name word =
    if bytes_eq name (codes "ifsv") then version word else
    if bytes_eq name (codes "iface") then option_map lines.Interface (sized_text word) else
    if bytes_eq name (codes "command") then option_map lines.Command (sized_text word) else
    number_line name word

-- The line that begins a routine in version 1.
abbrev pub routine_line : List ℕ → List ℕ → Option Line
routine_line word number = if bytes_eq word (codes "results") then option_map (λ n. lines.Routine (Plain (n == 1))) (number_up_to 1 number) else None

-- The same in version 2, given two lists of kinds.
abbrev pub signed_line : List ℕ → List ℕ → Option Line
signed_line params results =
    option_and_then (λ p. option_map (λ r. lines.Routine (Signature (record { items = p }) (record { items = r }))) (kinds_in results)) (kinds_in params)

-- The words after `routine` in version 2.
abbrev pub signature_line : List (List ℕ) → Option Line
signature_line (a ∷ params ∷ b ∷ results ∷ []) = if bytes_eq a (codes "params") && bytes_eq b (codes "results") then signed_line params results else None
signature_line words = None

-- The line of the instruction on a link.
abbrev pub link_line : List ℕ → List ℕ → Option Line
link_line number state = option_and_then (λ n. option_map (λ s. lines.Instruction (Link (record { 0 = n }) s)) (link_state_in state)) (number_up_to 65535 number)

-- The line of an external test.
abbrev pub test_line : List ℕ → List ℕ → Option Line
test_line number text = option_and_then (λ n. option_map (λ t. lines.Test (record { period = n; text = t })) (sized_text text)) (period_in number)

-- A line of a name and two words.
abbrev pub three_words : List ℕ → List ℕ → List ℕ → Option Line
three_words name first second =
    if bytes_eq name (codes "routine") then routine_line first second else
    if bytes_eq name (codes "link") then link_line first second else
    if bytes_eq name (codes "test") then test_line first second else None

-- Handlers, from two numbers and a list.
abbrev pub numbered_handlers : List ℕ → List ℕ → List ℕ → Option Handlers
numbered_handlers init body tests =
    option_and_then (λ i. option_and_then (λ b. option_map (λ m. record { init = record { 0 = i }; body = record { 0 = b }; mask = m }) (mask_in tests)) (number_up_to 65535 body)) (number_up_to 65535 init)

-- Handlers, from their words.
abbrev pub handlers_in : List (List ℕ) → Option Handlers
handlers_in (a ∷ init ∷ b ∷ body ∷ c ∷ tests ∷ []) =
    if bytes_eq a (codes "init") && (bytes_eq b (codes "body") && bytes_eq c (codes "tests")) then numbered_handlers init body tests else None
handlers_in words = None

-- The words after `state`.
abbrev pub state_line : List (List ℕ) → Option Line
state_line [] = None
state_line (text ∷ words) = option_and_then (λ h. option_map (λ t. lines.State (record { name = t; handlers = h })) (sized_text text)) (handlers_in words)

-- A line of a name and more than two words.
abbrev pub long_line : List ℕ → List (List ℕ) → Option Line
long_line name words =
    if bytes_eq name (codes "routine") then signature_line words else
    if bytes_eq name (codes "always") then option_map lines.Always (handlers_in words) else
    if bytes_eq name (codes "state") then state_line words else None

-- The line that words say; none if they have no form, or if a number or a text is out of its range.
abbrev pub line_of : List (List ℕ) → Option Line
line_of [] = None
line_of (name ∷ []) = option_map lines.Instruction (plain_op name)
line_of (name ∷ word ∷ []) = two_words name word
line_of (name ∷ first ∷ second ∷ []) = three_words name first second
line_of (name ∷ words) = long_line name words

-- What a form gives if its numbers and texts are in range: its line, its number, its text, its handlers or its kinds.
abbrev fitting : {F A : Type 0} → (F → Bool) → (F → A) → Option F → Option A
fitting fits value None = None
fitting fits value (Some form) = if fits form then Some (value form) else None

abbrev pub formed : Option Formed → Option Line
formed form = fitting (λ f. f.fits) (λ f. f.line) form

abbrev pub bounded : Option Bounded → Option ℕ
bounded form = fitting (λ f. f.fits) (λ f. f.value) form

abbrev pub sized_by : Option SizedText → Option (List ℕ)
sized_by form = fitting (λ f. f.fits) (λ f. f.text) form

abbrev pub handlers_by : Option HandlersForm → Option Handlers
handlers_by form = fitting (λ f. f.fits) (λ f. f.handlers) form

abbrev pub kinds_by : Option KindsForm → Option (List Kind)
kinds_by form = fitting (λ f. f.fits) (λ f. f.kinds.items) form

-- The kinds after the parts that are left.
abbrev pub kinds_on : Option (List Kind) → List (List ℕ) → Option (List Kind)
kinds_on None parts = None
kinds_on (Some kinds) parts = kinds_from kinds parts

abbrev pub mask_by : ListForm → Option ℕ
mask_by (Mask mask) = Some mask
mask_by OutOfRange = None

abbrev pub listed_by : Option ListForm → Option ℕ
listed_by None = None
listed_by (Some list) = mask_by list

-- The parts of a list that are left.
abbrev pub parts_left : Option (List ℕ) → List (List ℕ)
parts_left None = []
parts_left (Some text) = slice_split (λ byte. byte == 44) text

-- The mask after the parts that are left.
abbrev pub masked_on : Option ℕ → List (List ℕ) → Option ℕ
masked_on None parts = None
masked_on (Some mask) parts = masked mask parts

-- The size of what is left of a list: one more than its bytes, or 0 if no part is left.
abbrev pub len_left : Option (List ℕ) → ℕ
len_left None = 0
len_left (Some text) = length text + 1
