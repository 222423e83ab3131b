-- The text of an image: its lines in their order, and the words of each.
use Rattle.std.specs.Prelude.{ℕ, zero, suc, ◌+◌, ◌==◌, if◌then◌else◌, Bool, true, false, List, [], ◌∷◌, ◌++◌, map, codes, decimal}
use Rattle.std.specs.List.{flat_map}
use Rattle.std.specs.Int.{bit_at}
use Rattle.ifs_base.specs.Words.{link_word, quoted, listed}
use Rattle.ifs_base.specs.declared.op.Kind.{Kind}
use Rattle.ifs_base.specs.declared.op.Kind.TheVariants as kinds
use Rattle.ifs_base.specs.declared.op.Op.{Op}
use Rattle.ifs_base.specs.declared.op.Op.TheVariants.{Ret, Yes, No, Link, Test, Known, Negate, Both}
use Rattle.ifs_base.specs.declared.op.Op.TheVariants.{Either, PushCommand, PushState, Queue, Want}
use Rattle.ifs_base.specs.declared.op.Op.TheVariants.{Jump, JumpFalse, JumpTrue, Call, Pop, Dup}
use Rattle.ifs_image.specs.declared.parts.Handlers.{Handlers}
use Rattle.ifs_image.specs.declared.parts.Routine.{Routine}
use Rattle.ifs_image.specs.declared.parts.ImageParts.{ImageParts}
use Rattle.ifs_asm.specs.declared.line.Version.{Version}
use Rattle.ifs_asm.specs.declared.line.Version.TheVariants.{One, Two}
use Rattle.ifs_asm.specs.declared.line.Head.{Head}
use Rattle.ifs_asm.specs.declared.line.Head.TheVariants.{Plain, Signature}
use Rattle.ifs_asm.specs.declared.line.Line.{Line}
use Rattle.ifs_asm.specs.declared.line.Line.TheVariants as lines

-- The tests of a mask among the first n from test t on, ascending. A mask has test t if its bit of weight 2 ^ t is set.
unfoldable pub tests_from : ℕ → ℕ → ℕ → List ℕ
tests_from zero t mask = []
tests_from (suc n) t mask = if bit_at mask t == 1 then t ∷ tests_from n (t + 1) mask else tests_from n (t + 1) mask

-- The tests of a mask, ascending.
unfoldable pub tests_of : ℕ → List ℕ
tests_of mask = tests_from 64 0 mask

-- A word of a line: a fixed word, a number, a quoted text, or the tests of a mask.
pub data Word : Type 0 where
  Key : (text : List ℕ) → Word
  Number : (n : ℕ) → Word
  Quoted : (text : List ℕ) → Word
  Tests : (mask : ℕ) → Word

-- A word as it is written: a number in decimal digits, tests with commas between them.
abbrev pub written : Word → List ℕ
written (Key text) = text
written (Number n) = decimal n
written (Quoted text) = quoted text
written (Tests mask) = listed (map decimal (tests_of mask))

-- The words of an instruction: its name, and its operands if it has any.
abbrev pub op_words : Op → List Word
op_words Ret = Key (codes "ret") ∷ []
op_words Yes = Key (codes "true") ∷ []
op_words No = Key (codes "false") ∷ []
op_words (Link n s) = Key (codes "link") ∷ Number n.0 ∷ Key (link_word s) ∷ []
op_words (Test n) = Key (codes "test") ∷ Number n.0 ∷ []
op_words (Known n) = Key (codes "known") ∷ Number n.0 ∷ []
op_words Negate = Key (codes "not") ∷ []
op_words Both = Key (codes "and") ∷ []
op_words Either = Key (codes "or") ∷ []
op_words (PushCommand n) = Key (codes "cmd") ∷ Number n.0 ∷ []
op_words (PushState n) = Key (codes "state") ∷ Number n.0 ∷ []
op_words Queue = Key (codes "queue") ∷ []
op_words Want = Key (codes "want") ∷ []
op_words (Jump n) = Key (codes "jump") ∷ Number n ∷ []
op_words (JumpFalse n) = Key (codes "jf") ∷ Number n ∷ []
op_words (JumpTrue n) = Key (codes "jt") ∷ Number n ∷ []
op_words (Call n) = Key (codes "call") ∷ Number n.0 ∷ []
op_words Pop = Key (codes "pop") ∷ []
op_words Dup = Key (codes "dup") ∷ []

-- The words of handlers: their routines, and the tests of their mask.
abbrev pub handlers_words : Handlers → List Word
handlers_words h =
    Key (codes "init") ∷ Number h.init.0 ∷ Key (codes "body") ∷ Number h.body.0 ∷ Key (codes "tests") ∷ Tests h.mask ∷ []

-- The word of a version.
abbrev pub version_word : Version → List ℕ
version_word One = codes "1"
version_word Two = codes "2"

-- The word of a kind of values.
abbrev pub kind_word : Kind → List ℕ
kind_word kinds.Truth = codes "truth"
kind_word kinds.Command = codes "command"
kind_word kinds.StateName = codes "state"

-- Kinds with commas between them, the topmost last, or a dash if there is none.
abbrev pub kinds_word : List Kind → List ℕ
kinds_word list = listed (map kind_word list)

-- The number of truths that a routine of version 1 leaves.
abbrev pub truths : Bool → ℕ
truths true = 1
truths false = 0

-- The words after the first word of a line that begins a routine.
abbrev pub head_words : Head → List Word
head_words (Plain truth) = Key (codes "results") ∷ Number (truths truth) ∷ []
head_words (Signature params results) =
    Key (codes "params") ∷ Key (kinds_word params.items) ∷ Key (codes "results") ∷ Key (kinds_word results.items) ∷ []

-- The words of a line.
abbrev pub words_of : Line → List Word
words_of (lines.Version version) = Key (codes "ifsv") ∷ Key (version_word version) ∷ []
words_of (lines.Stack n) = Key (codes "stack") ∷ Number n ∷ []
words_of (lines.Frames n) = Key (codes "frames") ∷ Number n ∷ []
words_of (lines.Cost n) = Key (codes "cost") ∷ Number n ∷ []
words_of (lines.Commands n) = Key (codes "commands") ∷ Number n ∷ []
words_of (lines.Start n) = Key (codes "start") ∷ Number n.0 ∷ []
words_of (lines.Always h) = Key (codes "always") ∷ handlers_words h
words_of (lines.Interface name) = Key (codes "iface") ∷ Quoted name ∷ []
words_of (lines.Test t) = Key (codes "test") ∷ Number t.period ∷ Quoted t.text ∷ []
words_of (lines.Command text) = Key (codes "command") ∷ Quoted text ∷ []
words_of (lines.State s) = Key (codes "state") ∷ Quoted s.name ∷ handlers_words s.handlers
words_of (lines.Routine head) = Key (codes "routine") ∷ head_words head
words_of (lines.Instruction op) = op_words op

-- Words with a space between them.
abbrev pub spaced : List (List ℕ) → List ℕ
spaced [] = []
spaced (word ∷ words) = word ++ flat_map (λ other. codes " " ++ other) words

-- The text of a line with its newline.
abbrev pub line_text : Line → List ℕ
line_text line = spaced (map written (words_of line)) ++ codes "\n"

-- The number of a version.
abbrev pub version_number : Version → ℕ
version_number One = 1
version_number Two = 2

-- The version with a number.
abbrev pub version_in : ℕ → Version
version_in n = if n == 1 then One else Two

-- Whether there is a kind.
abbrev pub is_some_kind : List Kind → Bool
is_some_kind [] = false
is_some_kind (kind ∷ more) = true

-- How a routine that takes and leaves these kinds begins in a version.
abbrev pub head_with : Version → List Kind → List Kind → Head
head_with One params results = Plain (is_some_kind results)
head_with Two params results = Signature (record { items = params }) (record { items = results })

-- How a routine begins.
abbrev pub head_of : Version → Routine → Head
head_of version r = head_with version r.params.items r.results.items

-- The lines of a routine.
abbrev pub routine_lines : Version → Routine → List Line
routine_lines version r = lines.Routine (head_of version r) ∷ map lines.Instruction r.code

-- The lines before the tables.
abbrev pub front_lines : ImageParts → List Line
front_lines p =
    lines.Version (version_in p.version) ∷ lines.Stack p.budgets.stack ∷ lines.Frames p.budgets.frames ∷ lines.Cost p.budgets.cost
    ∷ lines.Commands p.budgets.commands ∷ lines.Start p.initial ∷ lines.Always p.always ∷ []

-- The lines of an image, in their order.
abbrev pub lines_of : ImageParts → List Line
lines_of p =
    front_lines p ++ map lines.Interface p.interfaces ++ map lines.Test p.tests ++ map lines.Command p.commands
    ++ map lines.State p.states ++ flat_map (routine_lines (version_in p.version)) p.routines

-- The canonical text of an image, which `disassemble` writes.
unfoldable pub canonical : ImageParts → List ℕ
canonical p = flat_map line_text (lines_of p)
