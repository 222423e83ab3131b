-- Refusals: which line of a text a fault names, and what the fault says of it.
use Rattle.std.specs.Prelude.{ℕ, ◌≡◌, ◌+◌, ◌<◌, ◌≤◌, ◌^◌, ◌==◌, ◌⊎◌, not, List}
use Rattle.std.specs.Prelude.{[], ◌∷◌, ◌++◌, length, map, filter, IsUtf8}
use Rattle.std.specs.List.{flat_map, slice_split, AllZip}
use Rattle.ifs_base.specs.Sizes.{TextFits, PeriodFits}
use Rattle.ifs_base.specs.Spelling.{HasSpelling}
use Rattle.ifs_base.specs.declared.op.Op.{Op}
use Rattle.ifs_image.specs.declared.parts.Handlers.{Handlers}
use Rattle.ifs_image.specs.declared.parts.Routine.{Routine}
use Rattle.ifs_image.specs.declared.parts.ImageParts.{ImageParts}
use Rattle.ifs_image.specs.Limits.{Fits, InRange, HandlersInRange, instructions, code_limit}
use Rattle.ifs_asm.specs.declared.fault.AsmFault.{AsmFault}
use Rattle.ifs_asm.specs.declared.fault.AsmFault.TheVariants.{Unknown, OutOfRange, OutOfOrder, Memory}
use Rattle.ifs_asm.specs.declared.line.Version.{Version}
use Rattle.ifs_asm.specs.declared.line.Version.TheVariants.{One, Two}
use Rattle.ifs_asm.specs.declared.line.Head.{Head}
use Rattle.ifs_asm.specs.declared.line.Head.TheVariants.{Plain, Signature}
use Rattle.ifs_asm.specs.declared.line.Line.{Line}
use Rattle.ifs_asm.specs.declared.line.Line.TheVariants as lines
use Rattle.ifs_asm.specs.Texts.{version_number, routine_lines, lines_of}
use Rattle.ifs_asm.specs.Spellings.{SaysLine, TextSpells, is_silent}

-- Lines without the last one if that is empty.
abbrev pub without_empty_last : List (List ℕ) → List (List ℕ)
without_empty_last [] = []
without_empty_last ([] ∷ []) = []
without_empty_last ([] ∷ (other ∷ others)) = [] ∷ without_empty_last (other ∷ others)
without_empty_last ((byte ∷ bytes) ∷ others) = (byte ∷ bytes) ∷ without_empty_last others

-- The lines of a text. Newlines end them; the rest after the last newline is a line unless it is empty.
unfoldable pub text_lines : List ℕ → List (List ℕ)
text_lines text = without_empty_last (slice_split (λ byte. byte == 10) text)

-- The lines that are neither empty nor comments.
abbrev pub speaking : List (List ℕ) → List (List ℕ)
speaking lines = filter (λ bytes. not (is_silent bytes)) lines

-- An image within its limits begins with these lines.
pub record Begin (said : List Line) : Type 0 where
  pub image : ImageParts
  pub fits : Fits image
  pub in_range : InRange image
  pub others : List Line
  pub whole : lines_of image ≡ said ++ others

-- Lines are the first lines of an image, so a text that begins with them can spell one.
pub record LinesGoOn (lines : List (List ℕ)) : Type 0 where
  pub said : List Line
  pub says : AllZip SaysLine (speaking lines) said
  pub begin : Begin said

-- A text of 1 to 1,024 bytes without a NUL, in UTF-8.
pub record TextGood (text : List ℕ) : Type 0 where
  pub fits : TextFits text
  pub utf8 : IsUtf8 text

-- A routine takes and leaves at most four kinds.
abbrev pub HeadFits : Head → Type 0
HeadFits (Plain truth) = Unit {0}
HeadFits (Signature params results) = (length params.items ≤ 4) × (length results.items ≤ 4)

-- The numbers, the list and the texts of a line are in their ranges.
abbrev pub LineFits : Line → Type 0
LineFits (lines.Version version) = Unit {0}
LineFits (lines.Stack n) = n ≤ 32
LineFits (lines.Frames n) = n ≤ 32
LineFits (lines.Cost n) = n ≤ 300000
LineFits (lines.Commands n) = n ≤ 64
LineFits (lines.Start n) = n.0 < 2 ^ 16
LineFits (lines.Always h) = HandlersInRange h
LineFits (lines.Interface name) = TextGood name
LineFits (lines.Test t) = PeriodFits t.period × TextGood t.text
LineFits (lines.Command text) = TextGood text
LineFits (lines.State s) = TextGood s.name × HandlersInRange s.handlers
LineFits (lines.Routine head) = HeadFits head
LineFits (lines.Instruction op) = HasSpelling op

-- Each line that bytes say within its ranges breaks a rule.
abbrev pub EachBreaks : (Line → Type 0) → List ℕ → Type 0
EachBreaks Breaks bytes = (line : Line) → SaysLine bytes line → LineFits line → Breaks line

-- A line is one of these.
pub record IsAmong (said : List Line) (line : Line) : Type 0 where
  pub before : List Line
  pub after : List Line
  pub whole : said ≡ before ++ line ∷ after

-- A routine begins in the form of the other version.
abbrev pub IsOfOther : Version → Head → Type 0
IsOfOther One (Signature params results) = Unit {0}
IsOfOther Two (Plain truth) = Unit {0}
IsOfOther _ _ = ⊥

-- A line has no form: it repeats the name of an interface or a state, or begins a routine in the form of the other version.
abbrev pub HasNoForm : List Line → Line → Type 0
HasNoForm said (lines.Interface name) = IsAmong said (lines.Interface name)
HasNoForm said (lines.State s) = (handlers : Handlers) × IsAmong said (lines.State (record { name = s.name; handlers = handlers }))
HasNoForm said (lines.Routine head) = (version : Version) × IsAmong said (lines.Version version) × IsOfOther version head
HasNoForm said _ = ⊥

-- At least this many lines of one kind follow each other.
pub record HasMany {X : Type 0} (line : X → Line) (many : ℕ) (said : List Line) : Type 0 where
  pub before : List Line
  pub entries : List X
  pub after : List Line
  pub whole : said ≡ before ++ (map line entries ++ after)
  pub enough : many ≤ length entries

-- Lines end with the routines of a version, which have a property.
pub record EndsWith (version : Version) (Enough : List Routine → Type 0) (said : List Line) : Type 0 where
  pub before : List Line
  pub routines : List Routine
  pub whole : said ≡ before ++ flat_map (routine_lines version) routines
  pub enough : Enough routines

-- The same for the version that the lines state.
abbrev pub HasRoutines : (Version → List Routine → Type 0) → List Line → Type 0
HasRoutines Enough said = (version : Version) × IsAmong said (lines.Version version) × EndsWith version (Enough version) said

-- The last routine has 1,024 instructions or more.
pub record IsLong (said : List Line) : Type 0 where
  pub before : List Line
  pub code : List Op
  pub whole : said ≡ before ++ map lines.Instruction code
  pub enough : 1024 ≤ length code

-- There is no room for a line: its table is full, or its routine, or the image has all its instructions.
abbrev pub IsOver : List Line → Line → Type 0
IsOver said (lines.Interface name) = HasMany lines.Interface 64 said
IsOver said (lines.Test test) = HasMany lines.Test 64 said
IsOver said (lines.Command text) = HasMany lines.Command 1024 said
IsOver said (lines.State s) = HasMany lines.State 256 said
IsOver said (lines.Routine head) = HasRoutines (λ version routines. 1024 ≤ length routines) said
IsOver said (lines.Instruction op) = IsLong said ⊎ HasRoutines (λ version routines. code_limit (version_number version) ≤ instructions routines) said
IsOver said _ = ⊥

-- A line has a form, but there is no room for it.
abbrev pub IsOneTooMany : List Line → Line → Type 0
IsOneTooMany said line = IsOver said line × (HasNoForm said line → ⊥)

-- Bytes say a line that is in its ranges, has a form and has room. Only its place is wrong.
pub record IsOutOfPlace (said : List Line) (bytes : List ℕ) : Type 0 where
  pub line : Line
  pub says : SaysLine bytes line
  pub fits : LineFits line
  pub new : HasNoForm said line → ⊥
  pub room : IsOver said line → ⊥

-- This line of a text is the first after which no image can follow, counted from 1. A fault holds of it and of the lines before.
pub record StopsAtLine (text : List ℕ) (number : ℕ) (Fault : List Line → List ℕ → Type 0) : Type 0 where
  pub before : List (List ℕ)
  pub line : List ℕ
  pub after : List (List ℕ)
  pub whole : text_lines text ≡ before ++ line ∷ after
  pub number_is : number ≡ length before + 1
  pub go_on : LinesGoOn before
  pub stop : LinesGoOn (before ++ line ∷ []) → ⊥
  pub fault : Fault go_on.said line

-- All lines of a text are first lines of an image, but a part is missing after them. The number is one more than theirs.
pub record EndsEarly (text : List ℕ) (number : ℕ) : Type 0 where
  pub go_on : LinesGoOn (text_lines text)
  pub missing : (image : ImageParts) → TextSpells text image → ⊥
  pub number_is : number ≡ length (text_lines text) + 1

-- What a fault says of a text. Unknown: what its line says within its ranges, if anything, has no form. Out of range: that has a
-- form, but there is no room for it. Out of order: the line says something within its ranges that has a form, has room and cannot
-- follow; or a part is missing at the end. A failed allocation says nothing of a line.
abbrev pub IsAssemblyRefused : List ℕ → AsmFault → Type 0
IsAssemblyRefused text (Unknown line) = StopsAtLine text line (λ said bytes. EachBreaks (HasNoForm said) bytes)
IsAssemblyRefused text (OutOfRange line) = StopsAtLine text line (λ said bytes. EachBreaks (IsOneTooMany said) bytes)
IsAssemblyRefused text (OutOfOrder line) = StopsAtLine text line IsOutOfPlace ⊎ EndsEarly text line
IsAssemblyRefused text Memory = ⊥
