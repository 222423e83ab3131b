-- Answers: what they say about the bytes of a file.
use Rattle.std.specs.Prelude.{ℕ, ◌≡◌, ◌≢◌, ◌+◌, ◌==◌, ◌++◌, ◌⊎◌, ⊤, List, length, take, count_by}
use Rattle.std.specs.Prelude.{Option, None, Err, IsSomeAnd}
use Rattle.std.specs.Str.{IsUtf8, IsValidUpTo}
use Rattle.ifs_asm.specs.Spellings.{TextSpells}
use Rattle.ifs_asm.specs.Refused.{IsAssemblyRefused}
use Rattle.ifs_asm.specs.declared.fault.AsmFault.TheVariants.{Unknown}
use Rattle.ifs_asm.specs.Texts.{canonical}
use Rattle.ifs_gen.specs.Compiled.{Compiles, IsCompiled, IsCompileRefusal}
use Rattle.ifs_gen.specs.declared.compile_fault.CompileFault.TheVariants.{Memory}
use Rattle.ifs_image.specs.declared.parts.ImageParts.{ImageParts}
use Rattle.ifs_image.specs.Spelling.{Spells}
use Rattle.ifs_image.specs.Reading.{image_of}
use Rattle.ifs_image.specs.Upgrade.{upgraded}
use Rattle.ifs_parse.specs.Files.{File}
use Rattle.ifs_policy.specs.Texts.{HasPolicy, SaysFile, IsTextRefused}
use Rattle.ifs_policy.specs.declared.policy.PolicyParts.{PolicyParts}
use Rattle.ifs_image.specs.FaultWords.{image_fault_words}
use Rattle.ifs_verify.specs.FaultWords.{verify_fault_words}
use Rattle.ifs_verify.specs.Accepted.{IsAccepted}
use Rattle.ifs_verify.specs.Refused as verifying
use Rattle.ifs_verify.specs.declared.fault.VerifyFault.TheVariants.{OutOfMemory}
use Rattle.ifs_file_commands.specs.declared.reading.Made.{Made}
use Rattle.ifs_file_commands.specs.declared.reading.Made.TheVariants as makes
use Rattle.ifs_options.specs.declared.task.Task.{Task}
use Rattle.ifs_options.specs.declared.task.Task.TheVariants.{Check, Compile, Verify, Disasm, Asm, Upgrade, Graph}
use Rattle.ifs_file_commands.specs.Lines.{budgets_line, size_line, note_lines, counts_line, refusal_line}
use Rattle.ifs_file_commands.specs.Faults.{no_text_words}
use Rattle.ifs_policy.specs.FaultWords.{policy_fault_words}
use Rattle.ifs_gen.specs.FaultWords.{compile_fault_words}
use Rattle.ifs_asm.specs.FaultWords.{asm_fault_words}

-- Bytes spell an image that is accepted.
abbrev pub AreAccepted : List ℕ → Type 0
AreAccepted bytes = (image : ImageParts) × Spells bytes image × IsAccepted image

-- Bytes spell an image.
abbrev pub AreImage : List ℕ → Type 0
AreImage bytes = (image : ImageParts) × Spells bytes image

-- A text is the canonical one of the image that bytes spell.
abbrev pub IsListing : List ℕ → List ℕ → Type 0
IsListing bytes text = (image : ImageParts) × Spells bytes image × (text ≡ canonical image)

-- Bytes are a text that spells an image.
abbrev pub AreAssembly : List ℕ → Type 0
AreAssembly bytes = IsUtf8 bytes × ((image : ImageParts) × TextSpells bytes image)

-- Bytes spell the image that a text spells.
abbrev pub IsAssembled : List ℕ → List ℕ → Type 0
IsAssembled text bytes = (image : ImageParts) × TextSpells text image × Spells bytes image

-- Bytes spell the upgrade of the image that other bytes spell.
abbrev pub IsUpgraded : List ℕ → List ℕ → Type 0
IsUpgraded bytes file = (image : ImageParts) × Spells bytes image × Spells file (upgraded image)

-- What is made of the image that bytes spell: its canonical text and no file, or its upgrade as the file and the line of the file's length.
abbrev pub IsMade : Made → List ℕ → Option (List ℕ) → List ℕ → Type 0
IsMade makes.Listing bytes file text = IsListing bytes text × (file ≡ None)
IsMade makes.Upgrade bytes file text = IsSomeAnd file (IsUpgraded bytes) × IsSomeAnd file (λ image. text ≡ size_line (length image))

-- Bytes are a text that has a policy under these definitions.
abbrev pub ArePolicy : List ℕ → List (List ℕ × List ℕ) → Type 0
ArePolicy bytes defs = IsUtf8 bytes × ((policy : PolicyParts) × HasPolicy bytes defs policy)

-- Bytes are a text that has a policy whose code keeps the limits of images.
abbrev pub AreCompiled : List ℕ → List (List ℕ × List ℕ) → Type 0
AreCompiled bytes defs = IsUtf8 bytes × Compiles bytes defs

-- Bytes are valid for a task with these definitions.
abbrev pub AreGood : Task → List ℕ → List (List ℕ × List ℕ) → Type 0
AreGood Check bytes defs = ArePolicy bytes defs
AreGood Compile bytes defs = AreCompiled bytes defs
AreGood Verify bytes defs = AreAccepted bytes
AreGood Disasm bytes defs = AreImage bytes
AreGood Asm bytes defs = AreAssembly bytes
AreGood Upgrade bytes defs = AreImage bytes
AreGood Graph bytes defs = ArePolicy bytes defs

-- A text is the line of the budgets of the image that bytes spell.
abbrev pub TellsBudgets : List ℕ → List ℕ → Type 0
TellsBudgets bytes text = (image : ImageParts) × Spells bytes image × (text ≡ budgets_line image.budgets)

-- A text is the lines of the notes on a policy, and then the line of the numbers of its names and texts.
pub record TellsPolicy (bytes : List ℕ) (defs : List (List ℕ × List ℕ)) (text : List ℕ) : Type 0 where
  pub said : File
  pub policy : PolicyParts
  pub says : SaysFile bytes defs said
  pub has : HasPolicy bytes defs policy
  pub printed : text ≡ note_lines said.notes ++ counts_line policy.tables

-- A text is the lines of the notes on a policy, and then the line of a file of this size in bytes.
pub record TellsCompiled (bytes : List ℕ) (defs : List (List ℕ × List ℕ)) (text : List ℕ) (size : ℕ) : Type 0 where
  pub said : File
  pub says : SaysFile bytes defs said
  pub printed : text ≡ note_lines said.notes ++ size_line size

-- The text for valid bytes, with the file beside it: what the bytes contain, or the length of the file. A picture may be any text.
abbrev pub IsPrinted : Task → List ℕ → List (List ℕ × List ℕ) → Option (List ℕ) → List ℕ → Type 0
IsPrinted Check bytes defs file text = TellsPolicy bytes defs text
IsPrinted Compile bytes defs file text = IsSomeAnd file (λ image. TellsCompiled bytes defs text (length image))
IsPrinted Verify bytes defs file text = TellsBudgets bytes text
IsPrinted Disasm bytes defs file text = IsListing bytes text
IsPrinted Asm bytes defs file text = IsSomeAnd file (λ image. text ≡ size_line (length image))
IsPrinted Upgrade bytes defs file text = IsSomeAnd file (λ image. text ≡ size_line (length image))
IsPrinted Graph bytes defs file text = ⊤

-- A text is the line of a refusal: the words of a fault that holds.
pub record Tells {Fault : Type 0} (words : Fault → List ℕ) (Holds : Fault → Type 0) (text : List ℕ) : Type 0 where
  pub fault : Fault
  pub holds : Holds fault
  pub printed : text ≡ refusal_line (words fault)

-- The first byte that is not UTF-8 is on this line, counted from 1.
abbrev pub IsNoText : List ℕ → ℕ → Type 0
IsNoText bytes line = (n : ℕ) × IsValidUpTo bytes n × (line ≡ 1 + count_by (λ byte. byte == 10) (take n bytes))

-- A text is the refusal of a line with a byte that is not UTF-8, in a policy.
abbrev pub TellsNoText : List ℕ → List ℕ → Type 0
TellsNoText bytes text = Tells no_text_words (IsNoText bytes) text

-- A text is the refusal of a line with a byte that is not UTF-8, in assembly text.
abbrev pub TellsNoLine : List ℕ → List ℕ → Type 0
TellsNoLine bytes text = Tells (λ line. asm_fault_words (Unknown line)) (IsNoText bytes) text

-- The text for invalid bytes: the words of a fault that they have.
abbrev pub IsRefusedBy : Task → List ℕ → List (List ℕ × List ℕ) → List ℕ → Type 0
IsRefusedBy Check bytes defs text = TellsNoText bytes text ⊎ Tells policy_fault_words (IsTextRefused bytes defs) text
IsRefusedBy Compile bytes defs text = TellsNoText bytes text ⊎ Tells compile_fault_words (λ fault. (fault ≢ Memory) × IsCompileRefusal bytes defs fault) text
IsRefusedBy Verify bytes defs text = Tells verify_fault_words (λ fault. (fault ≢ OutOfMemory) × verifying.IsRefusal bytes fault) text
IsRefusedBy Disasm bytes defs text = Tells image_fault_words (λ fault. image_of bytes ≡ Err fault) text
IsRefusedBy Asm bytes defs text = TellsNoLine bytes text ⊎ Tells asm_fault_words (IsAssemblyRefused bytes) text
IsRefusedBy Upgrade bytes defs text = Tells image_fault_words (λ fault. image_of bytes ≡ Err fault) text
IsRefusedBy Graph bytes defs text = TellsNoText bytes text ⊎ Tells policy_fault_words (IsTextRefused bytes defs) text

-- The file for valid bytes: the image that means a compiled policy, the image that assembly text spells, or the upgrade of an image. The other tasks have none.
abbrev pub IsGiven : Task → List ℕ → List (List ℕ × List ℕ) → Option (List ℕ) → Type 0
IsGiven Check bytes defs file = file ≡ None
IsGiven Compile bytes defs file = IsSomeAnd file (IsCompiled bytes defs)
IsGiven Verify bytes defs file = file ≡ None
IsGiven Disasm bytes defs file = file ≡ None
IsGiven Asm bytes defs file = IsSomeAnd file (IsAssembled bytes)
IsGiven Upgrade bytes defs file = IsSomeAnd file (IsUpgraded bytes)
IsGiven Graph bytes defs file = file ≡ None
