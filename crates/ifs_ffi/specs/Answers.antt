-- Answers of the library: the answer of a word to an input.
use Rattle.std.specs.Prelude.{ℕ, ◌≡◌, List, [], Option, Some, None}
use Rattle.ifs_file_commands.specs.Answers.{AreGood, IsPrinted, IsGiven, IsRefusedBy}
use Rattle.ifs_options.specs.declared.task.Task.{Task}
use Rattle.ifs_ffi.specs.Definitions.{Gives}
use Rattle.ifs_ffi.specs.Words.{number_of}

-- The bytes of a file. There are none without a file.
abbrev pub bytes_of : Option (List ℕ) → List ℕ
bytes_of None = []
bytes_of (Some bytes) = bytes

-- The input is valid for the word, and the text and the file are what the word gives.
pub record IsAnswered (word : ℕ) (input definitions text file : List ℕ) : Type 0 where
  pub task : Task
  pub defs : List (List ℕ × List ℕ)
  pub made : Option (List ℕ)
  pub word_is : number_of task ≡ word
  pub defines : Gives definitions defs
  pub good : AreGood task input defs
  pub printed : IsPrinted task input defs made text
  pub given : IsGiven task input defs made
  pub file_is : file ≡ bytes_of made

-- The input is invalid for the word, and the text is a fault that it has.
pub record IsRefused (word : ℕ) (input definitions text : List ℕ) : Type 0 where
  pub task : Task
  pub defs : List (List ℕ × List ℕ)
  pub word_is : number_of task ≡ word
  pub defines : Gives definitions defs
  pub refused : ¬ AreGood task input defs
  pub printed : IsRefusedBy task input defs text
