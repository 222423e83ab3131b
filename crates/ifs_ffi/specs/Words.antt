-- Words of the program as numbers.
use Rattle.std.specs.Prelude.{ℕ}
use Rattle.ifs_options.specs.declared.task.Task.{Task}
use Rattle.ifs_options.specs.declared.task.Task.TheVariants.{Check, Compile, Verify, Disasm, Asm, Upgrade, Graph}

-- The number of a task's word.
abbrev pub number_of : Task → ℕ
number_of Check = 0
number_of Compile = 1
number_of Verify = 2
number_of Disasm = 3
number_of Asm = 4
number_of Upgrade = 5
number_of Graph = 6
