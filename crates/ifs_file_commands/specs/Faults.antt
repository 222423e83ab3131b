-- Refusals of this crate: bytes that are not UTF-8, and failed allocations.
use Rattle.std.specs.Prelude.{ℕ, List, ◌++◌, codes, decimal}
use Rattle.ifs_options.specs.declared.task.Task.{Task}
use Rattle.ifs_options.specs.declared.task.Task.TheVariants.{Check, Compile, Verify, Disasm, Asm, Upgrade, Graph}

-- The refusal of bytes that are not UTF-8 by `check`, `compile` and `graph`: the first such byte is on this line.
abbrev pub no_text_words : ℕ → List ℕ
no_text_words line = codes "P1 line " ++ decimal line

-- The refusal of each task after a failed allocation.
abbrev pub memory_words : Task → List ℕ
memory_words Check = codes "P0"
memory_words Compile = codes "P0"
memory_words Verify = codes "V0"
memory_words Disasm = codes "I0"
memory_words Asm = codes "A0"
memory_words Upgrade = codes "I0"
memory_words Graph = codes "P0"
