-- The shared conditions of a policy, and the code that calls them.
use Rattle.std.specs.Prelude.{ℕ, zero, suc, ◌+◌, Bool, ◌&&◌, nat_eq, nat_le, List, []}
use Rattle.std.specs.Prelude.{◌∷◌, ◌++◌, length, take, filter, count_by, Option, Some, None, option_map}
use Rattle.std.specs.Prelude.{if◌then◌else◌}
use Rattle.std.specs.Cmp.Lexicographic.{pointwise}
use Rattle.ifs_base.specs.Spelling.{spelling}
use Rattle.ifs_base.specs.declared.op.Op.{Op}
use Rattle.ifs_base.specs.declared.op.Op.TheVariants.{Call}
use Rattle.ifs_parse.specs.Trees.{condition_size}
use Rattle.ifs_policy.specs.Whole.{first_uses}
use Rattle.ifs_gen.specs.Trees.{Part, Block, Done, RunThen, SetStateThen, IfThen}
use Rattle.ifs_gen.specs.PlainCode.{Coder, condition_code, condition_height}

-- Two instructions are the same if their spellings are equal, byte by byte.
abbrev pub same_op : Op → Op → Bool
same_op a b = pointwise nat_eq (spelling a) (spelling b)

-- Two codes are the same if their instructions are.
abbrev pub same_code : List Op → List Op → Bool
same_code code other = pointwise same_op code other

-- The plain codes of the conditions of a block, from the top. A condition comes before those inside its block.
abbrev pub conditions_of : Block → List (List Op)
conditions_of Done = []
conditions_of (RunThen command rest) = conditions_of rest
conditions_of (SetStateThen state rest) = conditions_of rest
conditions_of (IfThen condition inner rest) = condition_code condition ∷ (conditions_of inner ++ conditions_of rest)

-- The plain codes of the conditions of parts, those of each init before those of its body.
abbrev pub conditions_in : List Part → List (List Op)
conditions_in [] = []
conditions_in (part ∷ parts) = conditions_of part.init ++ (conditions_of part.body ++ conditions_in parts)

-- A code is shared if it has 5 instructions or more and is that of two conditions or more.
abbrev pub is_shared : List (List Op) → List Op → Bool
is_shared all code = nat_le 5 (length code) && nat_le 2 (count_by (same_code code) all)

-- The distinct codes, in the order of their first occurrence.
abbrev pub firsts : List (List Op) → List (List Op)
firsts codes = first_uses same_code codes

-- The greatest number of shared codes.
abbrev pub most_shared : ℕ
most_shared = 510

-- The shared codes by number: the first ones that qualify.
abbrev pub shared_among : List (List Op) → List (List Op)
shared_among all = take most_shared (filter (is_shared all) (firsts all))

-- The number of a code in a table, if the table has it.
abbrev pub place_in : List (List Op) → List Op → Option ℕ
place_in [] code = None
place_in (entry ∷ table) code = if same_code code entry then Some zero else option_map suc (place_in table code)

-- The code of a condition: a call of its number, or plain code if it has none.
abbrev pub in_place : List Op → Option ℕ → List Op
in_place code None = code
in_place code (Some k) = Call (record { 0 = k }) ∷ []

-- The number of instructions of that code.
abbrev pub size_in_place : ℕ → Option ℕ → ℕ
size_in_place size None = size
size_in_place size (Some k) = 1

-- The number of instructions that it executes, with those of the called routine and its `ret`.
abbrev pub cost_in_place : ℕ → Option ℕ → ℕ
cost_in_place size None = size
cost_in_place size (Some k) = size + 2

-- The number of frames that code with calls of a table needs: a second one if there is a routine to call.
abbrev pub frames_for : List (List Op) → ℕ
frames_for [] = 1
frames_for (code ∷ table) = 2

-- Conditions in code that calls those in a table.
abbrev pub shared_coder : List (List Op) → Coder
shared_coder table = record {
  code = λ condition. in_place (condition_code condition) (place_in table (condition_code condition));
  size = λ condition. size_in_place (condition_size condition) (place_in table (condition_code condition));
  height = condition_height;
  cost = λ condition. cost_in_place (condition_size condition) (place_in table (condition_code condition));
  frames = frames_for table;
}
