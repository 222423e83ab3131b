-- Sharing makes code no longer: the calls save at least as many instructions as the shared routines have.
use Rattle.std.proofs.Common.{◌≡◌, ℕ, zero, suc, ◌+◌, ◌*◌, ◌-◌, ◌≤◌, Bool, true, false, ◌&&◌, cond, List, [], ◌∷◌, ◌++◌}
use Rattle.std.proofs.Common.{length, Option, Some, None, refl, sym, ap, ◌∙◌, arith, option_map}
use Rattle.std.specs.Prelude.{sum_by, count_by, if◌then◌else◌, nat_le}
use Rattle.std.specs.List.{AllByRecursion}
use native.Mathlib.Nat.{add-mul}
use Rattle.std.proofs.lemmas.List.Sums.{sum_by-cons, sum_by-append}
use Rattle.std.proofs.lemmas.Bool.{leb-true}
use mathlib.Core.Bool.{true≢false}
use Rattle.ifs_base.specs.Spelling.{IsReadBack}
use Rattle.ifs_base.specs.declared.op.Op.{Op}
use Rattle.ifs_parse.specs.Trees.{condition_size}
use Rattle.ifs_gen.specs.Trees.{Part, Condition, Leaf, NotSo, And, Or, Block, Done, RunThen, SetStateThen, IfThen}
use Rattle.ifs_gen.specs.PlainCode.{plain_coder, condition_code, code_size, body_size, init_size}
use Rattle.ifs_gen.specs.PlainSizes.{init_length, body_length}
use Rattle.ifs_gen.specs.Sharing.{same_code, conditions_of, conditions_in, is_shared, shared_among, place_in}
use Rattle.ifs_gen.specs.Sharing.{size_in_place, shared_coder}
use Rattle.ifs_gen.proofs.Simulation.{condition_sized}
use Rattle.ifs_gen.proofs.CodeKeys.{code_decides}
use Rattle.ifs_gen.specs.inner.Meetings.{AreApart}
use Rattle.ifs_gen.proofs.Among.{each_weaker, shared_qualify, shared_distinct}

-- The number of instructions that a call, or a table, saves over plain code.
abbrev pub saved_at : List Op → Option ℕ → ℕ
saved_at code None = 0
saved_at code (Some k) = length code - 1

abbrev pub saved : List (List Op) → List Op → ℕ
saved table code = saved_at code (place_in table code)

-- A condition has an instruction.
pub size_some : (c : Condition) → 1 ≤ condition_size c
size_some (Leaf single) = omega arith
size_some (NotSo c) = omega arith
size_some (And a b) = omega arith
size_some (Or a b) = omega arith

module _ (table : List (List Op)) (count : ℕ) where
  condition_saves : (c : Condition) (o : Option ℕ) → condition_size c ≡ size_in_place (condition_size c) o + saved_at (condition_code c) o
  condition_saves c None = omega arith
  condition_saves c (Some k) = let long = condition_sized c in let some = size_some c in omega (arith, long, some)

  -- A block saves as many instructions as its conditions.
  block_saves : (block : Block) → code_size plain_coder block ≡ code_size (shared_coder table) block + sum_by (saved table) (conditions_of block)
  block_saves Done = refl
  block_saves (RunThen n rest) = let h = block_saves rest in omega (arith, h)
  block_saves (SetStateThen n rest) = let h = block_saves rest in omega (arith, h)
  block_saves (IfThen c inner rest) =
      let here = condition_saves c (place_in table (condition_code c)) in
      let e = sum_by-cons (saved table) (condition_code c) (conditions_of inner ++ conditions_of rest) in
      let f = sum_by-append (saved table) (conditions_of inner) (conditions_of rest) in
      let h = block_saves inner in
      let g = block_saves rest in
      omega (arith, here, e, f, h, g)

  pub block_shrinks : (block : Block) → code_size (shared_coder table) block ≤ code_size plain_coder block
  block_shrinks block = let h = block_saves block in omega (arith, h)

  -- The number of instructions of the init and the body of a part.
  abbrev pub shared_lengths : Part → ℕ
  shared_lengths part = init_size (shared_coder table) part.init + body_size (shared_coder table) count part.body

  -- Parts save as many instructions as their conditions.
  pub parts_save : (parts : List Part) → sum_by (λ part. init_length part + body_length count part) parts ≡ sum_by shared_lengths parts + sum_by (saved table) (conditions_in parts)
  parts_save [] = refl
  parts_save (x ∷ parts) =
      let e = sum_by-cons (λ part. init_length part + body_length count part) x parts in
      let f = sum_by-cons shared_lengths x parts in
      let g = sum_by-append (saved table) (conditions_of x.init) (conditions_of x.body ++ conditions_in parts) in
      let h = sum_by-append (saved table) (conditions_of x.body) (conditions_in parts) in
      omega (arith, e, f, g, h, block_saves x.init, block_saves x.body, parts_save parts)

-- The number of instructions that an entry of a table saves over a code.
abbrev saved_by : List Op → List Op → ℕ
saved_by entry code = if same_code entry code then length entry - 1 else 0

module _ (back : IsReadBack) where
  -- Being the same is symmetric.
  pub same_other : (a b : List Op) (x y : Bool) → same_code a b ≡ x → same_code b a ≡ y → x ≡ y
  same_other a b true true e f = refl
  same_other a b false false e f = refl
  same_other a b true false e f = sym ((code_decides back b a).1 (sym ((code_decides back a b).0 e))) ∙ f
  same_other a b false true e f = sym e ∙ (code_decides back a b).1 (sym ((code_decides back b a).0 f))

  pub same_sym : (a b : List Op) → same_code a b ≡ same_code b a
  same_sym a b = same_other a b (same_code a b) (same_code b a) refl refl

  -- No number in the rest of a table is none in the table.
  placed_nowhere : (code entry : List Op) (table : List (List Op)) (b : Bool) → b ≡ false → place_in table code ≡ None → (if b then Some zero else option_map suc (place_in table code)) ≡ None
  placed_nowhere code entry table true never rest = absurd (true≢false never)
  placed_nowhere code entry table false never rest = ap (option_map suc) rest

  -- A code that is not in a table has no number there.
  pub absent : (code : List Op) (table : List (List Op)) → AllByRecursion (λ entry. same_code code entry ≡ false) table → place_in table code ≡ None
  absent code [] all = refl
  absent code (entry ∷ table) all = placed_nowhere code entry table (same_code code entry) all.0 (absent code table all.1)

  saves_more : (code : List Op) (o : Option ℕ) → saved_at code (option_map suc o) ≡ saved_at code o
  saves_more code None = refl
  saves_more code (Some k) = refl

  one_more : (entry code : List Op) (table : List (List Op)) (b : Bool) → same_code code entry ≡ b → AllByRecursion (λ other. same_code entry other ≡ false) table
      → saved_at code (if b then Some zero else option_map suc (place_in table code)) ≡ (if b then length entry - 1 else 0) + saved table code
  one_more entry code table true same apart =
      let e : code ≡ entry = (code_decides back code entry).0 same in
      let none = ap (saved_at code) (ap (place_in table) e ∙ absent entry table apart) in
      let long = ap length e in
      omega (arith, none, long)
  one_more entry code table false same apart = let e = saves_more code (place_in table code) in omega (arith, e)

  -- One more entry saves over a code, and over all codes.
  code_more : (entry : List Op) (table : List (List Op)) → AllByRecursion (λ other. same_code entry other ≡ false) table → (code : List Op)
      → saved (entry ∷ table) code ≡ saved_by entry code + saved table code
  code_more entry table apart code =
      one_more entry code table (same_code code entry) refl apart ∙ ap (λ b. (if b then length entry - 1 else 0) + saved table code) (same_sym code entry)

  all_more : (entry : List Op) (table : List (List Op)) → AllByRecursion (λ other. same_code entry other ≡ false) table → (all : List (List Op))
      → sum_by (saved (entry ∷ table)) all ≡ sum_by (saved_by entry) all + sum_by (saved table) all
  all_more entry table apart [] = refl
  all_more entry table apart (code ∷ all) =
      let e = sum_by-cons (saved (entry ∷ table)) code all in
      let f = sum_by-cons (saved_by entry) code all in
      let g = sum_by-cons (saved table) code all in
      let h = all_more entry table apart all in
      let here = code_more entry table apart code in
      omega (arith, e, f, g, h, here)

  one_saved : (b : Bool) (n : ℕ) → (if b then n else 0) ≡ (cond b 1 0) * n
  one_saved true n = omega arith
  one_saved false n = omega arith

  -- An entry saves at each of its occurrences.
  saved_counts : (entry : List Op) (all : List (List Op)) → sum_by (saved_by entry) all ≡ count_by (same_code entry) all * (length entry - 1)
  saved_counts entry [] = omega arith
  saved_counts entry (code ∷ all) =
      let long = length entry - 1 in
      let e = sum_by-cons (saved_by entry) code all in
      let f = ap (λ n. n * long) (sum_by-cons (λ other. cond (same_code entry other) 1 0) code all) in
      let h = saved_counts entry all in
      let here = one_saved (same_code entry code) long in
      let times = add-mul (cond (same_code entry code) 1 0) (count_by (same_code entry) all) long in
      omega (arith, e, f, h, here, times)

  -- If each entry is long enough and occurs twice, the calls save at least what the routines have.
  record Saves (all : List (List Op)) (entry : List Op) : Type 0 where
    long : 5 ≤ length entry
    twice : 2 ≤ count_by (same_code entry) all

  table_shrinks : (all table : List (List Op)) → AllByRecursion (Saves all) table → AreApart same_code table → sum_by (λ code. length code + 1) table ≤ sum_by (saved table) all
  table_shrinks all [] saves apart = omega arith
  table_shrinks all (entry ∷ table) saves apart =
      let long = saves.0.long in
      let twice = saves.0.twice in
      let each = length entry - 1 in
      let count = count_by (same_code entry) all in
      let more = count - 2 in
      let two : count ≡ 2 + more = omega (arith, twice) in
      let times = ap (λ n. n * each) two ∙ add-mul 2 more each in
      let e = sum_by-cons (λ code. length code + 1) entry table in
      let f = all_more entry table apart.0 all in
      let g = saved_counts entry all in
      let h = table_shrinks all table saves.1 apart.1 in
      omega (arith, e, f, g, h, times, long)

  qualifies : (a b : Bool) → (a && b) ≡ true → (a ≡ true) × (b ≡ true)
  qualifies true b e = (refl, e)
  qualifies false b e = absurd (true≢false (sym e))

  saves_of : (all : List (List Op)) (code : List Op) → is_shared all code ≡ true → Saves all code
  saves_of all code e =
      let both = qualifies (nat_le 5 (length code)) (nat_le 2 (count_by (same_code code) all)) e in
      record { long = leb-true 5 (length code) both.0; twice = leb-true 2 (count_by (same_code code) all) both.1 }

  -- With the routines of shared conditions, code has no more instructions than plain code.
  pub sharing_shrinks : (count : ℕ) (parts : List Part) → let all = conditions_in parts in
      sum_by (λ code. length code + 1) (shared_among all) + sum_by (shared_lengths (shared_among all) count) parts ≤ sum_by (λ part. init_length part + body_length count part) parts
  sharing_shrinks count parts =
      let all = conditions_in parts in
      let table = shared_among all in
      let less = table_shrinks all table (each_weaker (λ code. is_shared all code ≡ true) (Saves all) (saves_of all) table (shared_qualify all)) (shared_distinct all) in
      let e = parts_save table count parts in
      omega (arith, less, e)
