-- Properties of the codes of a policy's conditions: the stack height of each, that they fit, that they are short, and that their
-- heights are within that of the policy.
use Rattle.std.proofs.Common.{◌≡◌, ℕ, ◌+◌, ◌-◌, ◌≤◌, max, List, [], ◌∷◌, ◌++◌, length, refl, sym, ap, ◌∙◌, arith, append_assoc}
use Rattle.std.specs.Prelude.{All}
use Rattle.std.specs.List.{AllByRecursion}
use Rattle.std.proofs.lemmas.List.{append-nil}
use Rattle.std.proofs.lemmas.List.Elements.{All-head, All-tail}
use Rattle.ifs_base.specs.declared.ids.CommandId.{CommandId}
use Rattle.ifs_base.specs.declared.ids.StateId.{StateId}
use Rattle.ifs_base.specs.declared.op.Op.{Op}
use Rattle.ifs_base.specs.declared.op.Op.TheVariants.{Link, Test, Negate, Both, Either}
use Rattle.ifs_policy.specs.Fits.{Sizes, ConditionFits, BlockFits, HandlersFit}
use Rattle.ifs_gen.specs.Trees.{LinkIs, TestIs, Condition, Leaf, NotSo, And, Or, Block, Done, RunThen, SetStateThen, IfThen, Part}
use Rattle.ifs_gen.specs.PlainCode.{plain_coder, condition_code, condition_height, code_size, block_height}
use Rattle.ifs_gen.specs.PlainSizes.{greatest, part_height, PartCodeFits}
use Rattle.ifs_gen.specs.Sharing.{conditions_of, conditions_in}
use Rattle.ifs_gen.specs.Heights.{values_after, most_values}
use Rattle.ifs_policy.proofs.Lists.{each_both}
use Rattle.ifs_gen.proofs.Simulation.{condition_sized, condition_high}

-- The stack height of a code.
abbrev pub tall : List Op → ℕ
tall code = most_values code 0

-- The greatest number is no less than the first.
pub rise_some : (ops : List Op) (now : ℕ) → now ≤ most_values ops now
rise_some [] now = omega arith
rise_some (op ∷ ops) now = omega arith

-- Two operands most_values to the height of both, and their sign leaves one value.
rise_joined : (a b : Condition) (op : Op) (rest : List Op) (now : ℕ)
    → ((rest : List Op) (now : ℕ) → most_values (condition_code a ++ rest) now ≡ max (now + condition_height a) (most_values rest (now + 1)))
    → ((rest : List Op) (now : ℕ) → most_values (condition_code b ++ rest) now ≡ max (now + condition_height b) (most_values rest (now + 1))) → values_after op (now + 1 + 1) ≡ now + 1 + 1 - 1
    → most_values ((condition_code a ++ (condition_code b ++ op ∷ [])) ++ rest) now ≡ max (now + max (condition_height a) (condition_height b + 1)) (most_values rest (now + 1))
rise_joined a b op rest now over_a over_b leaves =
    let e = ap (λ ops. most_values ops now) (append_assoc (condition_code a) (condition_code b ++ op ∷ []) rest) in
    let g = ap (λ ops. most_values (condition_code a ++ ops) now) (append_assoc (condition_code b) (op ∷ []) rest) in
    let f = over_a (condition_code b ++ op ∷ rest) now in
    let h = over_b (op ∷ rest) (now + 1) in
    let same : now + 1 + 1 - 1 ≡ now + 1 = omega arith in
    let last = ap (most_values rest) (leaves ∙ same) in
    let some = rise_some rest (now + 1) in
    let high = condition_high b in
    omega (arith, e, g, f, h, last, some, high)

-- A condition rises to its height, and leaves one value.
pub rise_over : (c : Condition) (rest : List Op) (now : ℕ) → most_values (condition_code c ++ rest) now ≡ max (now + condition_height c) (most_values rest (now + 1))
rise_over (Leaf (LinkIs n s)) rest now = let some = rise_some rest (now + 1) in omega (arith, some)
rise_over (Leaf (TestIs n)) rest now = let some = rise_some rest (now + 1) in omega (arith, some)
rise_over (NotSo c) rest now =
    let e = ap (λ ops. most_values ops now) (append_assoc (condition_code c) (Negate ∷ []) rest) in
    let f = rise_over c (Negate ∷ rest) now in
    let some = rise_some rest (now + 1) in
    let high = condition_high c in
    omega (arith, e, f, some, high)
rise_over (And a b) rest now = rise_joined a b Both rest now (rise_over a) (rise_over b) refl
rise_over (Or a b) rest now = rise_joined a b Either rest now (rise_over a) (rise_over b) refl

-- The stack height of the code of a condition is that of the condition.
pub tall_is : (c : Condition) → tall (condition_code c) ≡ condition_height c
tall_is c =
    let e = ap (λ ops. most_values ops 0) (sym (append-nil (condition_code c))) in
    let f = rise_over c [] 0 in
    let high = condition_high c in
    omega (arith, e, f, high)

-- This is the code of a condition that fits.
pub record IsConditionCode (sizes : Sizes) (code : List Op) : Type 0 where
  pub condition : Condition
  pub fits : ConditionFits sizes condition
  pub is : condition_code condition ≡ code

module _ (sizes : Sizes) where
  block_conditions : (block : Block) → BlockFits sizes block → AllByRecursion (IsConditionCode sizes) (conditions_of block)
  block_conditions Done fits = tt
  block_conditions (RunThen n rest) fits = block_conditions rest fits.1
  block_conditions (SetStateThen n rest) fits = block_conditions rest fits.1
  block_conditions (IfThen c inner rest) fits = (
    record { condition = c; fits = fits.0; is = refl },
    each_both (IsConditionCode sizes) (conditions_of inner) (conditions_of rest) (block_conditions inner fits.1) (block_conditions rest fits.2),
  )

  -- The conditions of parts that fit do so too.
  pub all_conditions : (parts : List Part) → All (HandlersFit sizes) parts → AllByRecursion (IsConditionCode sizes) (conditions_in parts)
  all_conditions [] fits = tt
  all_conditions (x ∷ parts) fits =
      let head = All-head (HandlersFit sizes) x parts fits in
      each_both (IsConditionCode sizes) (conditions_of x.init) (conditions_of x.body ++ conditions_in parts) (block_conditions x.init head.init)
      (each_both (IsConditionCode sizes) (conditions_of x.body) (conditions_in parts) (block_conditions x.body head.body) (all_conditions parts (All-tail (HandlersFit sizes) x parts fits)))

-- A code is shorter than a limit.
abbrev pub IsShort : ℕ → List Op → Type 0
IsShort n code = length code + 1 ≤ n

-- Each condition of a block has a property if a bound of the block gives it, and bounds all that follows or is inside.
block_has : (P : List Op → Type 0) (Low : Block → Type 0) → ((m : CommandId) (rest : Block) → Low (RunThen m rest) → Low rest) → ((m : StateId) (rest : Block) → Low (SetStateThen m rest) → Low rest)
    → ((c : Condition) (inner rest : Block) → Low (IfThen c inner rest) → P (condition_code c) × Low inner × Low rest) → (block : Block) → Low block → AllByRecursion P (conditions_of block)
block_has P Low run set test Done low = tt
block_has P Low run set test (RunThen m rest) low = block_has P Low run set test rest (run m rest low)
block_has P Low run set test (SetStateThen m rest) low = block_has P Low run set test rest (set m rest low)
block_has P Low run set test (IfThen c inner rest) low =
    let all = test c inner rest low in
    (all.0, each_both P (conditions_of inner) (conditions_of rest) (block_has P Low run set test inner all.1) (block_has P Low run set test rest all.2))

block_short : (n : ℕ) (block : Block) → code_size plain_coder block ≤ n → AllByRecursion (IsShort n) (conditions_of block)
block_short n =
    block_has (IsShort n) (λ block. code_size plain_coder block ≤ n) (λ m rest low. omega (arith, low)) (λ m rest low. omega (arith, low))
    (λ c inner rest low. let long = condition_sized c in (omega (arith, long, low), omega (arith, low), omega (arith, low)))

-- The codes are shorter than the limit of a routine, if the routines of their parts keep it.
pub all_short : (count : ℕ) (parts : List Part) → All (PartCodeFits count) parts → AllByRecursion (IsShort 1023) (conditions_in parts)
all_short count [] fits = tt
all_short count (x ∷ parts) fits =
    let head = All-head (PartCodeFits count) x parts fits in
    let init = head.init in
    let body = head.body in
    each_both (IsShort 1023) (conditions_of x.init) (conditions_of x.body ++ conditions_in parts) (block_short 1023 x.init (omega (arith, init)))
    (each_both (IsShort 1023) (conditions_of x.body) (conditions_in parts) (block_short 1023 x.body (omega (arith, body))) (all_short count parts (All-tail (PartCodeFits count) x parts fits)))

-- A code is no higher than a limit.
abbrev pub IsLow : ℕ → List Op → Type 0
IsLow n code = tall code ≤ n

block_tall : (n : ℕ) (block : Block) → block_height plain_coder block ≤ n → AllByRecursion (IsLow n) (conditions_of block)
block_tall n =
    block_has (IsLow n) (λ block. block_height plain_coder block ≤ n) (λ m rest low. omega (arith, low)) (λ m rest low. omega (arith, low))
    (λ c inner rest low. let high = tall_is c in (omega (arith, high, low), omega (arith, low), omega (arith, low)))

-- The codes are no higher than the parts.
pub all_tall : (n : ℕ) (parts : List Part) → greatest part_height parts ≤ n → AllByRecursion (IsLow n) (conditions_in parts)
all_tall n [] low = tt
all_tall n (x ∷ parts) low =
    each_both (IsLow n) (conditions_of x.init) (conditions_of x.body ++ conditions_in parts) (block_tall n x.init (omega (arith, low)))
    (each_both (IsLow n) (conditions_of x.body) (conditions_in parts) (block_tall n x.body (omega (arith, low))) (all_tall n parts (omega (arith, low))))
