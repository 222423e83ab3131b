-- The greatest number of values of plain code on the stack.
use Rattle.std.proofs.Common.{◌≡◌, ℕ, zero, suc, ◌+◌, ◌-◌, ◌*◌, ◌≤◌, max, List, [], ◌∷◌, ◌++◌, map, length, refl, ap, ◌∙◌, arith, append_assoc}
use Rattle.ifs_base.specs.declared.ids.TestId.{TestId}
use Rattle.ifs_base.specs.declared.op.Op.{Op}
use Rattle.ifs_base.specs.declared.op.Op.TheVariants.{Ret, PushCommand, PushState, Queue, Want, JumpFalse}
use Rattle.ifs_image.specs.declared.parts.Routine.{Routine}
use Rattle.ifs_gen.specs.Trees.{Condition, Block, Done, RunThen, SetStateThen, IfThen, Part}
use Rattle.ifs_gen.specs.PlainCode.{plain_coder, condition_code, condition_height, code_size, block_code, block_height}
use Rattle.ifs_gen.specs.PlainCode.{tests_below, held_code, holding, body_start, body_end, body_code, init_code}
use Rattle.ifs_gen.specs.PlainSizes.{test_count, parts_of}
use Rattle.ifs_gen.specs.PolicyImage.{routines_of}
use Rattle.ifs_gen.specs.Refused.{heights_of}
use Rattle.ifs_gen.specs.Heights.{most_values, HeightsAreGreatest}
use Rattle.ifs_gen.proofs.Simulation.{condition_high}
use Rattle.ifs_gen.proofs.StackHeights.{rise_some, rise_over}

-- A block rises to its height, and leaves the number as it is.
block_rises : (place : ℕ) (b : Block) (rest : List Op) (now : ℕ)
    → most_values (block_code plain_coder place b ++ rest) now ≡ max (now + block_height plain_coder b) (most_values rest now)
block_rises place Done rest now = let some = rise_some rest now in omega (arith, some)
block_rises place (RunThen command later) rest now =
    let same : now + 1 - 1 ≡ now = omega arith in
    let e = ap (most_values (block_code plain_coder (place + 2) later ++ rest)) same in
    let over = block_rises (place + 2) later rest now in
    omega (arith, e, over)
block_rises place (SetStateThen state later) rest now =
    let same : now + 1 - 1 ≡ now = omega arith in
    let e = ap (most_values (block_code plain_coder (place + 2) later ++ rest)) same in
    let over = block_rises (place + 2) later rest now in
    omega (arith, e, over)
block_rises place (IfThen condition inner later) rest now =
    let from = place + plain_coder.size condition + 1 in
    let past = from + code_size plain_coder inner in
    let first = block_code plain_coder from inner in
    let second = block_code plain_coder past later in
    let e = ap (λ ops. most_values ops now) (append_assoc (condition_code condition) (JumpFalse past ∷ (first ++ second)) rest) in
    let over = rise_over condition (JumpFalse past ∷ ((first ++ second) ++ rest)) now in
    let same : now + 1 - 1 ≡ now = omega arith in
    let g = ap (λ ops. most_values ops (now + 1 - 1)) (append_assoc first second rest) in
    let h = ap (most_values (first ++ (second ++ rest))) same in
    let one = block_rises from inner (second ++ rest) now in
    let two = block_rises past later rest now in
    let high = condition_high condition in
    omega (arith, e, over, g, h, one, two, high)

-- A block with statements rises.
abbrev Rises : Block → Type 0
Rises b = 1 ≤ block_height plain_coder b

-- The tests that hold a body back are read one by one.
held_rises : (end : ℕ) (tests : List TestId) (rest : List Op) → 1 ≤ most_values rest 0 → most_values (held_code end tests ++ rest) 0 ≡ most_values rest 0
held_rises end [] rest some = refl
held_rises end (test ∷ tests) rest some = let later = held_rises end tests rest some in omega (arith, later, some)

none_below : (count : ℕ) → tests_below count [] ≡ []
none_below zero = refl
none_below (suc count) = ap (λ (tests : List TestId). tests ++ []) (none_below count)

init_rises : (init : Block) → most_values (init_code plain_coder init) 0 ≡ block_height plain_coder init
init_rises init = let over = block_rises 0 init (Ret ∷ []) 0 in omega (arith, over)

statements_rise : (count : ℕ) (body : Block) → Rises body → most_values (body_code plain_coder count body) 0 ≡ block_height plain_coder body
statements_rise count body some =
    let over = block_rises (body_start count body) body (Ret ∷ []) 0 in
    let held = held_rises (body_end plain_coder count body) (holding count body) (block_code plain_coder (body_start count body) body ++ Ret ∷ []) (omega (arith, over, some)) in
    omega (arith, over, held)

body_rises : (count : ℕ) (body : Block) → most_values (body_code plain_coder count body) 0 ≡ block_height plain_coder body
body_rises count Done = ap (λ (tests : List TestId). most_values (held_code (2 * length tests + 0) tests ++ Ret ∷ []) 0) (none_below count)
body_rises count (RunThen command later) = statements_rise count (RunThen command later) (omega arith)
body_rises count (SetStateThen state later) = statements_rise count (SetStateThen state later) (omega arith)
body_rises count (IfThen condition inner later) = let high = condition_high condition in statements_rise count (IfThen condition inner later) (omega (arith, high))

all_rise : (count : ℕ) (parts : List Part) → map (λ (routine : Routine). most_values routine.code 0) (routines_of plain_coder count parts) ≡ heights_of parts
all_rise count [] = refl
all_rise count (part ∷ parts) = λ i. init_rises part.init i ∷ body_rises count part.body i ∷ all_rise count parts i

pub heights_are_greatest : HeightsAreGreatest
heights_are_greatest policy = all_rise (test_count policy) (parts_of policy)
