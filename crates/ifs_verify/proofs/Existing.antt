-- Bounds exist if calls go down and jumps lead on.
use Rattle.std.proofs.Common.{ℕ, zero, suc, ◌≡◌, ◌<◌, ◌≤◌, ◌+◌, ◌-◌, ◌*◌, List}
use Rattle.std.proofs.Common.{slice_index, Some, arith, refl, ap, sym, ◌∙◌, inl, inr}
use Rattle.std.proofs.lemmas.Bool.{cases_lt}
use Rattle.std.proofs.lemmas.Option.{slice_get_within}
use Rattle.ifs_base.specs.declared.ids.RoutineId.{RoutineId}
use Rattle.ifs_base.specs.declared.op.Op.{Op}
use Rattle.ifs_base.specs.declared.op.Op.TheVariants.{Queue, Call}
use Rattle.ifs_image.specs.declared.parts.ImageParts.{ImageParts}
use Rattle.ifs_image.specs.Code.{op_at, code_of}
use Rattle.ifs_verify.specs.declared.fault.At.TheVariants.{Code}
use Rattle.ifs_verify.specs.Rules.{IsRoutine}
use Rattle.ifs_verify.specs.Bounds.{AreDepths, AreAmounts, callee_amount, cost_of}
use Rattle.ifs_verify.specs.Bounds.{commands_of, FitsEvents, FitsHandlers}
use Rattle.ifs_verify.specs.Refused.{AreOver, AreTotals}
use Rattle.ifs_verify.specs.inner.Passes.{PlainRulesHold, HoldsDepth, IsCountedFrom, LeastDepths}
use Rattle.ifs_verify.specs.inner.Passes.{LeastAmounts, weight_of, limit_of, stated_of}
use Rattle.ifs_verify.specs.inner.Found.{IsAmount}
use Rattle.ifs_verify.specs.declared.amounts.Weight.{Weight}
use Rattle.ifs_verify.specs.declared.amounts.Weight.TheVariants.{Cost, Commands}
use Rattle.ifs_verify.proofs.Entering.{new_depth}
use Rattle.ifs_verify.proofs.Flow.{successor_within}
use Rattle.ifs_verify.proofs.Instructions.{op_at-routine, some_code}

pub some_depths : (image : ImageParts) → PlainRulesHold image → AreDepths image (λ routine. routine + 1)
some_depths image plain = record { own = λ routine. omega arith; calls = λ routine place callee is. omega (arith, plain.calls routine place callee is) }

-- More than 1,025 times the amount of any lower routine.
step : ℕ → ℕ
step zero = 1
step (suc routine) = 1 + 1025 * step routine

step-positive : (routine : ℕ) → 1 ≤ step routine
unfolding step
step-positive zero = omega arith
step-positive (suc routine) = omega arith

step-above : (routine lower : ℕ) → lower < routine → 1 + 1025 * step lower ≤ step routine
unfolding step
step-above zero lower below = absurd (omega arith)
step-above (suc routine) lower below =
    elim (cases_lt lower routine) [
      | inl earlier ↦ omega (arith, step-above routine lower earlier)
      | inr same ↦ let e : lower ≡ routine = omega arith in omega (arith, ap step e)
    ]

large : ℕ → ℕ → ℕ
large routine place = step routine * (1025 - place)

large-first : (routine : ℕ) → large routine 0 ≡ 1025 * step routine
unfolding large
large-first routine = omega arith

large-here : (routine place : ℕ) → place < 1025 → step routine ≤ large routine place
unfolding large
large-here routine place below =
    let e : 1025 - place ≡ (1024 - place) + 1 = omega arith in
    omega (arith, ap (λ n. step routine * n) e)

large-onward : (routine place to : ℕ) → place < 1025 → place < to → step routine + large routine to ≤ large routine place
unfolding large
large-onward routine place to below later =
    let e : 1025 - place ≡ ((1025 - to) + 1) + ((1025 - place) - (1025 - to) - 1) = omega arith in
    omega (arith, ap (λ n. step routine * n) e)

-- An instruction with its callee stays within the step of a routine.
counted : (weight : Op → ℕ) (routine : ℕ) (op : Op) → ((op : Op) → weight op ≤ 1) → ((callee : RoutineId) → op ≡ Call callee → callee.0 < routine)
    → weight op + callee_amount large op ≤ step routine
counted weight routine (Call callee) light lower =
    omega (arith, light (Call callee), large-first callee.0, step-above routine callee.0 (lower callee refl))
counted weight routine op light lower = omega (arith, light op, step-positive routine)

pub some_amounts : (weight : Op → ℕ) (image : ImageParts) → PlainRulesHold image → ((op : Op) → weight op ≤ 1) → (amounts : ℕ → ℕ → ℕ) × AreAmounts weight image amounts
some_amounts weight image plain light =
    let inside : (routine place : ℕ) (op : Op) → op_at image routine place ≡ Some op → place < 1025 =
    λ routine place op is. omega (arith, slice_get_within (code_of image routine) place op is, plain.sized.code routine) in
    let here : (routine place : ℕ) (op : Op) → op_at image routine place ≡ Some op → weight op + callee_amount large op ≤ step routine =
    λ routine place op is. counted weight routine op light (λ callee e. plain.calls routine place callee (is ∙ ap (λ (o : Op). Some o) e)) in (
      large,
      record {
        own = λ routine place op is. omega (arith, here routine place op is, large-here routine place (inside routine place op is));
        onward = λ routine place to op is successor.
            let later = successor_within image routine place to op plain.ends plain.jumps (op_at-routine image routine place op is) is successor in
            omega (arith, here routine place op is, large-onward routine place to (inside routine place op is) later.0);
      },
    )

pub cost-light : (op : Op) → cost_of op ≤ 1
cost-light op = omega arith

pub commands-light : (op : Op) → commands_of op ≤ 1
commands-light Queue = omega arith
commands-light op = omega arith

-- The least depth passes the limit.
pub frames_over : (image : ImageParts) (depths : List ℕ) (routine depth : ℕ) → PlainRulesHold image → LeastDepths image depths routine → IsRoutine image routine
    → ((bound : ℕ) → HoldsDepth image (slice_index depths) routine bound → depth ≤ bound) → 32 < depth
    → AreOver image (AreDepths image) 32 (λ depths. FitsHandlers image depths image.budgets.frames) (Code (record { 0 = routine }) 0)
frames_over image depths routine depth plain found is_routine least over = (
  refl,
  is_routine,
  (λ routine. routine + 1, some_depths image plain),
  λ bounds are. omega (arith, new_depth image depths routine depth plain found least bounds are, over),
)

-- The least amount passes the limit.
pub amounts_over : (weight : Op → ℕ) (image : ImageParts) (limit stated : ℕ) (amounts : List ℕ) (routine amount : ℕ) → PlainRulesHold image
    → LeastAmounts weight image limit amounts routine → IsRoutine image routine → ((op : Op) → weight op ≤ 1)
    → ((all : ℕ → ℕ → ℕ) → AreAmounts weight image all → ((k : ℕ) → k < routine → slice_index amounts k ≤ all k 0) → amount ≤ all routine 0) → limit < amount
    → AreOver image (AreTotals weight image) limit (λ totals. FitsEvents image totals stated) (Code (record { 0 = routine }) 0)
amounts_over weight image limit stated amounts routine amount plain found is_routine light least over =
    let some = some_amounts weight image plain light in (
      refl,
      is_routine,
      (λ routine. some.0 routine 0, (some.0, some.1, λ routine. refl)),
      λ totals are. omega (arith, least are.0 are.1 (found.least are.0 are.1), are.2 routine, over),
    )

light : (weight : Weight) (op : Op) → weight_of weight op ≤ 1
light Cost op = cost-light op
light Commands op = commands-light op

-- The amount of a routine after all its places are counted.
pub amount_found : (weight : Weight) (image : ImageParts) (lower amounts : List ℕ) (routine amount : ℕ) → PlainRulesHold image
    → LeastAmounts (weight_of weight) image (limit_of weight) lower routine → IsRoutine image routine
    → IsCountedFrom (weight_of weight) image (slice_index lower) routine amounts 0 → amount ≡ slice_index amounts 0 → IsAmount weight image lower routine amount
amount_found weight image lower amounts routine amount plain found is_routine counted first =
    let some = some_code image routine plain.ends is_routine in
    let least : (all : ℕ → ℕ → ℕ) → AreAmounts (weight_of weight) image all → ((k : ℕ) → k < routine → slice_index lower k ≤ all k 0) → amount ≤ all routine 0 =
    λ all are below. omega (arith, first, counted.least all are below 0 some (omega arith)) in
    record {
      holds = (slice_index amounts, sym first, λ place op is. counted.holds place op (omega arith) is);
      least = least;
      over = λ over.
          amounts_over (weight_of weight) image (limit_of weight) (stated_of weight image) lower routine amount plain found is_routine (light weight) least over;
    }
