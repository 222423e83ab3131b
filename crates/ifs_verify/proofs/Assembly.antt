-- From the bounds that the passes find to the rules of acceptance, and back.
use Rattle.std.proofs.Common.{ℕ, ◌≡◌, ◌<◌, ◌≤◌, ◌+◌, ◌-◌, List, [], length, Some}
use Rattle.std.proofs.Common.{slice_index, arith, refl, ap, sym, ◌∙◌, subst, inl, inr, ◌⊎◌}
use Rattle.std.specs.List.{slice_get}
use Rattle.std.proofs.lemmas.Bool.{cases_lt}
use Rattle.std.proofs.lemmas.Option.{same_Some}
use Rattle.ifs_base.specs.declared.ids.RoutineId.{RoutineId}
use Rattle.ifs_base.specs.declared.op.Kind.{Kind}
use Rattle.ifs_base.specs.declared.op.Op.{Op}
use Rattle.ifs_base.specs.declared.op.Op.TheVariants.{Call}
use Rattle.ifs_image.specs.declared.parts.ImageParts.{ImageParts}
use Rattle.ifs_image.specs.declared.parts.StateSpec.{StateSpec}
use Rattle.ifs_image.specs.Code.{op_at}
use Rattle.ifs_verify.specs.declared.budgets.Role.TheVariants.{Init, Body}
use Rattle.ifs_verify.specs.Rules.{IsRoutine, IndexesFit}
use Rattle.ifs_verify.specs.Typing.{IsTyped}
use Rattle.ifs_verify.specs.Bounds.{AreDepths, AreAmounts, callee_amount, FitsEvents, FitsHandlers}
use Rattle.ifs_verify.specs.Accepted.{EachWithin, StackFits, FramesFit, AmountsFit}
use Rattle.ifs_verify.specs.Refused.{AreOver, AreTypedHeights, AreTotals}
use Rattle.ifs_verify.specs.declared.fault.At.TheVariants.{Head, Code}
use Rattle.ifs_verify.specs.inner.Passes.{PlainRulesHold, HoldsHeight, IsTypingHeld, IsCounted}
use Rattle.ifs_verify.specs.inner.Passes.{LeastHeights, LeastDepths, LeastAmounts, Reaches}
use Rattle.ifs_verify.proofs.Instructions.{op_at-routine}

-- A choice of one value for each number below another.
abbrev pick : {A : Type 0} (d : A) (P : ℕ → A → Type 0) (n : ℕ) → ((k : ℕ) → k < n → (x : A) × P k x) → (k : ℕ) → ((k < n) ⊎ (n ≤ k)) → A
pick d P n each k (inl below) = (each k below).0
pick d P n each k (inr past) = d

picked : {A : Type 0} (d : A) (P : ℕ → A → Type 0) (n : ℕ) (each : (k : ℕ) → k < n → (x : A) × P k x) (k : ℕ) (where_is : (k < n) ⊎ (n ≤ k)) → k < n
    → P k (pick d P n each k where_is)
picked d P n each k (inl below) h = (each k below).1
picked d P n each k (inr past) h = absurd (omega arith)

pub choose : {A : Type 0} (d : A) (P : ℕ → A → Type 0) (n : ℕ) → ((k : ℕ) → k < n → (x : A) × P k x) → (f : ℕ → A) × ((k : ℕ) → k < n → P k (f k))
choose d P n each = (λ k. pick d P n each k (cases_lt k n), λ k h. picked d P n each k (cases_lt k n) h)

-- Smaller numbers fit what larger ones fit.
pub FitsHandlers-lower : (image : ImageParts) (high low : ℕ → ℕ) (stated : ℕ) → IndexesFit image
    → ((routine : ℕ) → IsRoutine image routine → low routine ≤ high routine) → FitsHandlers image high stated → FitsHandlers image low stated
FitsHandlers-lower image high low stated indexes le fits = record {
  always_init = omega (arith, le image.always.init.0 indexes.always.0, fits.always_init);
  always_body = omega (arith, le image.always.body.0 indexes.always.1, fits.always_body);
  init = λ k state is. omega (arith, le state.handlers.init.0 (indexes.states k state is).0, fits.init k state is);
  body = λ k state is. omega (arith, le state.handlers.body.0 (indexes.states k state is).1, fits.body k state is);
}

pub FitsEvents-lower : (image : ImageParts) (high low : ℕ → ℕ) (stated : ℕ) → IndexesFit image
    → ((routine : ℕ) → IsRoutine image routine → low routine ≤ high routine) → FitsEvents image high stated → FitsEvents image low stated
FitsEvents-lower image high low stated indexes le fits = record {
  evaluation = λ j k current next is_current is_next.
      omega (
        arith,
        le image.always.body.0 indexes.always.1,
        le current.handlers.body.0 (indexes.states j current is_current).1,
        le next.handlers.init.0 (indexes.states k next is_next).0,
        fits.evaluation j k current next is_current is_next,
      );
  opening = λ first is.
      omega (arith, le image.always.init.0 indexes.always.0, le first.handlers.init.0 (indexes.states image.initial.0 first is).0, fits.opening first is);
}

-- The typings and heights that the passes find.
abbrev Chosen : ImageParts → List ℕ → Type 0
Chosen image heights = (kinds : ℕ → ℕ → List Kind) × ((routine : ℕ) → IsRoutine image routine → IsTypingHeld image (slice_index heights) routine (kinds routine))

chosen : (image : ImageParts) (heights : List ℕ) → LeastHeights image heights (length image.routines) → Chosen image heights
chosen image heights found = choose (λ place. []) (λ routine kinds. IsTypingHeld image (slice_index heights) routine kinds) (length image.routines) found.held

pub typed : (image : ImageParts) (heights : List ℕ) → LeastHeights image heights (length image.routines) → IsTyped image
typed image heights found = let all = chosen image heights found in (all.0, λ routine is_routine. (all.1 routine is_routine).0)

pub heights_are : (image : ImageParts) (heights : List ℕ) → LeastHeights image heights (length image.routines) → AreTypedHeights image (slice_index heights)
heights_are image heights found =
    let all = chosen image heights found in
    let holds : (routine place : ℕ) (op : Op) → op_at image routine place ≡ Some op → HoldsHeight image (slice_index heights) op (all.0 routine place) (slice_index heights routine) =
    λ routine place op is. (all.1 routine (op_at-routine image routine place op is)).1 place op is in (
      all.0,
      λ routine is_routine. (all.1 routine is_routine).0,
      record {
        before = λ routine place op is. (holds routine place op is).before;
        after = λ routine place op next is e. (holds routine place op is).after next e;
        calls = λ routine place callee is. (holds routine place (Call callee) is).call callee refl;
      },
    )

pub stack_fits : (image : ImageParts) (heights : List ℕ) → LeastHeights image heights (length image.routines)
    → ((routine : ℕ) → IsRoutine image routine → slice_index heights routine ≤ 32) → FitsHandlers image (slice_index heights) image.budgets.stack → StackFits image
stack_fits image heights found low fits =
    let are = heights_are image heights found in (are.0, slice_index heights, are.1, are.2, low, fits)

-- Heights over the limit, and over the stated stack.
pub stack_over : (image : ImageParts) (heights : List ℕ) (routine : ℕ) → LeastHeights image heights (length image.routines) → IsRoutine image routine
    → 32 < slice_index heights routine → AreOver image (AreTypedHeights image) 32 (λ heights. FitsHandlers image heights image.budgets.stack) (Code (record { 0 = routine }) 0)
stack_over image heights routine found is_routine over = (
  refl,
  is_routine,
  (slice_index heights, heights_are image heights found),
  λ bounds are. omega (arith, found.least are.0 bounds are.1 are.2 routine is_routine, over),
)

pub stack_unfit : (image : ImageParts) (heights : List ℕ) → IndexesFit image → LeastHeights image heights (length image.routines)
    → ((routine : ℕ) → IsRoutine image routine → slice_index heights routine ≤ 32) → ¬ FitsHandlers image (slice_index heights) image.budgets.stack
    → AreOver image (AreTypedHeights image) 32 (λ heights. FitsHandlers image heights image.budgets.stack) Head
stack_unfit image heights indexes found low unfit = (
  (slice_index heights, heights_are image heights found, low),
  λ bounds are fits.
      unfit (FitsHandlers-lower image bounds (slice_index heights) image.budgets.stack indexes (λ routine is_routine. found.least are.0 bounds are.1 are.2 routine is_routine) fits),
)

-- Depths of the image that are the found ones.
pub record FoundDepths (image : ImageParts) (depths : List ℕ) (all : ℕ → ℕ) : Type 0 where
  pub are : AreDepths image all
  pub within : EachWithin image all 32
  pub same : (routine : ℕ) → IsRoutine image routine → all routine ≡ slice_index depths routine

depths_are : (image : ImageParts) (depths : List ℕ) → PlainRulesHold image → LeastDepths image depths (length image.routines)
    → FoundDepths image depths (λ routine. slice_index depths routine + (1 - slice_index depths routine))
depths_are image depths plain found = record {
  are = record {
    own = λ routine. omega arith;
    calls = λ routine place callee is.
        let is_routine = op_at-routine image routine place (Call callee) is in
        let less = plain.calls routine place callee is in
        let below = found.held callee.0 (omega (arith, less, is_routine)) in
        omega (arith, (found.held routine is_routine).calls place callee is, below.own);
  };
  within = λ routine is_routine. omega (arith, (found.held routine is_routine).own, found.low routine);
  same = λ routine is_routine. omega (arith, (found.held routine is_routine).own);
}

pub frames_fit : (image : ImageParts) (depths : List ℕ) → PlainRulesHold image → LeastDepths image depths (length image.routines)
    → FitsHandlers image (slice_index depths) image.budgets.frames → FramesFit image
frames_fit image depths plain found fits =
    let all : ℕ → ℕ = λ routine. slice_index depths routine + (1 - slice_index depths routine) in
    let known = depths_are image depths plain found in (
      all,
      known.are,
      known.within,
      FitsHandlers-lower image (slice_index depths) all image.budgets.frames plain.indexes (λ routine is_routine. omega (arith, known.same routine is_routine)) fits,
    )

pub frames_unfit : (image : ImageParts) (depths : List ℕ) → PlainRulesHold image → LeastDepths image depths (length image.routines)
    → ¬ FitsHandlers image (slice_index depths) image.budgets.frames
    → AreOver image (AreDepths image) 32 (λ depths. FitsHandlers image depths image.budgets.frames) Head
frames_unfit image depths plain found unfit =
    let known = depths_are image depths plain found in (
      (λ routine. slice_index depths routine + (1 - slice_index depths routine), known.are, known.within),
      λ bounds are fits.
          unfit (FitsHandlers-lower image bounds (slice_index depths) image.budgets.frames plain.indexes (λ routine is_routine. found.least bounds are routine is_routine) fits),
    )

callee_amount-below : (all : ℕ → ℕ → ℕ) (old : ℕ → ℕ) (op : Op) → ((callee : RoutineId) → op ≡ Call callee → all callee.0 0 ≤ old callee.0)
    → callee_amount all op ≤ callee_amount (λ routine to. old routine) op
callee_amount-below all old (Call callee) le = le callee refl
callee_amount-below all old op le = omega arith

-- Amounts of the image that are the found ones.
pub record FoundAmounts (weight : Op → ℕ) (image : ImageParts) (limit : ℕ) (amounts : List ℕ) : Type 0 where
  pub all : ℕ → ℕ → ℕ
  pub are : AreAmounts weight image all
  pub within : EachWithin image (λ routine. all routine 0) limit
  pub same : (routine : ℕ) → IsRoutine image routine → all routine 0 ≡ slice_index amounts routine

amounts_are : (weight : Op → ℕ) (image : ImageParts) (limit : ℕ) (amounts : List ℕ) → PlainRulesHold image
    → LeastAmounts weight image limit amounts (length image.routines) → FoundAmounts weight image limit amounts
amounts_are weight image limit amounts plain found =
    let all : (by_place : ℕ → ℕ → ℕ) × ((k : ℕ) → k < length image.routines → IsCounted weight image (slice_index amounts) k (by_place k)) =
    choose (λ place. 0) (λ routine each. IsCounted weight image (slice_index amounts) routine each) (length image.routines) found.held in
    let callee : (routine place : ℕ) (op : Op) → op_at image routine place ≡ Some op → callee_amount all.0 op ≤ callee_amount (λ r to. slice_index amounts r) op =
    λ routine place op is.
    callee_amount-below all.0 (slice_index amounts) op (λ called e.
    let less = plain.calls routine place called (is ∙ ap (λ (o : Op). Some o) e) in
    let is_routine = op_at-routine image routine place op is in
    let same = (all.1 called.0 (omega (arith, less, is_routine))).0 in
    omega (arith, same)) in
    record {
      all = all.0;
      are = record {
        own = λ routine place op is.
            let h = (all.1 routine (op_at-routine image routine place op is)).1 place op is in
            omega (arith, callee routine place op is, h.own);
        onward = λ routine place to op is successor.
            let h = (all.1 routine (op_at-routine image routine place op is)).1 place op is in
            omega (arith, callee routine place op is, h.onward to successor);
      };
      within = λ routine is_routine. omega (arith, (all.1 routine is_routine).0, found.low routine);
      same = λ routine is_routine. (all.1 routine is_routine).0;
    }

pub amounts_fit : (weight : Op → ℕ) (image : ImageParts) (limit stated : ℕ) (amounts : List ℕ) → PlainRulesHold image
    → LeastAmounts weight image limit amounts (length image.routines) → FitsEvents image (slice_index amounts) stated → AmountsFit weight image limit stated
amounts_fit weight image limit stated amounts plain found fits =
    let known = amounts_are weight image limit amounts plain found in (
      known.all,
      known.are,
      known.within,
      FitsEvents-lower image (slice_index amounts) (λ routine. known.all routine 0) stated plain.indexes (λ routine is_routine. omega (arith, known.same routine is_routine)) fits,
    )

pub amounts_unfit : (weight : Op → ℕ) (image : ImageParts) (limit stated : ℕ) (amounts : List ℕ) → PlainRulesHold image
    → LeastAmounts weight image limit amounts (length image.routines) → ¬ FitsEvents image (slice_index amounts) stated
    → AreOver image (AreTotals weight image) limit (λ totals. FitsEvents image totals stated) Head
amounts_unfit weight image limit stated amounts plain found unfit =
    let known = amounts_are weight image limit amounts plain found in (
      (λ routine. known.all routine 0, (known.all, known.are, λ routine. refl), known.within),
      λ totals are fits.
          unfit (FitsEvents-lower image totals (slice_index amounts) stated plain.indexes
          (λ routine is_routine. omega (arith, found.least are.0 are.1 routine is_routine, are.2 routine)) fits),
    )

-- The sum of the greatest handlers is within the stated amount if each event is.
pub events_fit : (image : ImageParts) (amount : ℕ → ℕ) (stated bodies inits : ℕ) (first : StateSpec) → slice_get image.states image.initial.0 ≡ Some first
    → Reaches Body image amount bodies → Reaches Init image amount inits
    → amount image.always.init.0 + amount first.handlers.init.0 ≤ stated → amount image.always.body.0 + bodies + inits ≤ stated → FitsEvents image amount stated
events_fit image amount stated bodies inits first found body init opening evaluation = record {
  evaluation = λ j k current next is_current is_next. omega (arith, body j current is_current, init k next is_next, evaluation);
  opening = λ other is.
      let same : first ≡ other = same_Some first other (sym found ∙ is) in
      subst (λ (s : StateSpec). amount image.always.init.0 + amount s.handlers.init.0 ≤ stated) same opening;
}

pub sums_fit : (image : ImageParts) (amount : ℕ → ℕ) (stated bodies inits : ℕ) (first : StateSpec) → slice_get image.states image.initial.0 ≡ Some first
    → ((bound : ℕ) → Reaches Body image amount bound → bodies ≤ bound) → ((bound : ℕ) → Reaches Init image amount bound → inits ≤ bound)
    → FitsEvents image amount stated → amount image.always.body.0 + bodies + inits ≤ stated
sums_fit image amount stated bodies inits first found least_body least_init fits =
    let with_init : (k : ℕ) (next : StateSpec) → slice_get image.states k ≡ Some next → amount image.always.body.0 + bodies + amount next.handlers.init.0 ≤ stated =
    λ k next is_next.
    let room = fits.evaluation image.initial.0 k first next found is_next in
    let most : bodies ≤ stated - (amount image.always.body.0 + amount next.handlers.init.0) =
    least_body (stated - (amount image.always.body.0 + amount next.handlers.init.0))
    (λ j current is_current. omega (arith, fits.evaluation j k current next is_current is_next)) in
    omega (arith, room, most) in
    let room = with_init image.initial.0 first found in
    let most : inits ≤ stated - (amount image.always.body.0 + bodies) =
    least_init (stated - (amount image.always.body.0 + bodies)) (λ k next is_next. omega (arith, with_init k next is_next)) in
    omega (arith, room, most)
