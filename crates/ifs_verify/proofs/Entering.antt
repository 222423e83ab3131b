-- The tables of bounds: one more routine is entered.
use Rattle.std.proofs.Common.{ℕ, ◌≡◌, ◌<◌, ◌≤◌, ◌+◌, ◌*◌, List, [], ◌∷◌, ◌++◌, length, get_or, Option}
use Rattle.std.proofs.Common.{Some, None, slice_index, arith, below_more, refl, ap, sym, ◌∙◌, subst, inl, inr}
use Rattle.std.proofs.Math.Seq.{get_or-append_seam}
use Rattle.std.proofs.lemmas.Bool.{cases_eq, cases_lt}
use Rattle.std.proofs.lemmas.List.{get_or_append_left, get_or_past, length_push}
use Rattle.std.proofs.lemmas.Option.{slice_get_within, same_Some}
use Rattle.ifs_base.specs.declared.ids.RoutineId.{RoutineId}
use Rattle.ifs_base.specs.declared.op.Kind.{Kind}
use Rattle.ifs_base.specs.declared.op.Op.{Op}
use Rattle.ifs_base.specs.declared.op.Op.TheVariants.{Ret, Call}
use Rattle.ifs_image.specs.declared.parts.ImageParts.{ImageParts}
use Rattle.ifs_image.specs.Code.{op_at, code_of, effect}
use Rattle.ifs_verify.specs.Rules.{IsRoutine}
use Rattle.ifs_verify.specs.Typing.{IsTyping}
use Rattle.ifs_verify.specs.Bounds.{AreDepths, AreAmounts, callee_amount}
use Rattle.ifs_verify.specs.inner.Passes.{PlainRulesHold, IsTypedUpTo, kinds_at, HoldsHeight, AllHold, HoldsDepth}
use Rattle.ifs_verify.specs.inner.Passes.{HoldsByPlace, IsTypingHeld, IsCounted, LeastHeights, LeastDepths, LeastAmounts}
use Rattle.ifs_verify.proofs.Flow.{led_kinds}
use Rattle.ifs_verify.proofs.Holding.{passed_at}
use Rattle.ifs_verify.proofs.Instructions.{op_at-routine}
use Rattle.ifs_verify.proofs.Ways.{led}

pub entry_old : (xs : List ℕ) (x k : ℕ) → k < length xs → slice_index (xs ++ x ∷ []) k ≡ slice_index xs k
entry_old xs x k below = get_or_append_left xs (x ∷ []) 0 k below

pub entry_new : (xs : List ℕ) (x k : ℕ) → k ≡ length xs → slice_index (xs ++ x ∷ []) k ≡ x
entry_new xs x k e = subst (λ (n : ℕ). get_or (xs ++ x ∷ []) n 0 ≡ x) (sym e) (get_or-append_seam xs x [] 0)

pub entry_past : (xs : List ℕ) (x k : ℕ) → length xs < k → slice_index (xs ++ x ∷ []) k ≡ 0
entry_past xs x k past = get_or_past (xs ++ x ∷ []) k 0 (omega (arith, length_push xs x))

-- Every entry is within its limit if the old ones and the new one are.
pub low_more : (xs : List ℕ) (x : ℕ) (limit : ℕ → ℕ) → ((k : ℕ) → slice_index xs k ≤ limit k) → x ≤ limit (length xs)
    → (k : ℕ) → slice_index (xs ++ x ∷ []) k ≤ limit k
low_more xs x limit low le k =
    elim (cases_lt k (length xs)) [
      | inl below ↦ omega (arith, entry_old xs x k below, low k)
      | inr past ↦
          elim (cases_eq k (length xs)) [
            | inl e ↦ omega (arith, entry_new xs x k e, ap limit e, le)
            | inr ne ↦ omega (arith, entry_past xs x k (omega arith))
          ]
    ]

-- The kinds at a place, none if it has no list.
abbrev pub kinds_or : Option (List Kind) → List Kind
kinds_or None = []
kinds_or (Some kinds) = kinds

abbrev pub kinds_in : List (Option (List Kind)) → ℕ → List Kind
kinds_in lists place = kinds_or (kinds_at lists place)

-- Lists whose places are all passed are a typing.
pub typing_found : (image : ImageParts) (routine : ℕ) (lists : List (Option (List Kind))) → IsTypedUpTo image routine lists (length (code_of image routine))
    → IsTyping image routine (kinds_in lists)
typing_found image routine lists typed = record {
  start = ap kinds_or typed.start;
  flows = λ place op is.
      let p = typed.passed place op (slice_get_within (code_of image routine) place op is) is in
      let e : effect image op (kinds_in lists place) ≡ Some p.after =
      ap (λ (list : Option (List Kind)). effect image op (kinds_or list)) p.leaves.here ∙ p.leaves.effect_is in
      (p.after, e, λ to successor. ap kinds_or (p.onward to successor));
  results = λ place is.
      let p = typed.passed place Ret (slice_get_within (code_of image routine) place Ret is) is in
      ap kinds_or p.leaves.here ∙ p.leaves.results refl;
}

-- A height stays large enough if that of the callee is the same.
HoldsHeight-heights : (image : ImageParts) (old new : ℕ → ℕ) (op : Op) (kinds : List Kind) (height other : ℕ) → height ≡ other
    → ((callee : RoutineId) → op ≡ Call callee → old callee.0 ≡ new callee.0) → HoldsHeight image old op kinds height → HoldsHeight image new op kinds other
HoldsHeight-heights image old new op kinds height other e same holds = record {
  before = omega (arith, e, holds.before);
  after = λ left is. omega (arith, e, holds.after left is);
  call = λ callee is. omega (arith, e, same callee is, holds.call callee is);
}

-- A place with an instruction has a list of kinds.
kinds_known : (image : ImageParts) (routine : ℕ) (lists : List (Option (List Kind))) (place : ℕ) (op : Op) → IsTypedUpTo image routine lists (length (code_of image routine))
    → op_at image routine place ≡ Some op → kinds_at lists place ≡ Some (kinds_in lists place)
kinds_known image routine lists place op typed is =
    let p = typed.passed place op (slice_get_within (code_of image routine) place op is) is in
    p.leaves.here ∙ ap (λ (k : List Kind). Some k) (sym (ap kinds_or p.leaves.here))

new_low : (image : ImageParts) (heights : List ℕ) (routine height : ℕ) (lists : List (Option (List Kind))) → PlainRulesHold image
    → LeastHeights image heights routine → IsTypedUpTo image routine lists (length (code_of image routine))
    → ((bound : ℕ) → AllHold image routine (slice_index heights) (length (code_of image routine)) bound → height ≤ bound) → height ≤ 32 * (routine + 1)
new_low image heights routine height lists plain found typed least =
    least (32 * (routine + 1)) (λ place within op before is way.
    let there = led_kinds image routine (length (code_of image routine)) (length (code_of image routine)) place lists before plain typed (omega arith) way in
    let left = passed_at image routine lists (length (code_of image routine)) place op before typed within is there in
    let low : length before ≤ 32 = typed.within place before there in
    record {
      before = omega arith;
      after = λ after e.
          let same : left.0 ≡ after = same_Some left.0 after (sym left.1 ∙ e) in
          let short : length after ≤ 32 = subst (λ (k : List Kind). length k ≤ 32) same left.2 in
          omega arith;
      call = λ callee e.
          let lower = plain.calls routine place callee (is ∙ ap (λ (o : Op). Some o) e) in
          omega (arith, lower, found.low callee.0);
    })

pub heights_more : (image : ImageParts) (heights : List ℕ) (routine height : ℕ) (lists : List (Option (List Kind))) → PlainRulesHold image
    → LeastHeights image heights routine → IsTypedUpTo image routine lists (length (code_of image routine))
    → AllHold image routine (slice_index heights) (length (code_of image routine)) height
    → ((bound : ℕ) → AllHold image routine (slice_index heights) (length (code_of image routine)) bound → height ≤ bound)
    → LeastHeights image (heights ++ height ∷ []) (routine + 1)
heights_more image heights routine height lists plain found typed holds least =
    let long : length heights ≡ routine = found.long in
    let last : slice_index (heights ++ height ∷ []) routine ≡ height = entry_new heights height routine (sym long) in
    let lower : (k place : ℕ) (op : Op) → k ≤ routine → op_at image k place ≡ Some op → (callee : RoutineId) → op ≡ Call callee
    → slice_index heights callee.0 ≡ slice_index (heights ++ height ∷ []) callee.0 =
    λ k place op le is callee e.
    let less = plain.calls k place callee (is ∙ ap (λ (o : Op). Some o) e) in
    sym (entry_old heights height callee.0 (omega (arith, less, long))) in
    record {
      long = omega (arith, length_push heights height, long);
      low = low_more heights height (λ k. 32 * (k + 1)) found.low (omega (arith, new_low image heights routine height lists plain found typed least, long));
      held =
          let h : IsTypingHeld image (slice_index (heights ++ height ∷ [])) routine (kinds_in lists) = (
            typing_found image routine lists typed,
            λ place op is.
                HoldsHeight-heights image (slice_index heights) (slice_index (heights ++ height ∷ [])) op (kinds_in lists place) height
                (slice_index (heights ++ height ∷ []) routine) (sym last) (lower routine place op (omega arith) is)
                (holds place (slice_get_within (code_of image routine) place op is) op (kinds_in lists place) is
                (typed.leads place (kinds_in lists place) (kinds_known image routine lists place op typed is))),
          ) in
          below_more (λ n. (kinds : ℕ → List Kind) × IsTypingHeld image (slice_index (heights ++ height ∷ [])) n kinds) routine (λ k before.
          let h = found.held k before in (
            h.0,
            (
              h.1.0,
              λ place op is.
                  HoldsHeight-heights image (slice_index heights) (slice_index (heights ++ height ∷ [])) op (h.0 place) (slice_index heights k)
                  (slice_index (heights ++ height ∷ []) k) (sym (entry_old heights height k (omega (arith, long)))) (lower k place op (omega arith) is) (h.1.1 place op is),
            ),
          )) (kinds_in lists, h);
      least = λ kinds all typings are.
          let most : height ≤ all routine =
          least (all routine) (λ place within op before is way.
          let is_routine : IsRoutine image routine = op_at-routine image routine place op is in
          let same : kinds routine place ≡ before = led image routine (length (code_of image routine)) place before (kinds routine) (typings routine is_routine) way in
          record {
            before = subst (λ (list : List Kind). length list ≤ all routine) same (are.before routine place op is);
            after = λ after e. are.after routine place op after is (ap (λ (list : List Kind). effect image op list) same ∙ e);
            call = λ callee e.
                let call = is ∙ ap (λ (o : Op). Some o) e in
                let less = plain.calls routine place callee call in
                let high = are.calls routine place callee call in
                let size = ap (λ (list : List Kind). length list) same in
                omega (arith, high, size, found.least kinds all typings are callee.0 less);
          }) in
          below_more (λ k. slice_index (heights ++ height ∷ []) k ≤ all k) routine (λ k before.
          omega (arith, entry_old heights height k (omega (arith, long)), found.least kinds all typings are k before)) (omega (arith, last, most));
    }

-- The depth of a routine is the least one.
pub new_depth : (image : ImageParts) (depths : List ℕ) (routine depth : ℕ) → PlainRulesHold image → LeastDepths image depths routine
    → ((bound : ℕ) → HoldsDepth image (slice_index depths) routine bound → depth ≤ bound) → (all : ℕ → ℕ) → AreDepths image all → depth ≤ all routine
new_depth image depths routine depth plain found least all are =
    least (all routine) (record {
      own = are.own routine;
      calls = λ place callee is. omega (arith, are.calls routine place callee is, found.least all are callee.0 (plain.calls routine place callee is));
    })

pub depths_more : (image : ImageParts) (depths : List ℕ) (routine depth : ℕ) → PlainRulesHold image → LeastDepths image depths routine
    → HoldsDepth image (slice_index depths) routine depth → ((bound : ℕ) → HoldsDepth image (slice_index depths) routine bound → depth ≤ bound) → depth ≤ 32
    → LeastDepths image (depths ++ depth ∷ []) (routine + 1)
depths_more image depths routine depth plain found holds least le =
    let long : length depths ≡ routine = found.long in
    let last : slice_index (depths ++ depth ∷ []) routine ≡ depth = entry_new depths depth routine (sym long) in
    let lower : (k place : ℕ) (callee : RoutineId) → k ≤ routine → op_at image k place ≡ Some (Call callee)
    → slice_index depths callee.0 ≡ slice_index (depths ++ depth ∷ []) callee.0 =
    λ k place callee le is. sym (entry_old depths depth callee.0 (omega (arith, plain.calls k place callee is, long))) in
    record {
      long = omega (arith, length_push depths depth, long);
      low = low_more depths depth (λ k. 32) found.low le;
      held =
          let h : HoldsDepth image (slice_index (depths ++ depth ∷ [])) routine (slice_index (depths ++ depth ∷ []) routine) = record {
            own = omega (arith, last, holds.own);
            calls = λ place callee is. omega (arith, last, lower routine place callee (omega arith) is, holds.calls place callee is);
          } in
          below_more (λ n. HoldsDepth image (slice_index (depths ++ depth ∷ [])) n (slice_index (depths ++ depth ∷ []) n)) routine (λ k before.
          let h = found.held k before in
          let same = entry_old depths depth k (omega (arith, long)) in
          record {
            own = omega (arith, same, h.own);
            calls = λ place callee is. omega (arith, same, lower k place callee (omega arith) is, h.calls place callee is);
          }) h;
      least = λ all are.
          let most : depth ≤ all routine = new_depth image depths routine depth plain found least all are in
          below_more (λ k. slice_index (depths ++ depth ∷ []) k ≤ all k) routine (λ k before.
          omega (arith, entry_old depths depth k (omega (arith, long)), found.least all are k before)) (omega (arith, last, most));
    }

callee_amount-same : (old new : ℕ → ℕ) (op : Op) → ((callee : RoutineId) → op ≡ Call callee → old callee.0 ≡ new callee.0)
    → callee_amount (λ routine to. old routine) op ≡ callee_amount (λ routine to. new routine) op
callee_amount-same old new (Call callee) same = same callee refl
callee_amount-same old new op same = refl

pub amounts_more : (weight : Op → ℕ) (image : ImageParts) (limit : ℕ) (amounts : List ℕ) (routine amount : ℕ) → PlainRulesHold image
    → LeastAmounts weight image limit amounts routine
    → (by_place : ℕ → ℕ) × (by_place 0 ≡ amount) × HoldsByPlace weight image (slice_index amounts) routine by_place
    → ((all : ℕ → ℕ → ℕ) → AreAmounts weight image all → ((k : ℕ) → k < routine → slice_index amounts k ≤ all k 0) → amount ≤ all routine 0) → amount ≤ limit
    → LeastAmounts weight image limit (amounts ++ amount ∷ []) (routine + 1)
amounts_more weight image limit amounts routine amount plain found counted least le =
    let long : length amounts ≡ routine = found.long in
    let last : slice_index (amounts ++ amount ∷ []) routine ≡ amount = entry_new amounts amount routine (sym long) in
    let lower : (k place : ℕ) (op : Op) → k ≤ routine → op_at image k place ≡ Some op
    → callee_amount (λ r to. slice_index amounts r) op ≡ callee_amount (λ r to. slice_index (amounts ++ amount ∷ []) r) op =
    λ k place op le is.
    callee_amount-same (slice_index amounts) (slice_index (amounts ++ amount ∷ [])) op (λ callee e.
    sym (entry_old amounts amount callee.0 (omega (arith, plain.calls k place callee (is ∙ ap (λ (o : Op). Some o) e), long)))) in
    let kept : (k : ℕ) (by_place : ℕ → ℕ) → k ≤ routine → HoldsByPlace weight image (slice_index amounts) k by_place → HoldsByPlace weight image (slice_index (amounts ++ amount ∷ [])) k by_place =
    λ k by_place le held place op is.
    let h = held place op is in
    record {
      own = omega (arith, lower k place op le is, h.own);
      onward = λ to successor. omega (arith, lower k place op le is, h.onward to successor);
    } in
    record {
      long = omega (arith, length_push amounts amount, long);
      low = low_more amounts amount (λ k. limit) found.low le;
      held =
          below_more (λ n. (by_place : ℕ → ℕ) × IsCounted weight image (slice_index (amounts ++ amount ∷ [])) n by_place) routine (λ k before.
          let h = found.held k before in
          (h.0, (h.1.0 ∙ sym (entry_old amounts amount k (omega (arith, long))), kept k h.0 (omega arith) h.1.1)))
          (counted.0, (counted.1 ∙ sym last, kept routine counted.0 (omega arith) counted.2));
      least = λ all are.
          let most : amount ≤ all routine 0 = least all are (found.least all are) in
          below_more (λ k. slice_index (amounts ++ amount ∷ []) k ≤ all k 0) routine (λ k before.
          omega (arith, entry_old amounts amount k (omega (arith, long)), found.least all are k before)) (omega (arith, last, most));
    }
