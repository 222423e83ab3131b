-- If all routines of an image are good, and its tables and budgets keep the rules of acceptance, so does the image.
use Rattle.std.proofs.Common.{◌≡◌, ℕ, zero, suc, ◌+◌, ◌-◌, ◌<◌, ◌≤◌, ⊎_elim, List, [], ◌∷◌, ◌++◌, length}
use Rattle.std.proofs.Common.{Option, Some, None, refl, sym, ap, ◌∙◌, subst, arith, length-append}
use Rattle.std.specs.Prelude.{slice_get, nat_le, if◌then◌else◌}
use Rattle.std.proofs.lemmas.Bool.{cases_lt, le-leb, lt-leb}
use Rattle.std.proofs.lemmas.Option.{none-some, same_Some, slice_get_within}
use Rattle.ifs_base.specs.declared.ids.RoutineId.{RoutineId}
use Rattle.ifs_base.specs.declared.op.Kind.{Kind}
use Rattle.ifs_base.specs.declared.op.Op.{Op}
use Rattle.ifs_base.specs.declared.op.Op.TheVariants.{Ret, Jump, JumpFalse, JumpTrue, Call}
use Rattle.ifs_image.specs.declared.parts.Routine.{Routine}
use Rattle.ifs_image.specs.declared.parts.ImageParts.{ImageParts}
use Rattle.ifs_image.specs.Code.{code_in, code_of, params_in, params_of, results_in, op_at, IsSuccessor, target_of, effect}
use Rattle.ifs_verify.specs.Rules.{IsRoutine, HasOperand, JumpsLeadOn, RoutinesEnd, CallsGoDown, PlacesAreReached}
use Rattle.ifs_verify.specs.Typing.{AreTypings}
use Rattle.ifs_verify.specs.Laws.{HasOneTyping}
use Rattle.ifs_verify.specs.Bounds.{AreHeights, AreDepths, callee_amount, AreAmounts}
use Rattle.ifs_gen.proofs.Rows.{entry_at, at_front, has_all, has_left}
use Rattle.ifs_gen.proofs.Fine.{Callees, CallsWithin, IsGood, IsAt, inside, last, is_at}
use Rattle.ifs_gen.specs.Runs.{HasAt}

-- Each routine of a list is good.
abbrev pub EachGood : ImageParts → Callees → List Routine → Type 0
EachGood image callees [] = Unit {0}
EachGood image callees (r ∷ routines) = IsGood image callees r × EachGood image callees routines

-- The kinds at each place of each routine, and its height.
abbrev pub kinds_in : (image : ImageParts) (callees : Callees) (routines : List Routine) → EachGood image callees routines → ℕ → ℕ → List Kind
kinds_in image callees [] good k place = []
kinds_in image callees (r ∷ routines) good zero place = good.0.kinds place
kinds_in image callees (r ∷ routines) good (suc k) place = kinds_in image callees routines good.1 k place

abbrev pub heights_in : (image : ImageParts) (callees : Callees) (routines : List Routine) → EachGood image callees routines → ℕ → ℕ
heights_in image callees [] good k = 0
heights_in image callees (r ∷ routines) good zero = good.0.height
heights_in image callees (r ∷ routines) good (suc k) = heights_in image callees routines good.1 k

-- The total weight of the instructions of a code from a place on.
abbrev pub amount : (Op → ℕ) → List Op → ℕ → ℕ
amount weight [] place = 0
amount weight (op ∷ ops) zero = weight op + amount weight ops zero
amount weight (op ∷ ops) (suc place) = amount weight ops place

pub amount_append : (weight : Op → ℕ) (xs ys : List Op) → amount weight (xs ++ ys) zero ≡ amount weight xs zero + amount weight ys zero
amount_append weight [] ys = let same : amount weight ys zero ≡ 0 + amount weight ys zero = omega arith in same
amount_append weight (x ∷ xs) ys = let e = amount_append weight xs ys in omega (arith, e)

amount_at : (weight : Op → ℕ) (code : List Op) (place : ℕ) (op : Op) → slice_get code place ≡ Some op → amount weight code place ≡ weight op + amount weight code (place + 1)
amount_at weight [] place op e = absurd (none-some op e)
amount_at weight (x ∷ code) zero op e = ap (λ o. weight o + amount weight code zero) (same_Some x op e)
amount_at weight (x ∷ code) (suc place) op e =
    let next : suc place + 1 ≡ suc (place + 1) = omega arith in
    amount_at weight code place op e ∙ ap (λ n. weight op + n) (sym (ap (amount weight (x ∷ code)) next))

amount_first : (weight : Op → ℕ) (op : Op) (code : List Op) (place : ℕ) → amount weight code place ≤ amount weight code zero
amount_first weight op [] place = omega arith
amount_first weight op (x ∷ code) zero = omega arith
amount_first weight op (x ∷ code) (suc place) = let h = amount_first weight op code place in omega (arith, h)

amount_later : (weight : Op → ℕ) (code : List Op) (place to : ℕ) → place ≤ to → amount weight code to ≤ amount weight code place
amount_later weight [] place to le = omega arith
amount_later weight (x ∷ code) zero to le = amount_first weight x (x ∷ code) to
amount_later weight (x ∷ code) (suc place) zero le = absurd (omega arith)
amount_later weight (x ∷ code) (suc place) (suc to) le = amount_later weight code place to (omega arith)

amount_past : (weight : Op → ℕ) (code : List Op) (place : ℕ) → length code ≤ place → amount weight code place ≡ 0
amount_past weight [] place le = refl
amount_past weight (x ∷ code) zero le = absurd (omega arith)
amount_past weight (x ∷ code) (suc place) le = amount_past weight code place (omega arith)

-- If two weights agree on the instructions of a code, so do its totals.
pub amount_same : (f g : Op → ℕ) (code : List Op) → ((place : ℕ) (op : Op) → slice_get code place ≡ Some op → f op ≡ g op) → (place : ℕ) → amount f code place ≡ amount g code place
amount_same f g [] same place = refl
amount_same f g (x ∷ code) same zero =
    let here = same 0 x refl in
    let rest = amount_same f g code (λ place op e. same (suc place) op e) zero in
    omega (arith, here, rest)
amount_same f g (x ∷ code) same (suc place) = amount_same f g code (λ place op e. same (suc place) op e) place

-- The weight of a callee depends only on the called routine.
callee_same : (f g : ℕ → ℕ → ℕ) (op : Op) → ((callee : RoutineId) → op ≡ Call callee → f callee.0 0 ≡ g callee.0 0) → callee_amount f op ≡ callee_amount g op
callee_same f g (Call callee) same = same callee refl
callee_same f g op same = refl

callee_less : (f g : ℕ → ℕ → ℕ) (op : Op) → ((routine : ℕ) → f routine 0 ≤ g routine 0) → callee_amount f op ≤ callee_amount g op
callee_less f g (Call callee) less = less callee.0
callee_less f g op less = omega arith

-- An instruction other than a call adds no weight of a callee.
no_callee : (amounts : ℕ → ℕ → ℕ) (op : Op) → ((callee : RoutineId) → op ≡ Call callee → ⊥) → callee_amount amounts op ≡ 0
no_callee amounts (Call callee) never = absurd (never callee refl)
no_callee amounts op never = refl

-- The weight of an instruction with that of its callee.
abbrev pub with_callee : (Op → ℕ) → ImageParts → Op → ℕ
with_callee weight image op = weight op + callee_amount (λ routine place. amount weight (code_of image routine) place) op

-- If jumps lead forward, so does each path.
leads_on : (op : Op) (place to : ℕ) → IsSuccessor op place to → ((target : ℕ) → target_of op ≡ Some target → place < target) → place < to
leads_on Ret place to h jumps = absurd h
leads_on (Jump target) place to h jumps = let j = jumps target refl in omega (arith, h, j)
leads_on (JumpFalse target) place to h jumps = let j = jumps target refl in ⊎_elim (λ e. omega (arith, e)) (λ e. omega (arith, e, j)) h
leads_on (JumpTrue target) place to h jumps = let j = jumps target refl in ⊎_elim (λ e. omega (arith, e)) (λ e. omega (arith, e, j)) h
leads_on op place to h jumps = omega (arith, h)

module _ (image : ImageParts) (callees : Callees) where
  -- A good routine at its index in a list.
  record Found (routines : List Routine) (all : EachGood image callees routines) (k : ℕ) (r : Routine) : Type 0 where
    good : IsGood image callees r
    kinds : kinds_in image callees routines all k ≡ good.kinds
    height : heights_in image callees routines all k ≡ good.height

  found : (routines : List Routine) (all : EachGood image callees routines) (k : ℕ) (r : Routine) → slice_get routines k ≡ Some r → Found routines all k r
  found [] all k r e = absurd (none-some r e)
  found (x ∷ routines) all zero r e =
      let here : Found (x ∷ routines) all zero x = record { good = all.0; kinds = refl; height = refl } in
      subst (λ y. Found (x ∷ routines) all zero y) (same_Some x r e) here
  found (x ∷ routines) all (suc k) r e =
      let f = found routines all.1 k r e in
      record { good = f.good; kinds = f.kinds; height = f.height }

  module _ (all : EachGood image callees image.routines) where
    abbrev kinds : ℕ → ℕ → List Kind
    kinds routine place = kinds_in image callees image.routines all routine place

    abbrev heights : ℕ → ℕ
    heights routine = heights_in image callees image.routines all routine

    -- A routine of the image.
    record Has (routine : ℕ) : Type 0 where
      r : Routine
      at : slice_get image.routines routine ≡ Some r
      found : Found image.routines all routine r
      code : code_of image routine ≡ found.good.front ++ Ret ∷ []
      long : length (code_of image routine) ≡ length found.good.front + 1

    has_at : (routine : ℕ) (r : Routine) → slice_get image.routines routine ≡ Some r → Has routine
    has_at routine r at =
        let f = found image.routines all routine r at in
        let code = ap code_in at ∙ f.good.code in
        record { r = r; at = at; found = f; code = code; long = ap length code ∙ length-append f.good.front (Ret ∷ []) }

    has : (routine : ℕ) → IsRoutine image routine → Has routine
    has routine is = let there = entry_at image.routines routine is in has_at routine there.0 there.1

    -- An instruction of a routine.
    record HasOp (routine place : ℕ) (op : Op) : Type 0 where
      in_routine : Has routine
      is : IsAt image callees in_routine.r in_routine.found.good place op

    has_op_in : (o : Option Routine) (routine place : ℕ) (op : Op) → slice_get image.routines routine ≡ o → op_at image routine place ≡ Some op → HasOp routine place op
    has_op_in None routine place op e h = absurd (none-some op (sym (ap (λ o. slice_get (code_in o) place) e) ∙ h))
    has_op_in (Some r) routine place op e h =
        let there = has_at routine r e in
        record { in_routine = there; is = is_at image callees there.r there.found.good place op (sym (ap (λ o. slice_get (code_in o) place) there.at) ∙ h) }

    has_op : (routine place : ℕ) (op : Op) → op_at image routine place ≡ Some op → HasOp routine place op
    has_op routine place op h = has_op_in (slice_get image.routines routine) routine place op refl h

    pub operands : (routine place : ℕ) (op : Op) → op_at image routine place ≡ Some op → HasOperand image op
    operands routine place op h =
        let s = has_op routine place op h in
        elim s.is [
          | inside within fine ↦ fine.operand
          | last at ret ↦ subst (λ o. HasOperand image o) (sym ret) tt
        ]

    pub jumps : JumpsLeadOn image
    jumps routine place op target h t =
        let s = has_op routine place op h in
        let long = s.in_routine.long in
        elim s.is [
          | inside within fine ↦ let j = fine.jumps target t in (j.0, omega (arith, j.1, long))
          | last at ret ↦ absurd (none-some target (sym (ap target_of ret) ∙ t))
        ]

    pub ends : RoutinesEnd image
    ends routine is =
        let there = has routine is in
        let long = there.long in
        let end : length (code_of image routine) - 1 ≡ length there.found.good.front = omega (arith, long) in
        ap (λ p. op_at image routine p) end ∙ ap (λ c. slice_get c (length there.found.good.front)) there.code ∙ at_front there.found.good.front Ret []

    pub reached : PlacesAreReached image
    reached routine zero lt within = absurd (omega (arith, lt))
    reached routine (suc place) lt within =
        let there = entry_at (code_of image routine) place (omega (arith, within)) in
        let s = has_op routine place there.0 there.1 in
        let long = s.in_routine.long in
        let next : place + 1 ≡ suc place = omega arith in
        elim s.is [
          | inside before fine ↦ (place, there.0, omega arith, there.1, subst (λ to. IsSuccessor there.0 place to) next fine.falls)
          | last at ret ↦ absurd (omega (arith, at, long, within))
        ]

    pub typings : AreTypings image kinds
    typings routine is =
        let there = has routine is in
        record {
          start = ap (λ k. k 0) there.found.kinds ∙ there.found.good.start ∙ sym (ap params_in there.at);
          flows = λ place op h.
              let s = has_op routine place op h in
              let same = s.in_routine.found.kinds in
              elim s.is [
                | inside before fine ↦ (fine.after, ap (λ k. effect image op (k place)) same ∙ fine.effect_is, λ to successor. ap (λ k. k to) same ∙ fine.onward to successor)
                | last at ret ↦ (kinds routine place, ap (λ o. effect image o (kinds routine place)) ret, λ to successor. absurd (subst (λ o. IsSuccessor o place to) ret successor))
              ];
          results = λ place h.
              let s = has_op routine place Ret h in
              let same = s.in_routine.found.kinds in
              elim s.is [
                | inside before fine ↦ absurd fine.falls
                | last at ret ↦ ap (λ k. k place) same ∙ ap s.in_routine.found.good.kinds at ∙ s.in_routine.found.good.end ∙ sym (ap results_in s.in_routine.at)
              ];
        }

    -- The routines that may be called have no parameters and no calls, and have the stated heights.
    pub record AreCallees : Type 0 where
      pub bare : (routine : ℕ) → routine < callees.count → params_of image routine ≡ []
      pub quiet : (routine place : ℕ) (callee : RoutineId) → routine < callees.count → op_at image routine place ≡ Some (Call callee) → ⊥
      pub high : (routine : ℕ) → routine < callees.count → heights routine ≡ callees.height routine

    -- The requirements of a call.
    record MayCall (routine place : ℕ) (callee : RoutineId) : Type 0 where
      known : callee.0 < callees.count
      there : IsRoutine image callee.0
      low : length (kinds routine place) + callees.height callee.0 ≤ heights routine

    may_call : (routine place : ℕ) (callee : RoutineId) → op_at image routine place ≡ Some (Call callee) → MayCall routine place callee
    may_call routine place callee h =
        let s = has_op routine place (Call callee) h in
        let f = s.in_routine.found in
        let same = ap (λ k. length (k place)) f.kinds in
        let high = f.height in
        elim s.is [
          | inside within fine ↦
              let c = fine.call callee refl in
              let l = c.1 in
              record { known = c.0; there = fine.operand; low = omega (arith, same, high, l) }
          | last at ret ↦ cc
        ]

    module _ (first : AreCallees) where
      pub calls : CallsGoDown image
      calls routine place callee h =
          let known = (may_call routine place callee h).known in
          ⊎_elim (λ lower. absurd (first.quiet routine place callee lower h)) (λ higher. omega (arith, known, higher)) (cases_lt routine callees.count)

      pub are_heights : AreHeights image kinds heights
      are_heights = record {
        before = λ routine place op h.
            let s = has_op routine place op h in
            let f = s.in_routine.found in
            let same = ap (λ k. length (k place)) f.kinds in
            let high = f.height in
            elim s.is [
              | inside before fine ↦ let l = fine.low in omega (arith, same, high, l)
              | last at ret ↦ let end = at_end f.good at in omega (arith, same, high, end)
            ];
        after = λ routine place op next h effect_is.
            let s = has_op routine place op h in
            let f = s.in_routine.found in
            let high = f.height in
            elim s.is [
              | inside before fine ↦
                  let same = same_Some fine.after next (sym fine.effect_is ∙ (sym (ap (λ k. effect image op (k place)) f.kinds) ∙ effect_is)) in
                  let long = ap length same in
                  let l = fine.high in omega (arith, long, high, l)
              | last at ret ↦
                  let same = same_Some (kinds routine place) next (sym (ap (λ o. effect image o (kinds routine place)) ret) ∙ effect_is) in
                  let long = ap length (sym same ∙ ap (λ k. k place) f.kinds) in
                  let end = at_end f.good at in omega (arith, long, high, end)
            ];
        calls = λ routine place callee h.
            let c = may_call routine place callee h in
            let low = c.low in
            let own = first.high callee.0 c.known in
            omega (arith, low, own);
      }
        where
          at_end : {r : Routine} (good : IsGood image callees r) {place : ℕ} → place ≡ length good.front → length (good.kinds place) ≤ good.height
          at_end {r} good at =
              let long = ap length (ap good.kinds at ∙ good.end) in
              let room = good.room in
              omega (arith, long, room)

      -- Frames: one of a callee, and `frames` of any other routine.
      abbrev pub depth : ℕ → ℕ → ℕ
      depth frames routine = if nat_le callees.count routine then frames else 1

      depth_first : (frames routine : ℕ) → routine < callees.count → depth frames routine ≡ 1
      depth_first frames routine lower = ap (λ b. if b then frames else 1) (lt-leb callees.count routine lower)

      pub depth_low : (frames routine : ℕ) → 1 ≤ frames → depth frames routine ≤ frames
      depth_low frames routine some =
          ⊎_elim (λ lower. let e = depth_first frames routine lower in omega (arith, e, some))
          (λ higher. let e = ap (λ b. if b then frames else 1) (le-leb callees.count routine higher) in omega (arith, e)) (cases_lt routine callees.count)

      pub are_depths : (frames : ℕ) → 1 ≤ frames → (0 < callees.count → 2 ≤ frames) → AreDepths image (depth frames)
      are_depths frames some two = record {
        own = λ routine.
            ⊎_elim (λ lower. let e = depth_first frames routine lower in omega (arith, e))
            (λ higher. let e = ap (λ b. if b then frames else 1) (le-leb callees.count routine higher) in omega (arith, e, some)) (cases_lt routine callees.count);
        calls = λ routine place callee h.
            let known = (may_call routine place callee h).known in
            let own = depth_first frames callee.0 known in
            let more = two (omega (arith, known)) in
            ⊎_elim (λ lower. absurd (first.quiet routine place callee lower h))
            (λ higher. let e = ap (λ b. if b then frames else 1) (le-leb callees.count routine higher) in omega (arith, e, own, more)) (cases_lt routine callees.count);
      }

      module _ (weight : Op → ℕ) where
        abbrev pub amounts : ℕ → ℕ → ℕ
        amounts routine place = amount (with_callee weight image) (code_of image routine) place

        abbrev own_amounts : ℕ → ℕ → ℕ
        own_amounts routine place = amount weight (code_of image routine) place

        -- The amounts of a callee are those of its own instructions.
        alone : (routine place : ℕ) → routine < callees.count → amounts routine place ≡ own_amounts routine place
        alone routine place lower =
            amount_same (with_callee weight image) weight (code_of image routine)
            (λ at op h. let none = no_callee own_amounts op (λ callee e. first.quiet routine at callee lower (h ∙ ap Some e)) in omega (arith, none)) place

        same_callee : (routine place : ℕ) (op : Op) → op_at image routine place ≡ Some op → callee_amount amounts op ≡ callee_amount own_amounts op
        same_callee routine place op h = callee_same amounts own_amounts op (λ callee e. alone callee.0 0 (may_call routine place callee (h ∙ ap Some e)).known)

        pub are_amounts : AreAmounts weight image amounts
        are_amounts = record {
          own = λ routine place op h.
              let here = amount_at (with_callee weight image) (code_of image routine) place op h in
              let same = same_callee routine place op h in
              omega (arith, here, same);
          onward = λ routine place to op h successor.
              let here = amount_at (with_callee weight image) (code_of image routine) place op h in
              let same = same_callee routine place op h in
              let on = leads_on op place to successor (λ target t. (jumps routine place op target h t).0) in
              let less = amount_later (with_callee weight image) (code_of image routine) (place + 1) to (omega (arith, on)) in
              omega (arith, here, same, less);
        }

    -- The amounts from a place on are the least ones, since control may fall through each instruction.
    least_from : (weight heavy : Op → ℕ) (bound : ℕ → ℕ → ℕ) → AreAmounts weight image bound → ((op : Op) → heavy op ≤ weight op + callee_amount bound op)
        → (routine n place : ℕ) → place + n ≡ length (code_of image routine) → amount heavy (code_of image routine) place ≤ bound routine place
    least_from weight heavy bound are light routine zero place e =
        let none = amount_past heavy (code_of image routine) place (omega (arith, e)) in omega (arith, none)
    least_from weight heavy bound are light routine (suc n) place e =
        let there = entry_at (code_of image routine) place (omega (arith, e)) in
        let s = has_op routine place there.0 there.1 in
        let here = amount_at heavy (code_of image routine) place there.0 there.1 in
        let long = s.in_routine.long in
        let few = light there.0 in
        elim s.is [
          | inside before fine ↦
              let on = are.onward routine place (place + 1) there.0 there.1 fine.falls in
              let rest = least_from weight heavy bound are light routine n (place + 1) (omega (arith, e)) in
              omega (arith, here, on, rest, few)
          | last at ret ↦
              let own = are.own routine place there.0 there.1 in
              let none = amount_past heavy (code_of image routine) (place + 1) (omega (arith, at, long)) in
              omega (arith, here, own, none, few)
        ]

    pub least_amount : (weight : Op → ℕ) (bound : ℕ → ℕ → ℕ) → AreAmounts weight image bound → (routine : ℕ) → amount (with_callee weight image) (code_of image routine) 0 ≤ bound routine 0
    least_amount weight bound are routine =
        let own : (r : ℕ) → amount weight (code_of image r) 0 ≤ bound r 0 = λ r. least_from weight weight bound are (λ op. omega arith) r (length (code_of image r)) 0 (omega arith) in
        least_from weight (with_callee weight image) bound are
        (λ op. let less = callee_less (λ r place. amount weight (code_of image r) place) bound op own in omega (arith, less)) routine (length (code_of image routine)) 0 (omega arith)

    -- So are the heights of any typing, since there is only one.
    module _ (one : HasOneTyping) (other : ℕ → ℕ → List Kind) (tops : ℕ → ℕ) (typed : AreTypings image other) (are : AreHeights image other tops) (first : AreCallees) where
      same_kinds : (routine place : ℕ) → IsRoutine image routine → place < length (code_of image routine) → kinds routine place ≡ other routine place
      same_kinds routine place is lt = one image routine (kinds routine) (other routine) reached (typings routine is) (typed routine is) place lt

      -- Each call of a routine is within a height.
      abbrev CallsAreLow : ℕ → Type 0
      CallsAreLow routine = (place : ℕ) (callee : RoutineId) → op_at image routine place ≡ Some (Call callee) → length (kinds routine place) + callees.height callee.0 ≤ tops routine

      walk : (routine : ℕ) (own : ℕ → List Kind) → kinds routine ≡ own → CallsAreLow routine → (place : ℕ) (ops : List Op) → HasAt (code_of image routine) place ops → CallsWithin callees own (tops routine) place ops
      walk routine own same low place [] has = tt
      walk routine own same low place (op ∷ ops) has = (
        λ callee e. let l = low place callee (has.0 ∙ ap Some e) in let long = ap (λ k. length (k place)) same in omega (arith, l, long),
        walk routine own same low (place + 1) ops has.1,
      )

      least_of : (routine : ℕ) → IsRoutine image routine → CallsAreLow routine → heights routine ≤ tops routine
      least_of routine is low =
          let there = has routine is in
          let good = there.found.good in
          let high = there.found.height in
          let below : (place : ℕ) → place ≤ length good.front → length (good.kinds place) ≤ tops routine = λ place le.
          let long = there.long in
          let at = entry_at (code_of image routine) place (omega (arith, le, long)) in
          let same = same_kinds routine place is (omega (arith, le, long)) in
          let mine = ap (λ k. length (k place)) there.found.kinds in
          let theirs = ap length same in
          let h = are.before routine place at.0 at.1 in
          omega (arith, mine, theirs, h) in
          let stand = subst (λ c. HasAt c 0 (good.front ++ Ret ∷ [])) (sym there.code) (has_all [] (good.front ++ Ret ∷ [])) in
          let within = walk routine good.kinds there.found.kinds low 0 good.front (has_left (code_of image routine) 0 good.front (Ret ∷ []) stand) in
          let least = good.least (tops routine) below within in
          omega (arith, high, least)

      pub least_height : (routine : ℕ) → IsRoutine image routine → heights routine ≤ tops routine
      least_height routine is =
          least_of routine is (λ place callee h.
          let c = may_call routine place callee h in
          let within = slice_get_within (code_of image routine) place (Call callee) h in
          let same = ap length (same_kinds routine place is within) in
          let own = first.high callee.0 c.known in
          let bare = ap length (first.bare callee.0 c.known) in
          let callee_low = least_of callee.0 c.there (λ at other_callee g. absurd (first.quiet callee.0 at other_callee c.known g)) in
          let called = are.calls routine place callee h in
          omega (arith, same, own, bare, callee_low, called))
