-- The forward pass: a list of kinds is brought to successors, or ways disagree.
use Rattle.std.proofs.Common.{ℕ, ◌≡◌, ◌≢◌, ◌<◌, ◌≤◌, ◌+◌, ◌-◌, List, length, replicate}
use Rattle.std.proofs.Common.{Option, Some, None, arith, below_more, ap, sym, ◌∙◌, subst, inl, inr, ◌⊎◌}
use Rattle.std.proofs.Math.ListN.{set, length-set}
use Rattle.std.proofs.lemmas.Bool.{cases_eq, cases_lt}
use Rattle.std.proofs.lemmas.Option.{slice_get_within, slice_get_past, same_Some}
use Rattle.std.specs.Option.{option_flatten}
use Rattle.std.proofs.lemmas.List.{length-replicate}
use Rattle.ifs_base.specs.declared.op.Kind.{Kind}
use Rattle.ifs_base.specs.declared.op.Op.{Op}
use Rattle.ifs_base.specs.declared.op.Op.TheVariants.{Ret, Jump, JumpFalse, JumpTrue}
use Rattle.ifs_image.specs.declared.parts.ImageParts.{ImageParts}
use Rattle.ifs_image.specs.Code.{op_at, code_of, params_of, target_of, effect, IsSuccessor}
use Rattle.ifs_verify.specs.Rules.{IsRoutine, RoutinesEnd, JumpsLeadOn}
use Rattle.ifs_verify.specs.Ways.{Leads, begins, goes_on}
use Rattle.ifs_verify.specs.Refused.{LeavesList, Disagrees}
use Rattle.ifs_verify.specs.inner.Passes.{next_of, kinds_at, Extends, Leaves, HasPassed, IsTypedUpTo}
use Rattle.ifs_verify.specs.inner.Passes.{PlainRulesHold, AreAhead, AreClear, IsCleared, Stands, IsLeft}
use Rattle.ifs_verify.proofs.Ways.{Leads-later}
use Rattle.ifs_verify.proofs.Instructions.{op_at-routine}
use Rattle.ifs_verify.proofs.KindsAt.{Extends-set, kinds_at-set_same, kinds_at-set_other}
use Rattle.ifs_verify.proofs.KindsAt.{kinds_at-set_cases, kinds_at-none}

-- A successor is the next place or the target.
pub successor_cases : (op : Op) (place to : ℕ) → IsSuccessor op place to → (next_of op place ≡ Some to) ⊎ (target_of op ≡ Some to)
successor_cases Ret place to is = absurd is
successor_cases (Jump target) place to is = inr (ap (λ (n : ℕ). Some n) (sym is))
successor_cases (JumpFalse target) place to (inl is) = inl (ap (λ (n : ℕ). Some n) (sym is))
successor_cases (JumpFalse target) place to (inr is) = inr (ap (λ (n : ℕ). Some n) (sym is))
successor_cases (JumpTrue target) place to (inl is) = inl (ap (λ (n : ℕ). Some n) (sym is))
successor_cases (JumpTrue target) place to (inr is) = inr (ap (λ (n : ℕ). Some n) (sym is))
successor_cases op place to is = inl (ap (λ (n : ℕ). Some n) (sym is))

pub next_successor : (op : Op) (place to : ℕ) → next_of op place ≡ Some to → IsSuccessor op place to
next_successor Ret place to is = cc
next_successor (Jump target) place to is = cc
next_successor (JumpFalse target) place to is = inl (sym (same_Some (place + 1) to is))
next_successor (JumpTrue target) place to is = inl (sym (same_Some (place + 1) to is))
next_successor op place to is = sym (same_Some (place + 1) to is)

pub target_successor : (op : Op) (place to : ℕ) → target_of op ≡ Some to → IsSuccessor op place to
target_successor (Jump target) place to is = sym (same_Some target to is)
target_successor (JumpFalse target) place to is = inr (sym (same_Some target to is))
target_successor (JumpTrue target) place to is = inr (sym (same_Some target to is))
target_successor op place to is = cc

-- Control may go on at the next place after all instructions but two.
pub onward_next : (op : Op) (place : ℕ) → op ≢ Ret → ((target : ℕ) → op ≢ Jump target) → IsSuccessor op place (place + 1)
onward_next Ret place ret jump = absurd (ret (λ i. Ret))
onward_next (Jump target) place ret jump = absurd (jump target (λ i. Jump target))
onward_next (JumpFalse target) place ret jump = inl (λ i. place + 1)
onward_next (JumpTrue target) place ret jump = inl (λ i. place + 1)
onward_next op place ret jump = λ i. place + 1

next_is : (op : Op) (place to : ℕ) → next_of op place ≡ Some to → (op ≢ Ret) × (to ≡ place + 1)
next_is Ret place to is = cc
next_is (Jump target) place to is = cc
next_is op place to is = (λ e. cc, sym (same_Some (place + 1) to is))

-- The next place is in the routine, since its last instruction is `ret`.
pub next_within : (image : ImageParts) (routine place to : ℕ) (op : Op) → RoutinesEnd image → IsRoutine image routine → op_at image routine place ≡ Some op
    → next_of op place ≡ Some to → to < length (code_of image routine)
next_within image routine place to op ends is_routine here is =
    let n = next_is op place to is in
    let within : place < length (code_of image routine) = slice_get_within (code_of image routine) place op here in
    elim (cases_eq place (length (code_of image routine) - 1)) [
      | inl e ↦
          let last : op_at image routine place ≡ Some Ret = subst (λ (k : ℕ). op_at image routine k ≡ Some Ret) (sym e) (ends routine is_routine) in
          absurd (n.0 (same_Some op Ret (sym here ∙ last)))
      | inr other ↦ let e : to ≡ place + 1 = n.1 in omega arith
    ]

-- A successor is a later place of the routine.
pub successor_within : (image : ImageParts) (routine place to : ℕ) (op : Op) → RoutinesEnd image → JumpsLeadOn image → IsRoutine image routine
    → op_at image routine place ≡ Some op → IsSuccessor op place to → (place < to) × (to < length (code_of image routine))
successor_within image routine place to op ends jumps is_routine here is =
    elim (successor_cases op place to is) [
      | inl next ↦ (let e : to ≡ place + 1 = (next_is op place to next).1 in omega arith, next_within image routine place to op ends is_routine here next)
      | inr target ↦ jumps routine place op to here target
    ]

-- Some way leads to a successor with what the instruction leaves.
pub way_onward : (image : ImageParts) (routine : ℕ) (lists : List (Option (List Kind))) (place to : ℕ) (op : Op) (after : List Kind)
    → IsTypedUpTo image routine lists place → op_at image routine place ≡ Some op → Leaves image routine lists place op after
    → IsSuccessor op place to → Leads image routine place to after
way_onward image routine lists place to op after typed here leaves successor =
    goes_on place to op leaves.before after (typed.leads place leaves.before leaves.here) (omega arith) here leaves.effect_is successor

pub Leaves-extended : (image : ImageParts) (routine : ℕ) (old new : List (Option (List Kind))) (place : ℕ) (op : Op) (after : List Kind)
    → Extends old new → Leaves image routine old place op after → Leaves image routine new place op after
Leaves-extended image routine old new place op after extends leaves = record {
  before = leaves.before;
  here = extends place leaves.before leaves.here;
  effect_is = leaves.effect_is;
  within = leaves.within;
  results = leaves.results;
}

pub HasPassed-extended : (image : ImageParts) (routine : ℕ) (old new : List (Option (List Kind))) (place : ℕ) (op : Op)
    → Extends old new → HasPassed image routine old place op → HasPassed image routine new place op
HasPassed-extended image routine old new place op extends passed = record {
  after = passed.after;
  leaves = Leaves-extended image routine old new place op passed.after extends passed.leaves;
  onward = λ to is. extends to passed.after (passed.onward to is);
}

-- The lists after one is brought to a successor.
pub with_list : (image : ImageParts) (routine : ℕ) (lists : List (Option (List Kind))) (place to : ℕ) (op : Op) (after : List Kind)
    → IsTypedUpTo image routine lists place → op_at image routine place ≡ Some op → Leaves image routine lists place op after
    → IsSuccessor op place to → to < length lists → ((other : List Kind) → kinds_at lists to ≡ Some other → other ≡ after)
    → IsTypedUpTo image routine (set lists to (Some after)) place
with_list image routine lists place to op after typed here leaves successor within same =
    let extends : Extends lists (set lists to (Some after)) = Extends-set lists to after within same in
    record {
      long = length-set lists to (Some after) ∙ typed.long;
      start = extends 0 (params_of image routine) typed.start;
      within = λ k kinds is.
          elim (kinds_at-set_cases lists to after within k kinds is) [
            | inl new ↦ subst (λ (list : List Kind). length list ≤ 32) (sym new.1) leaves.within
            | inr old ↦ typed.within k kinds old
          ];
      passed = λ k other below is. HasPassed-extended image routine lists (set lists to (Some after)) k other extends (typed.passed k other below is);
      leads = λ k kinds is.
          elim (kinds_at-set_cases lists to after within k kinds is) [
            | inl new ↦
                subst (λ (n : ℕ). Leads image routine place n kinds) (sym new.0)
                (subst (λ (list : List Kind). Leads image routine place to list) (sym new.1)
                (way_onward image routine lists place to op after typed here leaves successor))
            | inr old ↦ typed.leads k kinds old
          ];
    }

-- The lists after a place is passed.
pub passed_more : (image : ImageParts) (routine : ℕ) (lists : List (Option (List Kind))) (place : ℕ) (op : Op)
    → IsTypedUpTo image routine lists place → op_at image routine place ≡ Some op → HasPassed image routine lists place op → IsTypedUpTo image routine lists (place + 1)
passed_more image routine lists place op typed here passed = record {
  long = typed.long;
  start = typed.start;
  within = typed.within;
  passed = λ k other below.
      below_more (λ (n : ℕ). (o : Op) → op_at image routine n ≡ Some o → HasPassed image routine lists n o) place (λ n earlier o. typed.passed n o earlier)
      (λ o is. subst (λ (x : Op). HasPassed image routine lists place x) (same_Some op o (sym here ∙ is)) passed) k below other;
  leads = λ k kinds is. Leads-later image routine place (place + 1) k kinds (omega arith) (typed.leads k kinds is);
}

-- A place has a list if all earlier ones are passed.
pub kinds_found : (image : ImageParts) (routine place : ℕ) (lists : List (Option (List Kind))) → PlainRulesHold image → IsTypedUpTo image routine lists place
    → place < length (code_of image routine) → (kinds : List Kind) × (kinds_at lists place ≡ Some kinds)
kinds_found image routine place lists plain typed within =
    elim (cases_eq place 0) [
      | inl e ↦ (params_of image routine, subst (λ (n : ℕ). kinds_at lists n ≡ Some (params_of image routine)) (sym e) typed.start)
      | inr ne ↦
          let r = plain.reached routine place (omega arith) within in
          let p = typed.passed r.0 r.1 r.2 r.3 in
          (p.after, p.onward place r.4)
    ]

-- The instruction at a place leaves a list.
pub list_left : (image : ImageParts) (routine : ℕ) (lists : List (Option (List Kind))) (place : ℕ) (op : Op) (before after : List Kind)
    → IsTypedUpTo image routine lists place → op_at image routine place ≡ Some op → kinds_at lists place ≡ Some before → effect image op before ≡ Some after
    → LeavesList image routine place op after
list_left image routine lists place op before after typed here there left = record {
  before = before;
  stands = here;
  leads = typed.leads place before there;
  effect_is = left;
}

-- Ways disagree if a successor has another list than the instruction leaves.
pub ways_disagree : (image : ImageParts) (routine : ℕ) (lists : List (Option (List Kind))) (place to : ℕ) (op : Op) (after other : List Kind)
    → IsTypedUpTo image routine lists place → op_at image routine place ≡ Some op → Leaves image routine lists place op after
    → IsSuccessor op place to → kinds_at lists to ≡ Some other → other ≢ after → Disagrees image routine place
ways_disagree image routine lists place to op after other typed here leaves successor there differ =
    (op, after, to, other, list_left image routine lists place op leaves.before after typed here leaves.here leaves.effect_is, successor, typed.leads to other there, differ)

-- Lists whose earlier places are passed have at a place what a way leads there with.
pub led_kinds : (image : ImageParts) (routine done last place : ℕ) (lists : List (Option (List Kind))) (kinds : List Kind) → PlainRulesHold image
    → IsTypedUpTo image routine lists done → place ≤ done → Leads image routine last place kinds → kinds_at lists place ≡ Some kinds
led_kinds image routine done last place lists kinds plain typed le begins = typed.start
led_kinds image routine done last place lists kinds plain typed le (goes_on from to op before after way below is effect_is successor) =
    let later = successor_within image routine from to op plain.ends plain.jumps (op_at-routine image routine from op is) is successor in
    let there : kinds_at lists from ≡ Some before = led_kinds image routine done last from lists before plain typed (omega (arith, later.0)) way in
    let p = typed.passed from op (omega (arith, later.0)) is in
    let same : p.leaves.before ≡ before = same_Some p.leaves.before before (sym p.leaves.here ∙ there) in
    p.onward to successor ∙ sym p.leaves.effect_is ∙ ap (λ (list : List Kind). effect image op list) same ∙ effect_is

ahead-set : (image : ImageParts) (lists brought : List (Option (List Kind))) (place to : ℕ) (after : List Kind) → to < length lists → place < to → AreAhead image lists brought place
    → AreAhead image (set lists to (Some after)) (set brought to (Some after)) place
ahead-set image lists brought place to after within above ahead = record {
  long = omega (arith, length-set lists to (Some after), length-set brought to (Some after), ahead.long);
  room = λ routine. omega (arith, length-set brought to (Some after), ahead.room routine);
  passed = λ k le. kinds_at-set_other brought to k (Some after) (omega arith) ∙ ahead.passed k le;
  later = λ k past.
      elim (cases_eq k to) [
        | inl e ↦
            subst (λ (n : ℕ). kinds_at (set lists to (Some after)) n ≡ kinds_at (set brought to (Some after)) n) (sym e)
            (kinds_at-set_same lists to after within ∙ sym (kinds_at-set_same brought to after (omega (arith, ahead.long))))
        | inr ne ↦ kinds_at-set_other lists to k (Some after) ne ∙ ahead.later k past ∙ sym (kinds_at-set_other brought to k (Some after) ne)
      ];
}

-- The list is brought to a later successor.
pub left_brought : (image : ImageParts) (routine place to : ℕ) (op : Op) (after : List Kind) (brought : List (Option (List Kind))) → op_at image routine place ≡ Some op
    → IsLeft image routine place op after brought → IsSuccessor op place to → place < to → to < length (code_of image routine)
    → ((other : List Kind) → kinds_at brought to ≡ Some other → other ≡ after) → IsLeft image routine place op after (set brought to (Some after))
left_brought image routine place to op after brought here left successor later within same =
    let inside : to < length left.lists = omega (arith, left.typed.long) in
    let same_kinds : (other : List Kind) → kinds_at left.lists to ≡ Some other → other ≡ after = λ other is. same other (sym (left.ahead.later to later) ∙ is) in
    record {
      lists = set left.lists to (Some after);
      typed = with_list image routine left.lists place to op after left.typed here left.leaves successor inside same_kinds;
      leaves = Leaves-extended image routine left.lists (set left.lists to (Some after)) place op after (Extends-set left.lists to after inside same_kinds) left.leaves;
      ahead = ahead-set image left.lists brought place to after inside later left.ahead;
    }

-- Ways disagree if another list was brought to a later successor.
pub left_disagrees : (image : ImageParts) (routine place to : ℕ) (op : Op) (after other : List Kind) (brought : List (Option (List Kind))) → op_at image routine place ≡ Some op
    → IsLeft image routine place op after brought → IsSuccessor op place to → place < to → kinds_at brought to ≡ Some other → other ≢ after
    → Disagrees image routine place
left_disagrees image routine place to op after other brought here left successor later there differ =
    ways_disagree image routine left.lists place to op after other left.typed here left.leaves successor (left.ahead.later to later ∙ there) differ

-- Control falls through to the next place.
pub falls_through : (image : ImageParts) (routine place to : ℕ) (op : Op) (after : List Kind) (brought new : List (Option (List Kind))) → op_at image routine place ≡ Some op
    → IsLeft image routine place op after brought → next_of op place ≡ Some to → to < length (code_of image routine)
    → ((other : List Kind) → kinds_at brought to ≡ Some other → other ≡ after) → ((k : ℕ) → target_of op ≡ Some k → place < k)
    → ((k : ℕ) → target_of op ≡ Some k → kinds_at brought k ≡ Some after) → IsCleared brought new to → Stands image routine (place + 1) after new
falls_through image routine place to op after brought new here left next within same later met clear =
    let e : to ≡ place + 1 = (next_is op place to next).1 in
    let inside : to < length left.lists = omega (arith, left.typed.long) in
    let same_kinds : (other : List Kind) → kinds_at left.lists to ≡ Some other → other ≡ after = λ other is. same other (sym (left.ahead.later to (omega arith)) ∙ is) in
    let extends : Extends left.lists (set left.lists to (Some after)) = Extends-set left.lists to after inside same_kinds in
    let written : kinds_at (set left.lists to (Some after)) to ≡ Some after = kinds_at-set_same left.lists to after inside in
    record {
      lists = set left.lists to (Some after);
      typed = passed_more image routine (set left.lists to (Some after)) place op
          (with_list image routine left.lists place to op after left.typed here left.leaves (next_successor op place to next) inside same_kinds) here
          (record {
            after = after;
            leaves = Leaves-extended image routine left.lists (set left.lists to (Some after)) place op after extends left.leaves;
            onward = λ k successor.
                elim (successor_cases op place k successor) [
                  | inl is ↦ subst (λ (n : ℕ). kinds_at (set left.lists to (Some after)) n ≡ Some after) (same_Some to k (sym next ∙ is)) written
                  | inr is ↦ extends k after (left.ahead.later k (later k is) ∙ met k is)
                ];
          });
      at_place = λ _. subst (λ (n : ℕ). kinds_at (set left.lists to (Some after)) n ≡ Some after) e written;
      ahead = record {
        long = omega (arith, left.ahead.long, length-set left.lists to (Some after), clear.long);
        room = λ other. omega (arith, left.ahead.room other, clear.long);
        passed = λ k le.
            elim (cases_eq k to) [
              | inl at_to ↦ subst (λ (n : ℕ). kinds_at new n ≡ None) (sym at_to) clear.at_place
              | inr ne ↦ clear.others k ne ∙ left.ahead.passed k (omega arith)
            ];
        later = λ k past.
            kinds_at-set_other left.lists to k (Some after) (omega arith) ∙ left.ahead.later k (omega arith) ∙ sym (clear.others k (omega arith));
      };
    }

-- The pass goes on with the list that was brought to the next place.
pub takes_up : (image : ImageParts) (routine place : ℕ) (op : Op) (after here : List Kind) (brought new : List (Option (List Kind))) → PlainRulesHold image
    → op_at image routine place ≡ Some op → IsLeft image routine place op after brought → next_of op place ≡ None
    → ((k : ℕ) → target_of op ≡ Some k → place < k) → ((k : ℕ) → target_of op ≡ Some k → kinds_at brought k ≡ Some after)
    → ((kinds : List Kind) → kinds_at brought (place + 1) ≡ Some kinds → here ≡ kinds) → IsCleared brought new (place + 1)
    → Stands image routine (place + 1) here new
takes_up image routine place op after here brought new plain is left none later met taken clear =
    let typed : IsTypedUpTo image routine left.lists (place + 1) =
    passed_more image routine left.lists place op left.typed is
    (record {
      after = after;
      leaves = left.leaves;
      onward = λ k successor.
          elim (successor_cases op place k successor) [
            | inl next ↦ let never : None ≡ Some k = sym none ∙ next in cc
            | inr target ↦ left.ahead.later k (later k target) ∙ met k target
          ];
    }) in
    record {
      lists = left.lists;
      typed = typed;
      at_place = λ within.
          let found = kinds_found image routine (place + 1) left.lists plain typed within in
          found.1 ∙ ap (λ (k : List Kind). Some k) (sym (taken found.0 (sym (left.ahead.later (place + 1) (omega arith)) ∙ found.1)));
      ahead = record {
        long = omega (arith, left.ahead.long, clear.long);
        room = λ other. omega (arith, left.ahead.room other, clear.long);
        passed = λ k le.
            elim (cases_eq k (place + 1)) [
              | inl e ↦ subst (λ (n : ℕ). kinds_at new n ≡ None) (sym e) clear.at_place
              | inr ne ↦ clear.others k ne ∙ left.ahead.passed k (omega arith)
            ];
        later = λ k past. left.ahead.later k (omega arith) ∙ sym (clear.others k (omega arith));
      };
    }

-- Before the first place: the routine's parameters, and no brought list.
pub stands_first : (image : ImageParts) (routine : ℕ) (brought : List (Option (List Kind))) → 0 < length (code_of image routine)
    → length (params_of image routine) ≤ 32 → AreClear image brought → Stands image routine 0 (params_of image routine) brought
stands_first image routine brought some few clear =
    let params : List Kind = params_of image routine in
    let empty : List (Option (List Kind)) = replicate (length (code_of image routine)) None in
    let long : length empty ≡ length (code_of image routine) = length-replicate (length (code_of image routine)) None in
    let within : 0 < length empty = omega arith in
    let written : kinds_at (set empty 0 (Some params)) 0 ≡ Some params = kinds_at-set_same empty 0 params within in
    let only : (place : ℕ) (kinds : List Kind) → kinds_at (set empty 0 (Some params)) place ≡ Some kinds → (place ≡ 0) × (kinds ≡ params) =
    λ place kinds is.
    elim (kinds_at-set_cases empty 0 params within place kinds is) [
      | inl new ↦ new
      | inr old ↦ let never : None ≡ Some kinds = sym (kinds_at-none (length (code_of image routine)) place) ∙ old in cc
    ] in
    record {
      lists = set empty 0 (Some params);
      typed = record {
        long = length-set empty 0 (Some params) ∙ long;
        start = written;
        within = λ place kinds is. subst (λ (list : List Kind). length list ≤ 32) (sym (only place kinds is).1) few;
        passed = λ place op below. absurd (omega arith);
        leads = λ place kinds is.
            let first = only place kinds is in
            subst (λ (n : ℕ). Leads image routine 0 n kinds) (sym first.0) (subst (λ (list : List Kind). Leads image routine 0 0 list) (sym first.1) begins);
      };
      at_place = λ _. written;
      ahead = record {
        long = omega (arith, length-set empty 0 (Some params), clear.room routine);
        room = clear.room;
        passed = λ to le. clear.none to;
        later = λ to past.
            kinds_at-set_other empty 0 to (Some params) (omega arith) ∙ kinds_at-none (length (code_of image routine)) to ∙ sym (clear.none to);
      };
    }

-- After the last place no list is left.
pub clear_behind : (image : ImageParts) (routine : ℕ) (here : List Kind) (brought : List (Option (List Kind))) → Stands image routine (length (code_of image routine)) here brought
    → AreClear image brought
clear_behind image routine here brought stands = record {
  room = stands.ahead.room;
  none = λ place.
      elim (cases_lt (length (code_of image routine)) place) [
        | inl past ↦
            sym (stands.ahead.later place past) ∙ ap option_flatten (slice_get_past stands.lists place (omega (arith, stands.typed.long)))
        | inr le ↦ stands.ahead.passed place le
      ];
}
