-- A tour of the states that evaluations lead to.
use Rattle.std.proofs.Common.{◌≡◌, ℕ, zero, suc, ◌+◌, ◌<◌, ◌≤◌, get_or, ◌⊎◌, inl, inr, ⊎_elim, Bool, true, false, not, cond, List, [], ◌∷◌, ◌++◌, length, Option, Some, None, eqb, refl, sym, ap, ◌∙◌, subst, arith}
use Rattle.std.specs.Prelude.{slice_get, slice_set, replicate, unwrap_or, count_by, Any, Contains, if◌then◌else◌}
use Rattle.std.proofs.lemmas.Bool.{false≢true, true≢false, eqb-true, eq-eqb, cases_eq}
use Rattle.std.proofs.lemmas.Option.{none-some, same_Some, slice_get_within, get_or_from_slice_get, slice_get-get_or}
use Rattle.std.proofs.lemmas.List.{length-set, length-append}
use Rattle.std.proofs.lemmas.List.Sums.{sum_by-set}
use Rattle.std.proofs.lemmas.List.Elements.{Contains-push, Contains-push_cases, Contains-append_left}
use Rattle.ifs_base.specs.Facts.{Facts}
use Rattle.ifs_base.specs.Effects.{Effects, nothing_yet, later_wish}
use Rattle.ifs_base.specs.declared.ids.StateId.{StateId}
use Rattle.ifs_core.specs.Event.{change_of}
use Rattle.ifs_gen.specs.Trees.{Policy}
use Rattle.ifs_gen.specs.Events.{yield_in}
use Rattle.ifs_policy.specs.Meaning.{Block, body_yield, is_held, reached, truth}
use Rattle.ifs_policy.specs.Fits.{Sizes, sizes_of, BlockFits, HandlersFit, PolicyFits}
use Rattle.ifs_parse.specs.Trees.{Done, RunThen, SetStateThen, IfThen}
use Rattle.ifs_policy.specs.declared.policy.Handlers.{Handlers}
use Rattle.ifs_solver.specs.declared.constraints.Aim.{Aim}
use Rattle.ifs_solver.specs.declared.constraints.Aim.TheVariants.{To, Off}
use Rattle.ifs_solver.specs.declared.searching.Budget.{Budget}
use Rattle.ifs_solver.specs.declared.searching.Extent.{Extent}
use Rattle.ifs_solver.specs.declared.searching.Extent.TheVariants.{Somewhere, Nowhere, Undecided}
use Rattle.ifs_solver.specs.declared.touring.Tour.{Tour}
use Rattle.ifs_solver.specs.FactSets.{AreFactsOf, scope_of}
use Rattle.ifs_solver.specs.Asking.{hits, IsSomewhere, IsExtentOf}
use Rattle.ifs_solver.specs.Budgets.{IsSpent, IsUsedUp}
use Rattle.ifs_solver.specs.Situations.{wish_of, IsLedTo, initially, onwards, IsNeverEntered, IsExitOf, IsStateAnswer, AreEntered, LeavesOpen}
use Rattle.ifs_solver.specs.inner.Touring.{ahead, where_wished, IsNoEdge, IsPaidTour, IsTourOf, IsToured, IsTouring, Looks, HasAskedOnly, IsWishedIn, IsAskedIn, IsPaidIn, HasNoted, IsMarked, IsUnmarked, Pays, Says}
use Rattle.ifs_solver.specs.declared.touring.StateAnswer.{StateAnswer}
use Rattle.ifs_solver.proofs.Situated.{entered_by_wishes}
use Rattle.ifs_solver.proofs.Adding.{extent_agrees}
use Rattle.ifs_solver.proofs.Paying.{still_used, more_used, spent_by_both, unspent, any_push_cases}

-- A place of a list after a write.
set_there : {X : Type 0} (xs : List X) (i : ℕ) (x y : X) → slice_get xs i ≡ Some y → slice_get (slice_set xs i x) i ≡ Some x
set_there [] i x y at = absurd (none-some y at)
set_there (z ∷ zs) zero x y at = refl
set_there (z ∷ zs) (suc i) x y at = set_there zs i x y at

set_elsewhere : {X : Type 0} (xs : List X) (i k : ℕ) (x : X) → (i ≡ k → ⊥) → slice_get (slice_set xs i x) k ≡ slice_get xs k
set_elsewhere [] i k x differ = refl
set_elsewhere (z ∷ zs) zero zero x differ = absurd (differ refl)
set_elsewhere (z ∷ zs) zero (suc k) x differ = refl
set_elsewhere (z ∷ zs) (suc i) zero x differ = refl
set_elsewhere (z ∷ zs) (suc i) (suc k) x differ = set_elsewhere zs i k x (λ e. differ (ap suc e))

same_state : (a b : StateId) → a.0 ≡ b.0 → a ≡ b
same_state a b e = ap (λ n. let state : StateId = record { 0 = n } in state) e

-- What is asked of the bodies of a policy is asked of an evaluation in the state.
wished_is : (policy : Policy) (state : StateId) (aim : Aim) (always : Block) (states : List Handlers) (part : Handlers) → always ≡ policy.always.body → states ≡ policy.states → slice_get states state.0 ≡ Some part
    → (facts : Facts) → hits aim (wish_of policy facts state) ≡ where_wished always part.body aim facts
wished_is policy state aim always states part always_is states_is at facts =
    ap (λ o. hits aim (later_wish (body_yield facts policy.always.body).wish (yield_in (λ part. body_yield facts part.body) o).wish)) (ap (λ xs. slice_get xs state.0) (sym states_is) ∙ at)
    ∙ ap (λ body. hits aim (later_wish (body_yield facts body).wish (body_yield facts part.body).wish)) (sym always_is)

module _ (policy : Policy) (given : Budget) (tour : Tour) (is : IsTourOf policy given tour) where
  pub asked_of_policy : (state : StateId) (aim : Aim) (part : Handlers) (extent : Extent) → slice_get tour.states.now state.0 ≡ Some part → IsWishedIn tour.scope tour.always.now tour.states.now state aim extent
      → IsExtentOf (scope_of policy) (λ facts. hits aim (wish_of policy facts state)) extent
  asked_of_policy state aim part extent at h =
      extent_agrees (scope_of policy) (λ facts. hits aim (wish_of policy facts state)) (where_wished tour.always.now part.body aim)
      (wished_is policy state aim tour.always.now tour.states.now part is.always is.states at) extent (subst (λ s. IsExtentOf s (where_wished tour.always.now part.body aim) extent) is.scope (h part at))

-- An evaluation that wishes for another state leads there.
wish_leads : (state next : StateId) (wish : Option StateId) → (next.0 ≡ state.0 → ⊥) → hits (To next) wish ≡ true → change_of state wish ≡ Some next
wish_leads state next None differ e = absurd (false≢true e)
wish_leads state next (Some other) differ e =
    let same = same_state other next (eqb-true other.0 next.0 e) in
    changes (eqb other.0 state.0) refl same
  where
    changes : (c : Bool) → eqb other.0 state.0 ≡ c → other ≡ next → (if c then None else Some other) ≡ Some next
    changes true e same = absurd (differ (ap (λ s. s.0) (sym same) ∙ eqb-true other.0 state.0 e))
    changes false e same = ap (λ s. Some s) same

-- Places that differ in their marks differ.
marks_differ : (marks : List Bool) (a b : StateId) → slice_get marks a.0 ≡ Some true → slice_get marks b.0 ≡ Some false → b.0 ≡ a.0 → ⊥
marks_differ marks a b yes_a no_b e = true≢false (same_Some true false (sym yes_a ∙ ap (slice_get marks) (sym e) ∙ no_b))

-- A tour stays paid if it asks.
still_paid : (given : Budget) (old new : Tour) → IsPaidTour given old → IsSpent old.budget new.budget → new.is_decided ≡ old.is_decided → IsPaidTour given new
still_paid given old new h spent same = record {
  spent = spent_by_both given old.budget new.budget h.spent spent;
  undecided = λ e. still_used given old.budget new.budget spent (h.undecided (sym same ∙ e));
}

undecided_paid : (given : Budget) (old new : Tour) → IsPaidTour given old → IsSpent old.budget new.budget → IsUsedUp old.budget new.budget → IsPaidTour given new
undecided_paid given old new h spent used = record {
  spent = spent_by_both given old.budget new.budget h.spent spent;
  undecided = λ e. more_used given old.budget new.budget h.spent used;
}

-- A state of the policy is one of the tour.
there_in : (policy : Policy) (given : Budget) (tour : Tour) (state : StateId) → IsTourOf policy given tour → state.0 < length policy.states → slice_get tour.states.now state.0 ≡ None → ⊥
there_in policy given tour state is lt none =
    let same = ap length is.states in
    not_missing tour.states.now state.0 (omega (arith, lt, same)) none
  where
    not_missing : {X : Type 0} (xs : List X) (i : ℕ) → i < length xs → slice_get xs i ≡ None → ⊥
    not_missing [] i lt none = omega (arith, lt)
    not_missing (x ∷ xs) zero lt none = none-some x (sym none)
    not_missing (x ∷ xs) (suc i) lt none = not_missing xs i (omega (arith, lt)) none

-- A tour whose marks stay.
stays_of : (policy : Policy) (given : Budget) (old new : Tour) → IsTourOf policy given old → IsPaidTour given new → new.scope ≡ old.scope → new.always ≡ old.always → new.states ≡ old.states → new.count ≡ old.count → new.entered.items ≡ old.entered.items
    → new.pending.items ≡ old.pending.items → IsTourOf policy given new
stays_of policy given old new is paid scope always states count entered pending = record {
  paid = paid;
  scope = scope ∙ is.scope;
  always = ap (λ b. b.now) always ∙ is.always;
  states = ap (λ b. b.now) states ∙ is.states;
  count = count ∙ is.count;
  many = ap length entered ∙ is.many;
  initial = ap (λ xs. slice_get xs policy.initial.0) entered ∙ is.initial;
  led = λ state at. is.led state (ap (λ xs. slice_get xs state.0) (sym entered) ∙ at);
  known = λ state at. ap (λ xs. slice_get xs state.0) entered ∙ is.known state (subst (λ xs. Contains xs state) pending at);
}

module _ (state next : StateId) (old mid new : Tour) (asked : HasAskedOnly old mid) (unmarked : slice_get old.entered.items next.0 ≡ Some false) (policy : Policy) (given : Budget) (h : IsTouring policy given state next.0 old) where
  entered_mid : mid.entered.items ≡ old.entered.items
  entered_mid = ap (λ v. v.items) asked.entered

  pending_mid : mid.pending.items ≡ old.pending.items
  pending_mid = ap (λ v. v.items) asked.pending

  present_there : state.0 < length policy.states
  present_there =
      let within = slice_get_within old.entered.items state.0 true h.marked in
      let many = h.is.many in
      omega (arith, within, many)

  looked_undecided : IsPaidTour given new → new.scope ≡ mid.scope → new.always ≡ mid.always → new.states ≡ mid.states → new.count ≡ mid.count → IsUnmarked mid new → new.is_decided ≡ false
      → IsTouring policy given state (next.0 + 1) new
  looked_undecided paid scope always states count same isnt = record {
    is = stays_of policy given old new h.is paid (scope ∙ asked.scope) (always ∙ asked.always) (states ∙ asked.states) (count ∙ asked.count) (same.entered ∙ entered_mid) (same.pending ∙ pending_mid);
    marked = ap (λ xs. slice_get xs state.0) (same.entered ∙ entered_mid) ∙ h.marked;
    done = λ decided a b is_a is_b. absurd (false≢true (sym isnt ∙ decided));
  }

  looked_nowhere : IsPaidTour given new → new.scope ≡ mid.scope → new.always ≡ mid.always → new.states ≡ mid.states → new.count ≡ mid.count → IsUnmarked mid new → new.is_decided ≡ mid.is_decided → IsNoEdge policy state next
      → IsTouring policy given state (next.0 + 1) new
  looked_nowhere paid scope always states count same decided_same nowhere = record {
    is = stays_of policy given old new h.is paid (scope ∙ asked.scope) (always ∙ asked.always) (states ∙ asked.states) (count ∙ asked.count) (same.entered ∙ entered_mid) (same.pending ∙ pending_mid);
    marked = ap (λ xs. slice_get xs state.0) (same.entered ∙ entered_mid) ∙ h.marked;
    done = λ decided a b is_a is_b.
        ⊎_elim (λ known. inl (⊎_elim (λ c. inl (subst (λ xs. Contains xs a) (sym (same.pending ∙ pending_mid)) c)) (λ e. inr e) known)) (λ here. past a b here)
        (h.done (sym (decided_same ∙ asked.is_decided) ∙ decided) a b (ap (λ xs. slice_get xs a.0) (sym (same.entered ∙ entered_mid)) ∙ is_a) (ap (λ xs. slice_get xs b.0) (sym (same.entered ∙ entered_mid)) ∙ is_b));
  }
    where
      past : (a b : StateId) → (a ≡ state) × (next.0 ≤ b.0) → (Contains new.pending.items a ⊎ IsNoEdge policy a b) ⊎ ((a ≡ state) × (next.0 + 1 ≤ b.0))
      past a b here =
          ⊎_elim (λ e. inl (inr (subst (λ s. IsNoEdge policy s b) (sym here.0) (subst (λ t. IsNoEdge policy state t) (same_state next b e) nowhere))))
          (λ differ. let d : next.0 ≡ b.0 → ⊥ = differ in let le = here.1 in inr (here.0, omega (arith, d, le))) (cases_eq next.0 b.0)

  looked_somewhere : IsPaidTour given new → new.scope ≡ mid.scope → new.always ≡ mid.always → new.states ≡ mid.states → new.count ≡ mid.count → IsMarked next mid new → IsSomewhere (scope_of policy) (λ facts. hits (To next) (wish_of policy facts state))
      → IsTouring policy given state (next.0 + 1) new
  looked_somewhere paid scope always states count marks there = record {
    is = record {
      paid = paid;
      scope = scope ∙ asked.scope ∙ h.is.scope;
      always = ap (λ b. b.now) (always ∙ asked.always) ∙ h.is.always;
      states = ap (λ b. b.now) (states ∙ asked.states) ∙ h.is.states;
      count = count ∙ asked.count ∙ h.is.count;
      many = ap length entered_is ∙ length-set old.entered.items next.0 true ∙ h.is.many;
      initial = still policy.initial h.is.initial;
      led = λ a at. ⊎_elim (λ e. subst (IsLedTo policy) (same_state next a e) led_next) (λ differ. h.is.led a (old_at a differ true at)) (cases_eq next.0 a.0);
      known = λ a at.
          ⊎_elim (λ c. still a (h.is.known a c)) (λ e. ap (λ n. slice_get new.entered.items n) (ap (λ x. x.0) (sym e)) ∙ marked_next)
          (Contains-push_cases old.pending.items next a (subst (λ xs. Contains xs a) pending_is at));
    };
    marked = still state h.marked;
    done = λ decided a b is_a is_b.
        let apart : next.0 ≡ b.0 → ⊥ = λ e. true≢false (same_Some true false (sym marked_next ∙ ap (λ n. slice_get new.entered.items n) e ∙ is_b)) in
        ⊎_elim (λ e. inl (inl (subst (λ xs. Contains xs a) (sym pending_is) (subst (Contains (old.pending.items ++ next ∷ [])) (same_state next a e) (Contains-push old.pending.items next)))))
        (λ differ.
        ⊎_elim (λ known. inl (⊎_elim (λ c. inl (subst (λ xs. Contains xs a) (sym pending_is) (Contains-append_left old.pending.items (next ∷ []) a c))) (λ e. inr e) known))
        (λ here. let d : next.0 ≡ b.0 → ⊥ = apart in let le = here.1 in inr (here.0, omega (arith, d, le)))
        (h.done (sym (marks.is_decided ∙ asked.is_decided) ∙ decided) a b (old_at a differ true is_a) (old_at b apart false is_b)))
        (cases_eq next.0 a.0);
  }
    where
      entered_is : new.entered.items ≡ slice_set old.entered.items next.0 true
      entered_is = marks.entered ∙ ap (λ xs. slice_set xs next.0 true) entered_mid

      pending_is : new.pending.items ≡ old.pending.items ++ next ∷ []
      pending_is = marks.pending ∙ ap (λ xs. xs ++ next ∷ []) pending_mid

      marked_next : slice_get new.entered.items next.0 ≡ Some true
      marked_next = ap (λ xs. slice_get xs next.0) entered_is ∙ set_there old.entered.items next.0 true false unmarked

      old_at : (a : StateId) → (next.0 ≡ a.0 → ⊥) → (mark : Bool) → slice_get new.entered.items a.0 ≡ Some mark → slice_get old.entered.items a.0 ≡ Some mark
      old_at a differ mark at = sym (ap (λ xs. slice_get xs a.0) entered_is ∙ set_elsewhere old.entered.items next.0 a.0 true differ) ∙ at

      still : (a : StateId) → slice_get old.entered.items a.0 ≡ Some true → slice_get new.entered.items a.0 ≡ Some true
      still a at =
          ⊎_elim (λ e. ap (λ n. slice_get new.entered.items n) (sym e) ∙ marked_next)
          (λ differ. ap (λ xs. slice_get xs a.0) entered_is ∙ set_elsewhere old.entered.items next.0 a.0 true differ ∙ at) (cases_eq next.0 a.0)

      led_next : IsLedTo policy next
      led_next =
          onwards state next there.0 (h.is.led state h.marked) there.1
          (wish_leads state next (wish_of policy there.0 state) (marks_differ old.entered.items state next h.marked unmarked) there.2)

  spent_then : new.budget ≡ mid.budget → IsSpent old.budget new.budget
  spent_then same = subst (IsSpent old.budget) (sym same) asked.spent

  used_then : new.budget ≡ mid.budget → (slice_get old.states.now state.0 ≡ None) ⊎ IsUsedUp old.budget mid.budget → IsUsedUp old.budget new.budget
  used_then same = ⊎_elim (λ none. absurd (there_in policy given old state h.is present_there none)) (λ used. subst (IsUsedUp old.budget) (sym same) used)

  looked_by : (extent : Extent) (o : Option Handlers) → slice_get old.states.now state.0 ≡ o → IsAskedIn old.scope old.always.now old.states.now state (To next) extent
      → IsPaidIn old.states.now state old.budget mid.budget extent → HasNoted next extent mid new → IsTouring policy given state (next.0 + 1) new
  looked_by Undecided o at branch paid noted =
      let n = noted.undecided refl in
      looked_undecided (undecided_paid given old new h.is.paid (spent_then noted.budget) (used_then noted.budget (paid refl))) noted.scope noted.always noted.states noted.count n.0 n.1
  looked_by Nowhere None at branch paid noted = let e = branch.1 at in absurd (cc)
  looked_by Somewhere None at branch paid noted = let e = branch.1 at in absurd (cc)
  looked_by Nowhere (Some part) at branch paid noted =
      let n = noted.nowhere refl in
      looked_nowhere (still_paid given old new h.is.paid (spent_then noted.budget) (n.1 ∙ asked.is_decided)) noted.scope noted.always noted.states noted.count n.0 n.1
      (asked_of_policy policy given old h.is state (To next) part Nowhere at branch.0)
  looked_by Somewhere (Some part) at branch paid noted =
      let n = noted.somewhere refl in
      looked_somewhere (still_paid given old new h.is.paid (spent_then noted.budget) (n.is_decided ∙ asked.is_decided)) noted.scope noted.always noted.states noted.count n
      (asked_of_policy policy given old h.is state (To next) part Somewhere at branch.0)

pub looked : (state next : StateId) (old mid new : Tour) (extent : Extent) → HasAskedOnly old mid → slice_get old.entered.items next.0 ≡ Some false → IsAskedIn old.scope old.always.now old.states.now state (To next) extent
    → IsPaidIn old.states.now state old.budget mid.budget extent → HasNoted next extent mid new → Looks state next old new
looked state next old mid new extent asked unmarked branch paid noted policy given h =
    looked_by state next old mid new asked unmarked policy given h extent (slice_get old.states.now state.0) refl branch paid noted

-- A state that is marked is pending.
abbrev one_for : Bool → ℕ
one_for mark = cond (not mark) 1 0

mark_counted : (marks : List Bool) (i : ℕ) → slice_get marks i ≡ Some false → count_by not (slice_set marks i true) + 1 ≡ count_by not marks
mark_counted marks i at =
    let was : one_for (get_or marks i false) ≡ 1 = ap one_for (get_or_from_slice_get marks i false false at) in
    let written : count_by not (slice_set marks i true) + one_for (get_or marks i false) ≡ count_by not marks + 0 = sum_by-set one_for marks i true false (slice_get_within marks i false at) in
    omega (arith, was, written)

pub as_far_ahead : (next : StateId) (old mid new : Tour) (extent : Extent) → HasAskedOnly old mid → slice_get old.entered.items next.0 ≡ Some false → HasNoted next extent mid new → ahead new ≡ ahead old
as_far_ahead next old mid new extent asked unmarked noted = by_extent extent refl
  where
    entered_is : mid.entered.items ≡ old.entered.items
    entered_is = ap (λ v. v.items) asked.entered

    pending_is : mid.pending.items ≡ old.pending.items
    pending_is = ap (λ v. v.items) asked.pending

    same_ahead : IsUnmarked mid new → ahead new ≡ ahead old
    same_ahead same = ap (λ xs. count_by not xs + length new.pending.items) (same.entered ∙ entered_is) ∙ ap (λ xs. count_by not old.entered.items + length xs) (same.pending ∙ pending_is)

    by_extent : (e : Extent) → extent ≡ e → ahead new ≡ ahead old
    by_extent Nowhere is = same_ahead (noted.nowhere is).0
    by_extent Undecided is = same_ahead (noted.undecided is).0
    by_extent Somewhere is =
        let marks = noted.somewhere is in
        let counted = ap (count_by not) (marks.entered ∙ ap (λ xs. slice_set xs next.0 true) entered_is) in
        let less = mark_counted old.entered.items next.0 unmarked in
        let longer = ap length (marks.pending ∙ ap (λ xs. xs ++ next ∷ []) pending_is) ∙ length-append old.pending.items (next ∷ []) in
        omega (arith, counted, less, longer)

-- After a look at all states nothing is left to look at.
pub visited : (policy : Policy) (given : Budget) (state : StateId) (tour : Tour) (place : ℕ) → tour.count ≤ place → IsTouring policy given state place tour → IsToured policy given tour
visited policy given state tour place all h = record {
  is = h.is;
  done = λ decided a b is_a is_b. ⊎_elim (λ known. known) (λ here. absurd (past b is_b here.1)) (h.done decided a b is_a is_b);
}
  where
    past : (b : StateId) → slice_get tour.entered.items b.0 ≡ Some false → place ≤ b.0 → ⊥
    past b is_b le =
        let within = slice_get_within tour.entered.items b.0 false is_b in
        let many = h.is.many in
        let count = h.is.count in
        omega (arith, all, le, within, many, count)

-- The next pending state.
pub popped : (policy : Policy) (given : Budget) (state : StateId) (old new : Tour) → IsToured policy given old → IsPaidTour given new → new.scope ≡ old.scope → new.always ≡ old.always → new.states ≡ old.states → new.count ≡ old.count → new.entered ≡ old.entered
    → new.is_decided ≡ old.is_decided → old.pending.items ≡ new.pending.items ++ state ∷ [] → IsTouring policy given state 0 new
popped policy given state old new h paid scope always states count entered decided_same pending = record {
  is = record {
    paid = paid;
    scope = scope ∙ h.is.scope;
    always = ap (λ b. b.now) always ∙ h.is.always;
    states = ap (λ b. b.now) states ∙ h.is.states;
    count = count ∙ h.is.count;
    many = ap (λ v. length v.items) entered ∙ h.is.many;
    initial = ap (λ v. slice_get v.items policy.initial.0) entered ∙ h.is.initial;
    led = λ a at. h.is.led a (ap (λ v. slice_get v.items a.0) (sym entered) ∙ at);
    known = λ a c. ap (λ v. slice_get v.items a.0) entered ∙ h.is.known a (subst (λ xs. Contains xs a) (sym pending) (Contains-append_left new.pending.items (state ∷ []) a c));
  };
  marked = ap (λ v. slice_get v.items state.0) entered ∙ h.is.known state (subst (λ xs. Contains xs state) (sym pending) (Contains-push new.pending.items state));
  done = λ decided a b is_a is_b.
      ⊎_elim
      (λ c. ⊎_elim (λ d. inl (inl d)) (λ e. inr (sym e, omega arith)) (Contains-push_cases new.pending.items state a (subst (λ xs. Contains xs a) pending c)))
      (λ e. inl (inr e))
      (h.done (sym decided_same ∙ decided) a b (ap (λ v. slice_get v.items a.0) (sym entered) ∙ is_a) (ap (λ v. slice_get v.items b.0) (sym entered) ∙ is_b));
}

-- A tour that has no further pending state.
pub not_popped : (policy : Policy) (given : Budget) (old new : Tour) → IsToured policy given old → IsPaidTour given new → new.scope ≡ old.scope → new.always ≡ old.always → new.states ≡ old.states → new.count ≡ old.count → new.entered ≡ old.entered
    → new.is_decided ≡ old.is_decided → new.pending.items ≡ old.pending.items → IsToured policy given new
not_popped policy given old new h paid scope always states count entered decided_same pending = record {
  is = stays_of policy given old new h.is paid scope always states count (ap (λ v. v.items) entered) pending;
  done = λ decided a b is_a is_b.
      ⊎_elim (λ c. inl (subst (λ xs. Contains xs a) (sym pending) c)) (λ e. inr e)
      (h.done (sym decided_same ∙ decided) a b (ap (λ v. slice_get v.items a.0) (sym entered) ∙ is_a) (ap (λ v. slice_get v.items b.0) (sym entered) ∙ is_b));
}

pub only_asked : (policy : Policy) (given : Budget) (old new : Tour) → HasAskedOnly old new → IsToured policy given old → IsToured policy given new
only_asked policy given old new asked h = not_popped policy given old new h (still_paid given old new h.is.paid asked.spent asked.is_decided) asked.scope asked.always asked.states asked.count asked.entered asked.is_decided (ap (λ v. v.items) asked.pending)

-- The start.
false_at : (n i : ℕ) (x : Bool) → slice_get (replicate n false) i ≡ Some x → x ≡ false
false_at zero i x at = absurd (none-some x at)
false_at (suc n) zero x at = sym (same_Some false x at)
false_at (suc n) (suc i) x at = false_at n i x at

there_at : (n i : ℕ) → i < n → slice_get (replicate n false) i ≡ Some false
there_at zero i lt = absurd (omega (arith, lt))
there_at (suc n) zero lt = refl
there_at (suc n) (suc i) lt = there_at n i (omega (arith, lt))

many_false : (n : ℕ) → length (replicate n false) ≡ n
many_false zero = refl
many_false (suc n) = ap suc (many_false n)

not_in_nothing : {X : Type 0} (x : X) → Contains [] x → ⊥
not_in_nothing x c = let lt = c.1 in omega (arith, lt)

pub started : (policy : Policy) (given : Budget) (tour : Tour) (n : ℕ) → PolicyFits policy → tour.budget ≡ given → tour.is_decided ≡ true → tour.scope ≡ scope_of policy → tour.always.now ≡ policy.always.body → tour.states.now ≡ policy.states → n ≡ length policy.tables.states → tour.count ≡ n
    → tour.entered.items ≡ slice_set (replicate n false) policy.initial.0 true → tour.pending.items ≡ policy.initial ∷ [] → IsToured policy given tour
started policy given tour n fits budget decided scope always states n_is count entered pending = record {
  is = record {
    paid = record { spent = subst (IsSpent given) (sym budget) (unspent given); undecided = λ e. absurd (true≢false (sym decided ∙ e)) };
    scope = scope;
    always = always;
    states = states;
    count = count ∙ n_is ∙ sym fits.count;
    many = ap length entered ∙ length-set (replicate n false) policy.initial.0 true ∙ many_false n ∙ n_is ∙ sym fits.count;
    initial = marked_initial;
    led = λ a at. subst (IsLedTo policy) (is_initial a at) initially;
    known = λ a c. ⊎_elim (λ d. absurd (not_in_nothing a d)) (λ e. ap (λ x. slice_get tour.entered.items x.0) (sym e) ∙ marked_initial) (Contains-push_cases [] policy.initial a (subst (λ xs. Contains xs a) pending c));
  };
  done = λ decided a b is_a is_b. inl (subst (λ xs. Contains xs a) (sym pending) (subst (Contains (policy.initial ∷ [])) (is_initial a is_a) (Contains-push [] policy.initial)));
}
  where
    marked_initial : slice_get tour.entered.items policy.initial.0 ≡ Some true
    marked_initial = ap (λ xs. slice_get xs policy.initial.0) entered ∙ set_there (replicate n false) policy.initial.0 true false (there_at n policy.initial.0 (let lt = fits.initial in omega (arith, lt, n_is)))

    is_initial : (a : StateId) → slice_get tour.entered.items a.0 ≡ Some true → policy.initial ≡ a
    is_initial a at =
        ⊎_elim (λ e. same_state policy.initial a e)
        (λ differ. absurd (true≢false (false_at n a.0 true (sym (ap (λ xs. slice_get xs a.0) entered ∙ set_elsewhere (replicate n false) policy.initial.0 a.0 true differ) ∙ at)))) (cases_eq policy.initial.0 a.0)

-- The wishes of a policy are for its states.
later_fits : (sizes : Sizes) (before after : Option StateId) (next : StateId) → (before ≡ Some next → next.0 < sizes.states) → (after ≡ Some next → next.0 < sizes.states) → later_wish before after ≡ Some next
    → next.0 < sizes.states
later_fits sizes before None next f g e = f e
later_fits sizes before (Some state) next f g e = g e

no_before : (after : Option StateId) → later_wish None after ≡ after
no_before None = refl
no_before (Some state) = refl

chosen_fits : (sizes : Sizes) (c : Bool) (effects : Effects) (next : StateId) → (effects.wish ≡ Some next → next.0 < sizes.states) → (if c then effects else nothing_yet).wish ≡ Some next → next.0 < sizes.states
chosen_fits sizes true effects next f h = f h
chosen_fits sizes false effects next f h = absurd (none-some next h)

reached_fits : (sizes : Sizes) (facts : Facts) (block : Block) (next : StateId) → BlockFits sizes block → (reached facts block).wish ≡ Some next → next.0 < sizes.states
reached_fits sizes facts Done next fits e = absurd (none-some next e)
reached_fits sizes facts (RunThen command rest) next fits e = reached_fits sizes facts rest next fits.1 (sym (no_before (reached facts rest).wish) ∙ e)
reached_fits sizes facts (SetStateThen state rest) next fits e = later_fits sizes (Some state) (reached facts rest).wish next (λ h. subst (λ s. s.0 < sizes.states) (same_Some state next h) fits.0) (λ h. reached_fits sizes facts rest next fits.1 h) e
reached_fits sizes facts (IfThen condition inner rest) next fits e =
    later_fits sizes (if truth facts condition then reached facts inner else nothing_yet).wish (reached facts rest).wish next
    (λ h. chosen_fits sizes (truth facts condition) (reached facts inner) next (λ k. reached_fits sizes facts inner next fits.1 k) h) (λ h. reached_fits sizes facts rest next fits.2 h) e

yield_fits : (sizes : Sizes) (facts : Facts) (body : Block) (next : StateId) → BlockFits sizes body → (body_yield facts body).wish ≡ Some next → next.0 < sizes.states
yield_fits sizes facts body next fits e = held_fits (is_held facts body) e
  where
    held_fits : (held : Bool) → (if held then nothing_yet else reached facts body).wish ≡ Some next → next.0 < sizes.states
    held_fits true h = absurd (none-some next h)
    held_fits false h = reached_fits sizes facts body next fits h

wish_fits : (policy : Policy) (facts : Facts) (state next : StateId) → PolicyFits policy → wish_of policy facts state ≡ Some next → next.0 < length policy.states
wish_fits policy facts state next fits e =
    let sizes = sizes_of policy.tables in
    let below =
    later_fits sizes (body_yield facts policy.always.body).wish (yield_in (λ part. body_yield facts part.body) (slice_get policy.states state.0)).wish next
    (λ h. yield_fits sizes facts policy.always.body next fits.always.body h) (λ h. own_fits (slice_get policy.states state.0) refl h) e in
    let count = fits.count in
    omega (arith, below, count)
  where
    own_fits : (o : Option Handlers) → slice_get policy.states state.0 ≡ o → (yield_in (λ part. body_yield facts part.body) o).wish ≡ Some next → next.0 < length policy.tables.states
    own_fits None at h = absurd (none-some next h)
    own_fits (Some part) at h =
        let within = slice_get_within policy.states state.0 part at in
        let there = subst (HandlersFit (sizes_of policy.tables)) (get_or_from_slice_get policy.states state.0 part part at) (fits.states state.0 part within) in
        yield_fits (sizes_of policy.tables) facts part.body next there.body h

-- Where an evaluation leads is its wish.
leads_wish : (state next : StateId) (wish : Option StateId) → change_of state wish ≡ Some next → wish ≡ Some next
leads_wish state next None e = absurd (none-some next e)
leads_wish state next (Some other) e = changed (eqb other.0 state.0) e
  where
    changed : (c : Bool) → (if c then None else Some other) ≡ Some next → Some other ≡ Some next
    changed true h = absurd (none-some next h)
    changed false h = h

hits_itself : (next : StateId) → hits (To next) (Some next) ≡ true
hits_itself next = eq-eqb next.0 next.0 refl

-- The marked states, if nothing is pending and all was decided, are all that are entered.
abbrev is_marked : Tour → StateId → Bool
is_marked tour state = unwrap_or (slice_get tour.entered.items state.0) false

mark_there : (tour : Tour) (state : StateId) (o : Option Bool) → slice_get tour.entered.items state.0 ≡ o → unwrap_or o false ≡ true → slice_get tour.entered.items state.0 ≡ Some true
mark_there tour state None at h = absurd (false≢true h)
mark_there tour state (Some false) at h = absurd (false≢true h)
mark_there tour state (Some true) at h = at

all_entered : (policy : Policy) (given : Budget) (tour : Tour) → PolicyFits policy → IsToured policy given tour → tour.is_decided ≡ true → tour.pending.items ≡ [] → AreEntered policy (is_marked tour)
all_entered policy given tour fits h decided none_pending = record {
  initial = ap (λ o. unwrap_or o false) h.is.initial;
  next = λ a b facts is_a are leads. next_marked a b facts (mark_there tour a (slice_get tour.entered.items a.0) refl is_a) are (leads_wish a b (wish_of policy facts a) leads) (slice_get tour.entered.items b.0) refl;
}
  where
    next_marked : (a b : StateId) (facts : Facts) → slice_get tour.entered.items a.0 ≡ Some true → AreFactsOf (scope_of policy) facts → wish_of policy facts a ≡ Some b → (o : Option Bool) → slice_get tour.entered.items b.0 ≡ o
        → unwrap_or (slice_get tour.entered.items b.0) false ≡ true
    next_marked a b facts is_a are wish (Some true) at = ap (λ o. unwrap_or o false) at
    next_marked a b facts is_a are wish (Some false) at =
        ⊎_elim (λ c. absurd (not_in_nothing a (subst (λ xs. Contains xs a) none_pending c)))
        (λ no_edge. absurd (true≢false (sym (ap (hits (To b)) wish ∙ hits_itself b) ∙ no_edge facts are))) (h.done decided a b is_a at)
    next_marked a b facts is_a are wish None at =
        let below = wish_fits policy facts a b fits wish in
        let many = h.is.many in
        absurd (none-some _ (sym at ∙ slice_get-get_or tour.entered.items b.0 false (omega (arith, below, many))))

pub never_entered : (policy : Policy) (given : Budget) (tour : Tour) (state : StateId) → PolicyFits policy → IsToured policy given tour → tour.is_decided ≡ true → tour.pending.items ≡ [] → slice_get tour.entered.items state.0 ≡ Some false
    → IsNeverEntered policy state
never_entered policy given tour state fits h decided none_pending unmarked known is_known steps at =
    let there = entered_by_wishes policy (is_marked tour) (all_entered policy given tour fits h decided none_pending) known is_known steps in
    true≢false (sym (subst (λ s. is_marked tour s ≡ true) at there) ∙ ap (λ o. unwrap_or o false) unmarked)

-- Whether a state is left.
left_by : (state : StateId) (wish : Option StateId) → hits (Off state) wish ≡ true → (next : StateId) × (change_of state wish ≡ Some next)
left_by state None e = absurd (false≢true e)
left_by state (Some next) e = (next, leaves (eqb next.0 state.0) e)
  where
    leaves : (c : Bool) → not c ≡ true → (if c then None else Some next) ≡ Some next
    leaves true h = absurd (false≢true h)
    leaves false h = refl

stays_in : (state : StateId) (wish : Option StateId) → hits (Off state) wish ≡ false → change_of state wish ≡ None
stays_in state None e = refl
stays_in state (Some next) e = stays (eqb next.0 state.0) e
  where
    stays : (c : Bool) → not c ≡ false → (if c then None else Some next) ≡ None
    stays true h = refl
    stays false h = absurd (true≢false h)

exit_of : (policy : Policy) (state : StateId) (extent : Extent) → IsExtentOf (scope_of policy) (λ facts. hits (Off state) (wish_of policy facts state)) extent → IsExitOf policy state extent
exit_of policy state Somewhere h = let away = left_by state (wish_of policy h.0 state) h.2 in (h.0, away.0, h.1, away.1)
exit_of policy state Nowhere h = λ facts are. stays_in state (wish_of policy facts state) (h facts are)
exit_of policy state Undecided h = tt

pub exit_said : (policy : Policy) (given : Budget) (tour : Tour) (state : StateId) (extent : Extent) → IsToured policy given tour → IsAskedIn tour.scope tour.always.now tour.states.now state (Off state) extent → IsExitOf policy state extent
exit_said policy given tour state extent h branch = by_part (slice_get tour.states.now state.0) refl
  where
    by_part : (o : Option Handlers) → slice_get tour.states.now state.0 ≡ o → IsExitOf policy state extent
    by_part None at = subst (IsExitOf policy state) (sym (branch.1 at)) tt
    by_part (Some part) at = exit_of policy state extent (asked_of_policy policy given tour h.is state (Off state) part extent at branch.0)

-- One more answer.
get_push : {X : Type 0} (xs : List X) (x y : X) (k : ℕ) → slice_get (xs ++ x ∷ []) k ≡ Some y → (slice_get xs k ≡ Some y) ⊎ ((k ≡ length xs) × (x ≡ y))
get_push [] x y zero at = inr (refl, same_Some x y at)
get_push [] x y (suc k) at = absurd (none-some y at)
get_push (z ∷ zs) x y zero at = inl at
get_push (z ∷ zs) x y (suc k) at = ⊎_elim (λ e. inl e) (λ e. inr (ap suc e.0, e.1)) (get_push zs x y k at)

pub record SaysFirst (tour : Tour) (n : ℕ) (answers : List StateAnswer) : Type 0 where
  pub count : length answers ≡ n
  pub each : (policy : Policy) (given : Budget) → PolicyFits policy → IsToured policy given tour → (k : ℕ) (answer : StateAnswer) → slice_get answers k ≡ Some answer → IsStateAnswer policy (record { 0 = k }) answer

pub says_more : (tour : Tour) (n : ℕ) (answers more : List StateAnswer) (answer : StateAnswer) → SaysFirst tour n answers → Says (record { 0 = n }) tour answer → more ≡ answers ++ answer ∷ [] → SaysFirst tour (n + 1) more
says_more tour n answers more answer h says is = record {
  count = let e = ap length is in let l = length-append answers (answer ∷ []) in let c = h.count in omega (arith, e, l, c);
  each = λ policy given fits toured k x at.
      ⊎_elim (λ before. h.each policy given fits toured k x before)
      (λ last. subst (IsStateAnswer policy (record { 0 = k })) last.1 (subst (λ m. let state : StateId = record { 0 = m } in IsStateAnswer policy state answer) (sym (last.0 ∙ h.count)) (says policy given fits toured)))
      (get_push answers answer x k (ap (λ xs. slice_get xs k) (sym is) ∙ at));
}

pub asked_more : (a b c : Tour) → HasAskedOnly a b → HasAskedOnly b c → HasAskedOnly a c
asked_more a b c h k = record {
  scope = k.scope ∙ h.scope;
  always = k.always ∙ h.always;
  states = k.states ∙ h.states;
  count = k.count ∙ h.count;
  entered = k.entered ∙ h.entered;
  pending = k.pending ∙ h.pending;
  is_decided = k.is_decided ∙ h.is_decided;
  spent = spent_by_both a.budget b.budget c.budget h.spent k.spent;
}

pub says_of : (state : StateId) (a b : Tour) (answer : StateAnswer) → HasAskedOnly a b → Says state b answer → Says state a answer
says_of state a b answer asked says policy given fits toured = says policy given fits (only_asked policy given a b asked toured)

-- Nothing was asked.
pub asked_nothing : (a : Tour) → HasAskedOnly a a
asked_nothing a = record { scope = refl; always = refl; states = refl; count = refl; entered = refl; pending = refl; is_decided = refl; spent = unspent a.budget }

-- What is left open of a state after a tour.
pub entry_paid : (policy : Policy) (given : Budget) (tour : Tour) (state : StateId) → IsToured policy given tour → state.0 < length policy.states → (slice_get tour.entered.items state.0 ≡ Some true → ⊥)
    → (slice_get tour.entered.items state.0 ≡ Some false → tour.is_decided ≡ false) → IsUsedUp given tour.budget
entry_paid policy given tour state h lt marked unmarked =
    let many = h.is.many in
    h.is.paid.undecided (by_mark (get_or tour.entered.items state.0 false) (slice_get-get_or tour.entered.items state.0 false (omega (arith, lt, many))))
  where
    by_mark : (mark : Bool) → slice_get tour.entered.items state.0 ≡ Some mark → tour.is_decided ≡ false
    by_mark true at = absurd (marked at)
    by_mark false at = unmarked at

pub exit_paid : (policy : Policy) (given : Budget) (old new : Tour) (state : StateId) (extent : Extent) → IsToured policy given old → state.0 < length policy.states → IsPaidIn old.states.now state old.budget new.budget extent
    → extent ≡ Undecided → IsUsedUp given new.budget
exit_paid policy given old new state extent h lt paid e =
    ⊎_elim (λ none. absurd (there_in policy given old state h.is lt none)) (λ used. more_used given old.budget new.budget h.is.paid.spent used) (paid e)

-- What is left open of the first states.
pub record PaysFirst (old new : Tour) (n : ℕ) (answers : List StateAnswer) : Type 0 where
  pub each : (policy : Policy) (given : Budget) → IsToured policy given old → old.pending.items ≡ [] → n ≤ length policy.states → Any LeavesOpen answers → IsUsedUp given new.budget

pub pays_none : (tour : Tour) → PaysFirst tour tour 0 []
pays_none tour = record { each = λ policy given h none_pending le any. absurd (let lt = any.2 in omega (arith, lt)) }

pub pays_more : (start old new : Tour) (n : ℕ) (answers more : List StateAnswer) (answer : StateAnswer) → HasAskedOnly start old → HasAskedOnly old new → PaysFirst start old n answers → Pays (record { 0 = n }) old new answer
    → more ≡ answers ++ answer ∷ [] → PaysFirst start new (n + 1) more
pays_more start old new n answers more answer asked asked_then h pays is = record {
  each = λ policy given toured none_pending le any.
      ⊎_elim (λ before. still_used given old.budget new.budget asked_then.spent (h.each policy given toured none_pending (omega (arith, le)) before))
      (λ last. pays policy given (only_asked policy given start old asked toured) (ap (λ v. v.items) asked.pending ∙ none_pending) (omega (arith, le)) last)
      (any_push_cases LeavesOpen answers answer (subst (Any LeavesOpen) is any));
}
