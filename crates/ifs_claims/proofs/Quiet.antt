-- Commands that are run only while a guard is not met.
use Rattle.std.proofs.Common.{◌≡◌, ℕ, ◌<◌, ◌≤◌, ◌⊎◌, inl, inr, ⊎_elim, Bool, true, false, not, ◌&&◌, ◌||◌, List, [], ◌∷◌, ◌++◌, length, Option, Some, None, eqb, refl, sym, ap, ◌∙◌, subst, arith}
use Rattle.std.specs.Prelude.{slice_get, if◌then◌else◌}
use Rattle.std.specs.Borrow.{Bor}
use Rattle.std.proofs.lemmas.Bool.{false≢true, true≢false}
use Rattle.std.proofs.lemmas.Option.{slice_get_within}
use Rattle.std.proofs.lemmas.List.Folds.{list_any-append}
use Rattle.ifs_base.specs.Facts.{Facts}
use Rattle.ifs_base.specs.Effects.{Effects, nothing_yet}
use Rattle.ifs_base.specs.declared.ids.CommandId.{CommandId}
use Rattle.ifs_base.specs.declared.ids.StateId.{StateId}
use Rattle.ifs_core.specs.declared.step.Step.{Step}
use Rattle.ifs_core.specs.Event.{Handler, AlwaysInit, AlwaysBody, Init, Body}
use Rattle.ifs_core.specs.Gateway.{Known}
use Rattle.ifs_gen.specs.Events.{yield_of, yield_in}
use Rattle.ifs_gen.specs.Trees.{Part, Policy}
use Rattle.ifs_parse.specs.Views.{block_of}
use Rattle.ifs_parse.specs.declared.block.Statement.{Statement}
use Rattle.ifs_policy.specs.declared.policy.Single.{Single}
use Rattle.ifs_policy.specs.Fits.{PolicyFits}
use Rattle.ifs_policy.specs.Meaning.{Block, is_held, reached, body_yield, init_yield}
use Rattle.ifs_solver.specs.declared.constraints.Guard.{Guard as GuardOfCode}
use Rattle.ifs_solver.specs.declared.constraints.Constraint.{Constraint}
use Rattle.ifs_solver.specs.declared.constraints.Aim.TheVariants.{To}
use Rattle.ifs_solver.specs.declared.constraints.Constraint.TheVariants.{Met, Free, Silent, Aims}
use Rattle.ifs_solver.specs.declared.searching.Extent.{Extent}
use Rattle.ifs_solver.specs.declared.searching.Extent.TheVariants.{Somewhere, Nowhere, Undecided}
use Rattle.ifs_solver.specs.Asking.{Guard, guard_of, is_met, IsExtentAmong, either, meets_all, IsAnswered}
use Rattle.ifs_solver.specs.FactSets.{AreFactsOf, FactSet, Within, full_fact_set, scope_of}
use Rattle.ifs_solver.specs.Situations.{situation_after, leads_to, wish_of, IsKnownFor, IsNeverEntered}
use Rattle.ifs_solver.proofs.Witnesses.{all_within, among_agrees, among_same, within_all}
use Rattle.ifs_gen.specs.Events.{ActiveAreMentioned}
use Rattle.ifs_claims.specs.Asked.{AreFactsIn}
use Rattle.ifs_claims.specs.inner.AskedSets.{asked_fact_set}
use Rattle.ifs_claims.specs.inner.Stays.{where_hit, where_moving, AreBodiesIn}
use Rattle.ifs_claims.proofs.AskedFor.{steps_see_facts_in}
use Rattle.ifs_claims.proofs.Entries.{never_itself, not_second}
use Rattle.ifs_claims.proofs.KeptValues.{reached_kept}
use Rattle.ifs_claims.proofs.Leading.{hit_by, leads_by}
use Rattle.ifs_claims.proofs.Staying.{among_asked, hit_in, moving_met, widened_among}
use Rattle.ifs_claims.proofs.Valueless.{opening_facts, opening_within}
use Rattle.ifs_claims.specs.Claims.{queues, NeverRuns}
use Rattle.ifs_claims.specs.Moves.{seen, kept_facts, with_init}
use Rattle.ifs_claims.specs.Told.{WouldRun, at_opening, by_body, by_entry, IsToldOfRuns}
use Rattle.ifs_claims.specs.inner.Opening.{opening_fact_set, AreQuietOpenings}
use Rattle.ifs_claims.specs.inner.Reaching.{runs, where_runs, where_init, where_led, where_body}
use Rattle.ifs_claims.specs.inner.Running.{IsQuietAmong, IsQuietAlways, IsAlways, AreAlwaysBefore, AreAlways, IsQuietBody, IsQuietInit, IsQuietInitFrom, IsBody, IsInit, IsInitBefore, IsInitFrom, AreInitsBefore, IsQuietState, IsState, AreStatesBefore, AreStates, AreOpenings, AreEvaluations}
use Rattle.ifs_claims.specs.inner.Widening.{WidensAmong}
use Rattle.ifs_claims.proofs.Standing.{length_kept, states_stay, steps_evaluate}
use Rattle.ifs_claims.proofs.Answering.{answered_by, answered_both, same_state, told_of}

-- A search that begins with `Nowhere` answers for its own constraints.
pub found : (P : Facts → Type 0) (constraints : List Constraint) (command : CommandId) (block : Block) (extent : Extent) → WidensAmong P (where_runs constraints command block) Nowhere extent → IsExtentAmong P (where_runs constraints command block) extent
found P constraints command block extent h = h (λ facts. false) (λ facts are. refl)

pub found_there : (P : Facts → Type 0) (constraints : List Constraint) (command : CommandId) (block : Block) (listed : List (Statement Single CommandId StateId)) (extent : Extent) → block ≡ block_of listed
    → WidensAmong P (where_runs constraints command (block_of listed)) Nowhere extent → IsExtentAmong P (where_runs constraints command block) extent
found_there P constraints command block listed extent block_is h =
    subst (λ b. IsExtentAmong P (where_runs constraints command b) extent) (sym block_is) (found P constraints command (block_of listed) extent h)

-- All facts are within the full set.
pub full_found : (policy : Policy) (test : Facts → Bool) (set : FactSet) (extent : Extent) → set ≡ full_fact_set (scope_of policy) → IsExtentAmong (Within set) test extent → IsExtentAmong (AreFactsOf (scope_of policy)) test extent
full_found policy test set extent is h =
    let scope = scope_of policy in
    among_same (Within set) (AreFactsOf scope) test (λ facts within. within_all scope facts (subst (λ x. Within x facts) is within)) (λ facts are. subst (λ x. Within x facts) (sym is) (all_within scope facts are)) extent h

regroup_init : (t r : Bool) → (t && r) ≡ ((t && true) && r)
regroup_init true r = refl
regroup_init false r = refl

pub init_found : (P : Facts → Type 0) (guard : GuardOfCode) (command : CommandId) (block : Block) (extent : Extent) → IsExtentAmong P (where_runs (Met guard ∷ []) command block) extent
    → IsExtentAmong P (where_init (guard_of guard) command block) extent
init_found P guard command block extent h =
    among_agrees P (where_init (guard_of guard) command block) (where_runs (Met guard ∷ []) command block) (λ facts. regroup_init (is_met facts (guard_of guard)) (runs command (reached facts block))) extent h

regroup_body : (t h : Bool) (command : CommandId) (e : Effects) → (t && runs command (if h then nothing_yet else e)) ≡ ((t && (not h && true)) && runs command e)
regroup_body false h command e = refl
regroup_body true true command e = refl
regroup_body true false command e = refl

pub body_found : (P : Facts → Type 0) (guard : GuardOfCode) (command : CommandId) (body : Bor Block) (extent : Extent) → IsExtentAmong P (where_runs (Met guard ∷ Free body ∷ []) command body.now) extent
    → IsExtentAmong P (where_body (guard_of guard) command body.now) extent
body_found P guard command body extent h =
    among_agrees P (where_body (guard_of guard) command body.now) (where_runs (Met guard ∷ Free body ∷ []) command body.now)
    (λ facts. regroup_body (is_met facts (guard_of guard)) (is_held facts body.now) command (reached facts body.now)) extent h

-- The operands of a conjunction.
first_of : (a b : Bool) → (a && b) ≡ true → a ≡ true
first_of true b e = refl
first_of false b e = e

second_of : (a b : Bool) → (a && b) ≡ true → b ≡ true
second_of true b e = e
second_of false b e = absurd (false≢true e)

not_first : (a b : Bool) → b ≡ true → (a && b) ≡ false → a ≡ false
not_first true true e f = f
not_first true false e f = absurd (false≢true e)
not_first false b e f = refl

-- The answer for a block is the answer for its handler.
handler_answered : (P : Facts → Type 0) (policy : Policy) (command : CommandId) (guard : Guard) (handler : Handler) (yield : Facts → Effects) (extent : Extent)
    → ((facts : Facts) → P facts → is_met facts guard ≡ true → queues command (yield_of policy handler facts).commands ≡ true → WouldRun policy command guard) → ((facts : Facts) → yield_of policy handler facts ≡ yield facts)
    → IsExtentAmong P (λ facts. is_met facts guard && runs command (yield facts)) extent → IsAnswered (IsQuietAmong P policy command guard handler) (WouldRun policy command guard) extent
handler_answered P policy command guard handler yield Somewhere would is h =
    would h.0 h.1 (first_of (is_met h.0 guard) (runs command (yield h.0)) h.2) (ap (runs command) (is h.0) ∙ second_of (is_met h.0 guard) (runs command (yield h.0)) h.2)
handler_answered P policy command guard handler yield Nowhere would is h =
    λ facts are e. not_first (is_met facts guard) (runs command (yield facts)) (ap (runs command) (sym (is facts)) ∙ e) (h facts are)
handler_answered P policy command guard handler yield Undecided would is h = tt

-- At an opening.
abbrev OpeningFacts : Policy → Facts → Type 0
OpeningFacts policy = Within (opening_fact_set (scope_of policy))

always_init_answered : (policy : Policy) (command : CommandId) (guard : Guard) (init : Block) (extent : Extent) → init ≡ policy.always.init → IsExtentAmong (OpeningFacts policy) (where_init guard command init) extent
    → IsAnswered (IsQuietAmong (OpeningFacts policy) policy command guard AlwaysInit) (WouldRun policy command guard) extent
always_init_answered policy command guard init extent is h =
    handler_answered (OpeningFacts policy) policy command guard AlwaysInit (λ facts. reached facts init) extent (λ facts within t q. at_opening AlwaysInit facts (inl refl) (opening_facts policy facts within) t q)
    (λ facts. ap (reached facts) (sym is)) h

init_answered : (policy : Policy) (command : CommandId) (guard : Guard) (part : Part) (extent : Extent) → slice_get policy.states policy.initial.0 ≡ Some part → IsExtentAmong (OpeningFacts policy) (where_init guard command part.init) extent
    → IsAnswered (IsQuietAmong (OpeningFacts policy) policy command guard (Init policy.initial.0)) (WouldRun policy command guard) extent
init_answered policy command guard part extent at h =
    handler_answered (OpeningFacts policy) policy command guard (Init policy.initial.0) (λ facts. reached facts part.init) extent
    (λ facts within t q. at_opening (Init policy.initial.0) facts (inr refl) (opening_facts policy facts within) t q) (λ facts. ap (yield_in (λ part. init_yield facts part.init)) at) h

-- Commands of several handlers.
either_queues : (command : CommandId) (xs ys : List CommandId) → queues command (xs ++ ys) ≡ true → (queues command xs ≡ true) ⊎ (queues command ys ≡ true)
either_queues command xs ys e = by_test (queues command xs) (queues command ys) (sym (list_any-append (λ other. eqb other.0 command.0) xs ys) ∙ e)
  where
    by_test : (a b : Bool) → (a || b) ≡ true → (a ≡ true) ⊎ (b ≡ true)
    by_test true b h = inl refl
    by_test false b h = inr h

-- The inits of an opening.
inits_quiet : (policy : Policy) (command : CommandId) (guard : Guard)
    → IsQuietAmong (OpeningFacts policy) policy command guard AlwaysInit × IsQuietAmong (OpeningFacts policy) policy command guard (Init policy.initial.0) → AreQuietOpenings policy command guard
inits_quiet policy command guard quiet known fits e =
    let facts = (situation_after policy known []).facts in
    let within = opening_within policy known fits in
    ⊎_elim (λ h. quiet.0 facts within h) (λ h. quiet.1 facts within h)
    (either_queues command (yield_of policy AlwaysInit facts).commands (yield_of policy (Init policy.initial.0) facts).commands e)

pub openings_answered : (policy : Policy) (command : CommandId) (guard : Guard) (state : StateId) (part : Part) (init : Block) (set : FactSet) (one two : Extent) → state ≡ policy.initial → slice_get policy.states state.0 ≡ Some part
    → init ≡ policy.always.init → set ≡ opening_fact_set (scope_of policy) → IsExtentAmong (Within set) (where_init guard command init) one → IsExtentAmong (Within set) (where_init guard command part.init) two
    → AreOpenings policy command guard (either one two)
openings_answered policy command guard state part init set one two state_is at init_is set_is h k =
    let P : Type 0 = IsQuietAmong (OpeningFacts policy) policy command guard AlwaysInit in
    let Q : Type 0 = IsQuietAmong (OpeningFacts policy) policy command guard (Init policy.initial.0) in
    let B = WouldRun policy command guard in
    answered_by (P × Q) (AreQuietOpenings policy command guard) B (either one two) (inits_quiet policy command guard)
    (answered_both P Q B one two (always_init_answered policy command guard init one init_is (subst (λ x. IsExtentAmong (Within x) (where_init guard command init) one) set_is h))
    (init_answered policy command guard part two (ap (λ s. slice_get policy.states s.0) (sym state_is) ∙ at) (subst (λ x. IsExtentAmong (Within x) (where_init guard command part.init) two) set_is k)))

-- The always body, under all facts or under those of each state.
always_nowhere : (policy : Policy) (command : CommandId) (guard : Guard) → IsExtentAmong (AreFactsOf (scope_of policy)) (where_body guard command policy.always.body) Nowhere → AreAlways policy command guard Nowhere
always_nowhere policy command guard none state known fits steps at facts are e =
    not_first (is_met facts guard) (runs command (body_yield facts policy.always.body)) e (none facts are.are)

pub always_everywhere : (policy : Policy) (command : CommandId) (guard : Guard) (body : Block) (extent : Extent) → extent ≡ Nowhere → body ≡ policy.always.body
    → IsExtentAmong (AreFactsOf (scope_of policy)) (where_body guard command body) extent → AreAlways policy command guard Nowhere
always_everywhere policy command guard body extent none is h =
    always_nowhere policy command guard
    (subst (λ b. IsExtentAmong (AreFactsOf (scope_of policy)) (where_body guard command b) Nowhere) is (subst (IsExtentAmong (AreFactsOf (scope_of policy)) (where_body guard command body)) none h))

pub always_never : (policy : Policy) (command : CommandId) (guard : Guard) (state : StateId) → IsNeverEntered policy state → IsQuietAlways policy command guard state
always_never policy command guard state never known fits steps at = absurd (never known fits steps at)

pub always_there : (policy : Policy) (command : CommandId) (guard : Guard) (state : StateId) (always own : Block) (set : FactSet) (extent : Extent) → AreBodiesIn policy state always own
    → set ≡ asked_fact_set (scope_of policy) always own → IsExtentAmong (Within set) (where_body guard command always) extent → IsAlways policy command guard state extent
always_there policy command guard state always own set extent are is h =
    answered_by (IsQuietAmong (AreFactsIn policy state) policy command guard AlwaysBody) (IsQuietAlways policy command guard state) (WouldRun policy command guard) extent (λ quiet known fits steps here. quiet)
    (handler_answered (AreFactsIn policy state) policy command guard AlwaysBody (λ facts. body_yield facts always) extent (λ facts there t q. by_body state AlwaysBody facts (inl refl) there t q) (λ facts. ap (body_yield facts) (sym are.always_is))
    (among_asked policy state always own set (where_body guard command always) extent are is h))

pub no_always_before : (policy : Policy) (command : CommandId) (guard : Guard) → AreAlwaysBefore policy command guard 0 Nowhere
no_always_before policy command guard state lt = absurd (omega (arith, lt))

pub always_said : (policy : Policy) (command : CommandId) (guard : Guard) (count : ℕ) (extent : Extent) → PolicyFits policy → length policy.tables.states ≤ count → AreAlwaysBefore policy command guard count extent
    → AreAlways policy command guard extent
always_said policy command guard count extent policy_fits all h =
    answered_by ((state : StateId) → state.0 < count → IsQuietAlways policy command guard state) ((state : StateId) → IsQuietAlways policy command guard state) (WouldRun policy command guard) extent
    (λ quiet state known fits steps at.
    let there = states_stay policy policy_fits known fits steps in
    let below = slice_get_within policy.states (situation_after policy known steps).current.0 there.0 there.1 in
    let same = policy_fits.count in
    let number : (situation_after policy known steps).current.0 ≡ state.0 = ap (λ s. s.0) at in
    quiet state (omega (arith, below, all, same, number)) known fits steps at)
    h

-- The body of a state.
pub body_never : (policy : Policy) (command : CommandId) (guard : Guard) (state : StateId) → IsNeverEntered policy state → IsQuietBody policy command guard state
body_never policy command guard state never known fits steps at = absurd (never known fits steps at)

pub body_said : (policy : Policy) (command : CommandId) (guard : Guard) (state : StateId) (part : Part) (extent : Extent) → IsExtentAmong (AreFactsIn policy state) (where_body guard command part.body) extent
    → IsBody policy command guard state part extent
body_said policy command guard state part extent h at =
    answered_by (IsQuietAmong (AreFactsIn policy state) policy command guard (Body state.0)) (IsQuietBody policy command guard state) (WouldRun policy command guard) extent (λ quiet known fits steps here. quiet)
    (handler_answered (AreFactsIn policy state) policy command guard (Body state.0) (λ facts. body_yield facts part.body) extent (λ facts there t q. by_body state (Body state.0) facts (inr refl) there t q)
    (λ facts. ap (yield_in (λ part. body_yield facts part.body)) at) h)

pub body_there : (policy : Policy) (command : CommandId) (guard : Guard) (state : StateId) (part : Part) (always own : Block) (set : FactSet) (extent : Extent) → AreBodiesIn policy state always own
    → set ≡ asked_fact_set (scope_of policy) always own → IsExtentAmong (Within set) (where_body guard command part.body) extent → IsBody policy command guard state part extent
body_there policy command guard state part always own set extent are is h =
    body_said policy command guard state part extent (among_asked policy state always own set (where_body guard command part.body) extent are is h)

-- The init of a state that an evaluation leads to.
init_yields : (policy : Policy) (state : StateId) (part : Part) (facts : Facts) → slice_get policy.states state.0 ≡ Some part → yield_of policy (Init state.0) facts ≡ reached facts part.init
init_yields policy state part facts at = ap (yield_in (λ part. init_yield facts part.init)) at

kept_are : (policy : Policy) (facts : Facts) → AreFactsOf (scope_of policy) facts → AreFactsOf (scope_of policy) (kept_facts policy facts)
kept_are policy facts are = record { links = are.links; tests = length_kept _ facts.tests ∙ are.tests }

pub init_nowhere : (policy : Policy) (command : CommandId) (guard : Guard) (state : StateId) (part : Part) (extent : Extent) → extent ≡ Nowhere → slice_get policy.states state.0 ≡ Some part
    → IsExtentAmong (AreFactsOf (scope_of policy)) (where_runs [] command part.init) extent → IsInit policy command guard state Nowhere
init_nowhere policy command guard state part extent is at h known fits steps facts are leads e =
    let none = subst (IsExtentAmong (AreFactsOf (scope_of policy)) (where_runs [] command part.init)) is h in
    absurd (true≢false (sym e ∙ ap (runs command) (init_yields policy state part (kept_facts policy facts) at) ∙ none (kept_facts policy facts) (kept_are policy facts are.are)))

either_runs : (a b r : Bool) → ((a || b) && r) ≡ ((a && r) || (b && r))
either_runs true true true = refl
either_runs true false true = refl
either_runs true true false = refl
either_runs true false false = refl
either_runs false b r = refl

pub led_asked : (P : Facts → Type 0) (always own : Bor Block) (next : StateId) (guard : GuardOfCode) (command : CommandId) (block : Block) (by_own by_always : Extent)
    → IsExtentAmong P (where_runs (Free own ∷ Aims own (To next) ∷ Met guard ∷ []) command block) by_own
    → IsExtentAmong P (where_runs (Silent own ∷ Free always ∷ Aims always (To next) ∷ Met guard ∷ []) command block) by_always
    → IsExtentAmong P (where_led always.now own.now next (guard_of guard) command block) (either by_own by_always)
led_asked P always own next guard command block by_own by_always h k =
    let one = Free own ∷ Aims own (To next) ∷ Met guard ∷ [] in
    let other = Silent own ∷ Free always ∷ Aims always (To next) ∷ Met guard ∷ [] in
    among_agrees P (where_led always.now own.now next (guard_of guard) command block) _
    (λ facts. ap (λ b. b && runs command (reached facts block)) (moving_met always own next guard facts) ∙ either_runs (meets_all one facts) (meets_all other facts) (runs command (reached facts block)))
    (either by_own by_always) (widened_among P (where_runs other command block) by_own by_always k (where_runs one command block) h)

pub init_itself : (policy : Policy) (command : CommandId) (guard : Guard) (state previous : StateId) → previous.0 ≡ state.0 → IsQuietInitFrom policy command guard state previous
init_itself policy command guard state previous e known fits steps facts are at leads q =
    absurd (never_itself previous (wish_of policy facts previous) (leads ∙ ap (λ s. Some s) (same_state state previous (sym e))))

pub init_never : (policy : Policy) (command : CommandId) (guard : Guard) (state previous : StateId) → IsNeverEntered policy previous → IsQuietInitFrom policy command guard state previous
init_never policy command guard state previous never known fits steps facts are at leads q = absurd (never known fits steps at)

module _ (active : ActiveAreMentioned) (policy : Policy) (command : CommandId) (guard : Guard) (state previous : StateId) (init : Block) (before : IsInitBefore policy state init) (always own : Block) (bodies : AreBodiesIn policy previous always own)
    (differ : previous.0 ≡ state.0 → ⊥) where
  runs_then : (facts : Facts) → AreFactsIn policy previous facts → runs command (yield_of policy (Init state.0) (kept_facts policy facts)) ≡ runs command (reached facts init)
  runs_then facts are =
      ap (runs command)
      (init_yields policy state before.part (kept_facts policy facts) before.there ∙ sym (reached_kept active policy before.fits facts are.are before.part.init) ∙ ap (reached facts) (sym before.init_is))

  led_by : (extent : Extent) → IsExtentAmong (AreFactsIn policy previous) (where_led always own state guard command init) extent → IsInitFrom policy command guard state previous extent
  led_by Somewhere h =
      let hit = where_hit always own (To state) h.0 in
      let moving = where_moving always own state guard h.0 in
      let reaches = runs command (reached h.0 init) in
      let moves = first_of moving reaches h.2 in
      by_entry state
      (record {
        state = previous;
        facts = h.0;
        are = h.1;
        leads = record { are = h.1.are; leads = leads_by previous state (wish_of policy h.0 previous) differ (hit_in policy previous always own bodies (To state) h.0 ∙ first_of hit (is_met h.0 guard) moves) };
        true_there = second_of hit (is_met h.0 guard) moves;
      })
      (runs_then h.0 h.1 ∙ second_of moving reaches h.2)
  led_by Nowhere h = λ known fits steps facts are at leads q.
      let hit = where_hit always own (To state) facts in
      not_second hit (is_met facts guard) (sym (hit_in policy previous always own bodies (To state) facts) ∙ hit_by previous state (wish_of policy facts previous) leads)
      (not_first (where_moving always own state guard facts) (runs command (reached facts init)) (sym (runs_then facts are) ∙ q) (h facts are))
  led_by Undecided h = tt

  pub init_from : (set : FactSet) (extent : Extent) → set ≡ asked_fact_set (scope_of policy) always own → IsExtentAmong (Within set) (where_led always own state guard command init) extent → IsInitFrom policy command guard state previous extent
  init_from set extent is h = led_by extent (among_asked policy previous always own set (where_led always own state guard command init) extent bodies is h)

-- From all states.
pub no_init_before : (policy : Policy) (command : CommandId) (guard : Guard) (state : StateId) → AreInitsBefore policy command guard state 0 Nowhere
no_init_before policy command guard state previous lt = absurd (omega (arith, lt))

pub inits_said : (policy : Policy) (command : CommandId) (guard : Guard) (state : StateId) (count : ℕ) (extent : Extent) → PolicyFits policy → length policy.tables.states ≤ count → AreInitsBefore policy command guard state count extent
    → IsInit policy command guard state extent
inits_said policy command guard state count extent policy_fits all h =
    answered_by ((previous : StateId) → previous.0 < count → IsQuietInitFrom policy command guard state previous) (IsQuietInit policy command guard state) (WouldRun policy command guard) extent
    (λ quiet known fits steps facts are leads.
    let s = situation_after policy known steps in
    let there = states_stay policy policy_fits known fits steps in
    let within = slice_get_within policy.states s.current.0 there.0 there.1 in
    let same = policy_fits.count in
    quiet s.current (omega (arith, all, within, same)) known fits steps facts are refl leads) h

pub state_said : (policy : Policy) (command : CommandId) (guard : Guard) (state : StateId) (part : Part) (one two : Extent) → slice_get policy.states state.0 ≡ Some part → IsBody policy command guard state part one
    → IsInit policy command guard state two → IsState policy command guard state (either one two)
state_said policy command guard state part one two at h k =
    answered_both (IsQuietBody policy command guard state) (IsQuietInit policy command guard state) (WouldRun policy command guard) one two (h at) k

-- All states.
pub none_before : (policy : Policy) (command : CommandId) (guard : Guard) → AreStatesBefore policy command guard 0 Nowhere
none_before policy command guard state lt = absurd (omega (arith, lt))

pub states_said : (policy : Policy) (command : CommandId) (guard : Guard) (count : ℕ) (extent : Extent) → PolicyFits policy → length policy.tables.states ≤ count → AreStatesBefore policy command guard count extent
    → AreStates policy command guard extent
states_said policy command guard count extent policy_fits all h =
    answered_by ((state : StateId) → state.0 < count → IsQuietState policy command guard state) ((state : StateId) → state.0 < length policy.states → IsQuietState policy command guard state) (WouldRun policy command guard)
    extent (λ quiet state lt. let same = policy_fits.count in quiet state (omega (arith, lt, all, same))) h

module _ (policy : Policy) (command : CommandId) (guard : Guard) (always : (state : StateId) → IsQuietAlways policy command guard state)
    (states : (state : StateId) → state.0 < length policy.states → IsQuietState policy command guard state) (known : Known) (fits : IsKnownFor policy known) (steps : List Step)
    (facts : Facts) (are : AreFactsIn policy (situation_after policy known steps).current facts) where
  abbrev current : StateId
  current = (situation_after policy known steps).current

  own_quiet : (o : Option Part) → slice_get policy.states current.0 ≡ o → queues command (yield_of policy (Body current.0) facts).commands ≡ true → is_met facts guard ≡ false
  own_quiet None at e = absurd (false≢true (ap (λ o. runs command (yield_in (λ part. body_yield facts part.body) o)) (sym at) ∙ e))
  own_quiet (Some part) at e = (states current (slice_get_within policy.states current.0 part at)).0 known fits steps refl facts are e

  init_quiet : (next : StateId) (o : Option Part) → slice_get policy.states next.0 ≡ o → leads_to policy facts current ≡ Some next
      → queues command (yield_of policy (Init next.0) (kept_facts policy facts)).commands ≡ true → is_met facts guard ≡ false
  init_quiet next None at leads e = absurd (false≢true (ap (λ o. runs command (yield_in (λ part. init_yield (kept_facts policy facts) part.init) o)) (sym at) ∙ e))
  init_quiet next (Some part) at leads e = (states next (slice_get_within policy.states next.0 part at)).1 known fits steps facts are leads e

  bodies_quiet : queues command ((yield_of policy AlwaysBody facts).commands ++ (yield_of policy (Body current.0) facts).commands) ≡ true → is_met facts guard ≡ false
  bodies_quiet e =
      ⊎_elim (λ h. always current known fits steps refl facts are h) (λ h. own_quiet (slice_get policy.states current.0) refl h)
      (either_queues command (yield_of policy AlwaysBody facts).commands (yield_of policy (Body current.0) facts).commands e)

  event_quiet : (o : Option StateId) → leads_to policy facts current ≡ o
      → queues command (with_init policy facts o ((yield_of policy AlwaysBody facts).commands ++ (yield_of policy (Body current.0) facts).commands)) ≡ true → is_met facts guard ≡ false
  event_quiet None leads e = bodies_quiet e
  event_quiet (Some next) leads e =
      ⊎_elim (λ h. bodies_quiet h) (λ h. init_quiet next (slice_get policy.states next.0) refl leads h)
      (either_queues command ((yield_of policy AlwaysBody facts).commands ++ (yield_of policy (Body current.0) facts).commands) (yield_of policy (Init next.0) (kept_facts policy facts)).commands e)

runs_quiet : ActiveAreMentioned → (policy : Policy) (command : CommandId) (guard : Guard) → AreQuietOpenings policy command guard
    × (((state : StateId) → IsQuietAlways policy command guard state) × ((state : StateId) → state.0 < length policy.states → IsQuietState policy command guard state)) → NeverRuns policy command guard
runs_quiet active policy command guard all = record {
  opening = all.0;
  step = λ known fits steps step e.
      let before = situation_after policy known steps in
      let facts = seen step before.facts in
      ⊎_elim (λ none. absurd (false≢true (ap (queues command) (sym none) ∙ e)))
      (λ some.
      ⊎_elim (λ still. absurd (false≢true (ap (queues command) (sym still.1) ∙ e)))
      (λ asked. event_quiet policy command guard all.1.0 all.1.1 known fits steps facts asked (leads_to policy facts before.current) refl (ap (queues command) (sym some.1) ∙ e)) (steps_see_facts_in active policy known fits steps step))
      (steps_evaluate policy known fits steps step).queued;
}

pub evaluations_said : (policy : Policy) (command : CommandId) (guard : Guard) (one two : Extent) → AreAlways policy command guard one → AreStates policy command guard two
    → AreEvaluations policy command guard (either one two)
evaluations_said policy command guard one two h k =
    answered_both ((state : StateId) → IsQuietAlways policy command guard state) ((state : StateId) → state.0 < length policy.states → IsQuietState policy command guard state) (WouldRun policy command guard) one two h k

pub runs_told : ActiveAreMentioned → (policy : Policy) (command : CommandId) (guard : Guard) (one two both told : Extent) → AreOpenings policy command guard one → AreEvaluations policy command guard two → both ≡ either one two
    → told ≡ both → IsToldOfRuns policy command guard told
runs_told active policy command guard one two both told h k both_eq told_eq =
    let P : Type 0 = AreQuietOpenings policy command guard in
    let Q : Type 0 = ((state : StateId) → IsQuietAlways policy command guard state) × ((state : StateId) → state.0 < length policy.states → IsQuietState policy command guard state) in
    let B = WouldRun policy command guard in
    told_of (NeverRuns policy command guard) B (either one two) told (told_eq ∙ both_eq)
    (answered_by (P × Q) (NeverRuns policy command guard) B (either one two) (runs_quiet active policy command guard) (answered_both P Q B one two h k))
