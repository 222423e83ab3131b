-- What a policy does in a world that stays.
use Rattle.std.proofs.Common.{◌≡◌, ℕ, zero, suc, ◌+◌, ◌<◌, ◌≤◌, ◌⊎◌, inl, inr, ⊎_elim, Bool, true, false, not, ◌&&◌, ◌||◌, List, [], ◌∷◌, ◌++◌, length, map, Option, Some, None, eqb, refl, sym, ap, ◌∙◌, subst, arith}
use Rattle.std.specs.Prelude.{is_some, slice_get, slice_set, if◌then◌else◌}
use Rattle.std.specs.List.{list_any, enumerate_from}
use Rattle.std.proofs.lemmas.Bool.{false≢true, true≢false, eqb-true, eq-eqb, cases_eq}
use Rattle.std.proofs.lemmas.Option.{none-some, same_Some, slice_get-map, slice_get_within}
use Rattle.std.proofs.lemmas.List.{length-map}
use Rattle.std.proofs.lemmas.List.Folds.{list_any-append}
use Rattle.ifs_base.specs.Facts.{Facts}
use Rattle.ifs_base.specs.Effects.{nothing_yet, followed, later_wish}
use Rattle.ifs_base.specs.declared.ids.StateId.{StateId}
use Rattle.ifs_base.specs.declared.ids.TestId.{TestId}
use Rattle.ifs_sched.specs.Schedule.{has_test}
use Rattle.ifs_core.specs.declared.step.Step.{Step}
use Rattle.ifs_core.specs.declared.step.Step.TheVariants.{Link, Finished, Tick, Take}
use Rattle.ifs_core.specs.Event.{change_of, kept_value}
use Rattle.ifs_core.specs.Gateway.{Known}
use Rattle.ifs_gen.specs.Events.{behaviour_of, yield_in}
use Rattle.ifs_gen.specs.Trees.{Part, Policy}
use Rattle.ifs_parse.specs.Trees.{Done, RunThen, SetStateThen, IfThen, Leaf, NotSo, And, Or}
use Rattle.ifs_policy.specs.Meaning.{Block, Condition, truth, is_held, is_open, reached, body_yield, mentioned, mentioned_in, holds, has_true, has_a_value}
use Rattle.ifs_policy.specs.declared.policy.Single.TheVariants.{LinkIs, TestIs}
use Rattle.ifs_policy.specs.Fits.{PolicyFits}
use Rattle.ifs_solver.specs.declared.searching.Extent.{Extent}
use Rattle.ifs_claims.specs.Asked.{shares}
use Rattle.ifs_claims.specs.inner.Changing.{facts_of, IsQuietFor, AreQuietFor}
use Rattle.ifs_solver.specs.declared.constraints.Aim.TheVariants.{To}
use Rattle.ifs_solver.specs.Asking.{hits}
use Rattle.ifs_solver.specs.FactSets.{AreFactsOf, scope_of}
use Rattle.ifs_solver.specs.Situations.{situation_after, wish_of, leads_to, entered_by, IsKnownFor}
use Rattle.ifs_claims.specs.Moves.{seen}
use Rattle.ifs_claims.specs.Changes.{World, AgreesWith, KeepsTo, AllKeepTo, counted, changes, part_hits, may_be_silent, could_move, any_below, could_change, RestsWithin, WouldChange, IsToldOfChanges}
use Rattle.ifs_claims.proofs.Standing.{leads_wish, states_stay, steps_evaluate}
use Rattle.ifs_claims.proofs.Answering.{same_state, answered_by, told_of}
use Rattle.ifs_claims.proofs.Shared.{shares_free}

-- Writes that change nothing, and others.
set_same : {X : Type 0} (xs : List X) (i : ℕ) (x : X) → slice_get xs i ≡ Some x → slice_set xs i x ≡ xs
set_same [] i x at = absurd (none-some x at)
set_same (y ∷ ys) zero x at = ap (λ z. z ∷ ys) (sym (same_Some y x at))
set_same (y ∷ ys) (suc i) x at = ap (λ zs. y ∷ zs) (set_same ys i x at)

set_get : {X : Type 0} (xs : List X) (i k : ℕ) (x y : X) → slice_get (slice_set xs i x) k ≡ Some y → ((i ≡ k) × (x ≡ y)) ⊎ (slice_get xs k ≡ Some y)
set_get [] i k x y at = absurd (none-some y at)
set_get (z ∷ zs) zero zero x y at = inl (refl, same_Some x y at)
set_get (z ∷ zs) zero (suc k) x y at = inr at
set_get (z ∷ zs) (suc i) zero x y at = inr at
set_get (z ∷ zs) (suc i) (suc k) x y at = ⊎_elim (λ e. inl (ap suc e.0, e.1)) (λ e. inr e) (set_get zs i k x y at)

kept_one : (always test : ℕ) (o : Option Bool) (value : Bool) → kept_value always test o ≡ Some value → o ≡ Some value
kept_one always test o value e = by_test (has_test always test) e
  where
    by_test : (c : Bool) → (if c then o else None) ≡ Some value → o ≡ Some value
    by_test true h = h
    by_test false h = absurd (none-some value h)

kept_from : (always n : ℕ) (values : List (Option Bool)) (test : ℕ) (value : Bool) → slice_get (map (λ entry. kept_value always entry.0 entry.1) (enumerate_from n values)) test ≡ Some (Some value)
    → slice_get values test ≡ Some (Some value)
kept_from always n [] test value at = absurd (none-some (Some value) at)
kept_from always n (o ∷ values) zero value at = ap (λ x. Some x) (kept_one always n o value (same_Some (kept_value always n o) (Some value) at))
kept_from always n (o ∷ values) (suc test) value at = kept_from always (n + 1) values test value at

-- Facts that agree with a world still do.
pub seen_agrees : (policy : Policy) (world : World) (facts : Facts) (step : Step) → AgreesWith policy world facts → KeepsTo world step → AgreesWith policy world (seen step facts)
seen_agrees policy world facts (Link interface link) h keeps = record {
  links = ap (λ xs. slice_set xs interface.0 link) h.links ∙ set_same world.links interface.0 link keeps;
  many = h.many;
  values = h.values;
}
seen_agrees policy world facts (Finished test run result) h keeps = record {
  links = h.links;
  many = h.many;
  values = λ other value at.
      ⊎_elim (λ e. ap (slice_get world.results) (sym e.0) ∙ keeps ∙ e.1) (λ e. h.values other value e) (set_get facts.tests test.0 other (Some result) (Some value) at);
}
seen_agrees policy world facts (Tick now) h keeps = h
seen_agrees policy world facts Take h keeps = h

pub entered_agrees : (policy : Policy) (world : World) (facts : Facts) (state : StateId) (o : Option StateId) → AgreesWith policy world facts → AgreesWith policy world (entered_by policy facts state o).facts
entered_agrees policy world facts state None h = h
entered_agrees policy world facts state (Some next) h = record {
  links = h.links;
  many = h.many;
  values = λ test value at. h.values test value (kept_from (behaviour_of policy).always 0 facts.tests test value at);
}

pub world_facts : (policy : Policy) (world : World) (facts : Facts) → AgreesWith policy world facts → AreFactsOf (scope_of policy) facts → AreFactsOf (scope_of policy) (facts_of world)
world_facts policy world facts h are = record { links = ap length (sym h.links) ∙ are.links; tests = length-map world.results _ ∙ h.many }

-- What is true of tests that have values is true in the world.
neither : (a b : Bool) → (a || b) ≡ false → (a ≡ false) × (b ≡ false)
neither true b e = absurd (true≢false e)
neither false b e = (refl, e)

module _ (policy : Policy) (world : World) (facts : Facts) (h : AgreesWith policy world facts) where
  test_agrees : (test : TestId) (o : Option (Option Bool)) → slice_get facts.tests test.0 ≡ o → not (has_a_value o) ≡ false → has_true o ≡ has_true (slice_get (facts_of world).tests test.0)
  test_agrees test None at e = absurd (true≢false e)
  test_agrees test (Some None) at e = absurd (true≢false e)
  test_agrees test (Some (Some value)) at e = ap has_true (sym (slice_get-map (λ v. Some v) world.results test.0 ∙ ap (λ o. in_option o) (h.values test.0 value at)))
    where
      in_option : Option Bool → Option (Option Bool)
      in_option None = None
      in_option (Some v) = Some (Some v)

  truth_agrees : (condition : Condition) → list_any (is_open facts) (mentioned_in condition) ≡ false → truth facts condition ≡ truth (facts_of world) condition
  truth_agrees (Leaf (LinkIs interface state)) free = ap (λ xs. holds (record { links = xs; tests = facts.tests }) (LinkIs interface state)) h.links
  truth_agrees (Leaf (TestIs test)) free = test_agrees test (slice_get facts.tests test.0) refl (neither (is_open facts test) false free).0
  truth_agrees (NotSo operand) free = ap not (truth_agrees operand free)
  truth_agrees (And left right) free =
      let are = neither (list_any (is_open facts) (mentioned_in left)) (list_any (is_open facts) (mentioned_in right)) (sym (list_any-append (is_open facts) (mentioned_in left) (mentioned_in right)) ∙ free) in
      ap (λ x. x && truth facts right) (truth_agrees left are.0) ∙ ap (λ x. truth (facts_of world) left && x) (truth_agrees right are.1)
  truth_agrees (Or left right) free =
      let are = neither (list_any (is_open facts) (mentioned_in left)) (list_any (is_open facts) (mentioned_in right)) (sym (list_any-append (is_open facts) (mentioned_in left) (mentioned_in right)) ∙ free) in
      ap (λ x. x || truth facts right) (truth_agrees left are.0) ∙ ap (λ x. truth (facts_of world) left || x) (truth_agrees right are.1)

  pub reached_agrees : (block : Block) → list_any (is_open facts) (mentioned block) ≡ false → reached facts block ≡ reached (facts_of world) block
  reached_agrees Done free = refl
  reached_agrees (RunThen command rest) free = ap (followed (record { commands = command ∷ []; wish = None })) (reached_agrees rest free)
  reached_agrees (SetStateThen state rest) free = ap (followed (record { commands = []; wish = Some state })) (reached_agrees rest free)
  reached_agrees (IfThen condition inner rest) free =
      let test = list_any (is_open facts) in
      let one = neither (test (mentioned_in condition)) (test (mentioned inner ++ mentioned rest)) (sym (list_any-append (is_open facts) (mentioned_in condition) (mentioned inner ++ mentioned rest)) ∙ free) in
      let two = neither (test (mentioned inner)) (test (mentioned rest)) (sym (list_any-append (is_open facts) (mentioned inner) (mentioned rest)) ∙ one.1) in
      ap (λ t. followed (if t then reached facts inner else nothing_yet) (reached facts rest)) (truth_agrees condition one.0)
      ∙ ap (λ x. followed (if truth (facts_of world) condition then x else nothing_yet) (reached facts rest)) (reached_agrees inner two.0)
      ∙ ap (λ x. followed (if truth (facts_of world) condition then reached (facts_of world) inner else nothing_yet) x) (reached_agrees rest two.1)

  pub body_wish : (body : Block) (next : StateId) → (body_yield facts body).wish ≡ Some next → (reached (facts_of world) body).wish ≡ Some next
  body_wish body next e = by_held (is_held facts body) refl e
    where
      by_held : (held : Bool) → is_held facts body ≡ held → (if held then nothing_yet else reached facts body).wish ≡ Some next → (reached (facts_of world) body).wish ≡ Some next
      by_held true is k = absurd (none-some next k)
      by_held false is k = ap (λ x. x.wish) (sym (reached_agrees body is)) ∙ k

  pub hits_itself : (next : StateId) (wish : Option StateId) → wish ≡ Some next → hits (To next) wish ≡ true
  hits_itself next wish e = ap (hits (To next)) e ∙ eq-eqb next.0 next.0 refl

  pub or_true : (a b : Bool) → b ≡ true → (a || b) ≡ true
  or_true true b e = refl
  or_true false b e = e

  pub own_hits : (state next : StateId) (o : Option Part) → slice_get policy.states state.0 ≡ o → (yield_in (λ part. body_yield facts part.body) o).wish ≡ Some next → part_hits (facts_of world) next.0 o ≡ true
  own_hits state next None at e = absurd (none-some next e)
  own_hits state next (Some part) at e = hits_itself next (reached (facts_of world) part.body).wish (body_wish part.body next e)

  -- A body that is evaluated is not held back, and one that shares its tests is not either.
  pub wish_free : (body : Block) (next : StateId) → (body_yield facts body).wish ≡ Some next → is_held facts body ≡ false
  wish_free body next e = by_held (is_held facts body) refl e
    where
      by_held : (held : Bool) → is_held facts body ≡ held → (if held then nothing_yet else reached facts body).wish ≡ Some next → is_held facts body ≡ false
      by_held true is k = absurd (none-some next k)
      by_held false is k = is

  silent_body : (body : Block) (bare : Bool) → shares policy.always.body body ≡ bare → is_held facts policy.always.body ≡ false → (body_yield facts body).wish ≡ None
      → (not bare || not (is_some (reached (facts_of world) body).wish)) ≡ true
  silent_body body false is always_free e = refl
  silent_body body true is always_free e =
      let free = shares_free facts policy.always.body body is always_free in
      ap (λ x. not (is_some x.wish)) (sym (reached_agrees body free)) ∙ ap (λ x. not (is_some x)) (ap (λ held. (if held then nothing_yet else reached facts body).wish) (sym free) ∙ e)

  pub silent_own : (o : Option Part) → is_held facts policy.always.body ≡ false → (yield_in (λ part. body_yield facts part.body) o).wish ≡ None → may_be_silent policy.always.body (facts_of world) o ≡ true
  silent_own None always_free e = refl
  silent_own (Some part) always_free e = silent_body part.body (shares policy.always.body part.body) refl always_free e

  wish_hits : (state next : StateId) (before after : Option StateId) → (before ≡ Some next → hits (To next) (reached (facts_of world) policy.always.body).wish ≡ true)
      → (after ≡ Some next → part_hits (facts_of world) next.0 (slice_get policy.states state.0) ≡ true)
      → (after ≡ None → before ≡ Some next → may_be_silent policy.always.body (facts_of world) (slice_get policy.states state.0) ≡ true) → later_wish before after ≡ Some next
      → (part_hits (facts_of world) next.0 (slice_get policy.states state.0)
      || (may_be_silent policy.always.body (facts_of world) (slice_get policy.states state.0) && hits (To next) (reached (facts_of world) policy.always.body).wish))
      ≡ true
  wish_hits state next before None always own silent e =
      or_true (part_hits (facts_of world) next.0 (slice_get policy.states state.0))
      (may_be_silent policy.always.body (facts_of world) (slice_get policy.states state.0) && hits (To next) (reached (facts_of world) policy.always.body).wish)
      (ap (λ x. x && hits (To next) (reached (facts_of world) policy.always.body).wish) (silent refl e) ∙ always e)
  wish_hits state next before (Some other) always own silent e =
      ap (λ x. x || (may_be_silent policy.always.body (facts_of world) (slice_get policy.states state.0) && hits (To next) (reached (facts_of world) policy.always.body).wish)) (own e)

  pub differs : (state next : StateId) (wish : Option StateId) → change_of state wish ≡ Some next → not (eqb next.0 state.0) ≡ true
  differs state next None e = absurd (none-some next e)
  differs state next (Some other) e = by_test (eqb other.0 state.0) refl e
    where
      by_test : (c : Bool) → eqb other.0 state.0 ≡ c → (if c then None else Some other) ≡ Some next → not (eqb next.0 state.0) ≡ true
      by_test true is k = absurd (none-some next k)
      by_test false is k = ap (λ s. not (eqb s.0 state.0)) (sym (same_Some other next k)) ∙ ap not is

  pub both_true : (a b : Bool) → a ≡ true → b ≡ true → (a && b) ≡ true
  both_true true b e f = f
  both_true false b e f = e

  -- An evaluation that leads to another state could do so in the world.
  pub always_hits : (next : StateId) → (body_yield facts policy.always.body).wish ≡ Some next → hits (To next) (reached (facts_of world) policy.always.body).wish ≡ true
  always_hits next k = hits_itself next (reached (facts_of world) policy.always.body).wish (body_wish policy.always.body next k)

  pub leads_could : (state next : StateId) → leads_to policy facts state ≡ Some next → could_move policy.always.body policy.states (facts_of world) state next.0 ≡ true
  leads_could state next e =
      let o = slice_get policy.states state.0 in
      both_true (not (eqb next.0 state.0)) (part_hits (facts_of world) next.0 o || (may_be_silent policy.always.body (facts_of world) o && hits (To next) (reached (facts_of world) policy.always.body).wish))
      (differs state next (wish_of policy facts state) e)
      (wish_hits state next (body_yield facts policy.always.body).wish (yield_in (λ part. body_yield facts part.body) o).wish (always_hits next) (own_hits state next o refl)
      (λ none wished. silent_own o (wish_free policy.always.body next wished) none) (leads_wish state next (wish_of policy facts state) e))

-- A number that passes, and tests that pass more.
pub any_from : (test : ℕ → Bool) (n k : ℕ) → k < n → test k ≡ true → any_below test n ≡ true
any_from test zero k lt e = absurd (omega (arith, lt))
any_from test (suc n) k lt e = ⊎_elim (λ same. or_second (any_below test n) (test n) (ap test (sym same) ∙ e)) (λ differ. let d : k ≡ n → ⊥ = differ in or_first (any_below test n) (test n) (any_from test n k (omega (arith, lt, d)) e)) (cases_eq k n)
  where
    or_first : (a b : Bool) → a ≡ true → (a || b) ≡ true
    or_first true b h = refl
    or_first false b h = absurd (false≢true h)

    or_second : (a b : Bool) → b ≡ true → (a || b) ≡ true
    or_second true b h = refl
    or_second false b h = h

or_more : (a b c d : Bool) → (a ≡ true → c ≡ true) → (b ≡ true → d ≡ true) → (a || b) ≡ true → (c || d) ≡ true
or_more true b c d f g e = ap (λ x. x || d) (f refl)
or_more false b c d f g e = or_second c d (g e)
  where
    or_second : (x y : Bool) → y ≡ true → (x || y) ≡ true
    or_second true y h = refl
    or_second false y h = h

pub any_more : (test more : ℕ → Bool) (n : ℕ) → ((k : ℕ) → test k ≡ true → more k ≡ true) → any_below test n ≡ true → any_below more n ≡ true
any_more test more zero f e = e
any_more test more (suc n) f e = or_more (any_below test n) (test n) (any_below more n) (more n) (λ h. any_more test more n f h) (f n) e

both_of : (a b c d : Bool) → (b ≡ true → d ≡ true) → (a ≡ c) → (a && b) ≡ true → (c && d) ≡ true
both_of true b c d f same e = ap (λ x. x && d) (sym same) ∙ f e
both_of false b c d f same e = absurd (false≢true e)

-- Who could go on so often could go on less often.
pub less_far : (always : Block) (states : List Part) (count : ℕ) (facts : Facts) (n m : ℕ) (state : StateId) → n ≤ m → could_change always states count facts m state ≡ true → could_change always states count facts n state ≡ true
less_far always states count facts zero m state le e = refl
less_far always states count facts (suc n) zero state le e = absurd (omega (arith, le))
less_far always states count facts (suc n) (suc m) state le e =
    any_more (λ next. could_move always states facts state next && could_change always states count facts m (record { 0 = next })) (λ next. could_move always states facts state next && could_change always states count facts n (record { 0 = next }))
    count
    (λ next k.
    let there : StateId = record { 0 = next } in
    both_of (could_move always states facts state next) (could_change always states count facts m there) (could_move always states facts state next) (could_change always states count facts n there)
    (λ h. less_far always states count facts n m there (omega (arith, le)) h) refl k) e

-- Further steps go where the policy could go.
module _ (policy : Policy) (policy_fits : PolicyFits policy) (world : World) (known : Known) (fits : IsKnownFor policy known) where
  abbrev far : ℕ → StateId → Bool
  far n state = could_change policy.always.body policy.states (length policy.states) (facts_of world) n state

  pub stays_agreed : (begun : List Step) (step : Step) → AgreesWith policy world (situation_after policy known begun).facts → KeepsTo world step → AgreesWith policy world (situation_after policy known (begun ++ step ∷ [])).facts
  stays_agreed begun step h keeps =
      let before = situation_after policy known begun in
      let facts = seen step before.facts in
      ⊎_elim (λ same. subst (λ s. AgreesWith policy world s.facts) (sym same) h)
      (λ come. subst (λ s. AgreesWith policy world s.facts) (sym come.1) (entered_agrees policy world facts before.current (leads_to policy facts before.current) (seen_agrees policy world before.facts step h keeps)))
      (steps_evaluate policy known fits begun step).situation

  one_step : (begun : List Step) (step : Step) (n : ℕ) → AgreesWith policy world (situation_after policy known begun).facts → KeepsTo world step → far n (situation_after policy known (begun ++ step ∷ [])).current ≡ true
      → (c : Bool) → eqb (situation_after policy known (begun ++ step ∷ [])).current.0 (situation_after policy known begun).current.0 ≡ c → far (counted c n) (situation_after policy known begun).current ≡ true
  one_step begun step n h keeps e true is =
      let before = situation_after policy known begun in
      let after = situation_after policy known (begun ++ step ∷ []) in
      subst (λ s. far n s ≡ true) (same_state after.current before.current (eqb-true after.current.0 before.current.0 is)) e
  one_step begun step n h keeps e false is =
      let before = situation_after policy known begun in
      let after = situation_after policy known (begun ++ step ∷ []) in
      let there = states_stay policy policy_fits known fits (begun ++ step ∷ []) in
      let facts = seen step before.facts in
      any_from (λ next. could_move policy.always.body policy.states (facts_of world) before.current next && far n (record { 0 = next })) (length policy.states) after.current.0
      (slice_get_within policy.states after.current.0 there.0 there.1)
      (⊎_elim (λ same. absurd (false≢true (sym is ∙ eq-eqb after.current.0 before.current.0 (ap (λ s. s.0) same))))
      (λ moves. move_on (could_move policy.always.body policy.states (facts_of world) before.current after.current.0) (far n after.current)
      (leads_could policy world facts (seen_agrees policy world before.facts step h keeps) before.current after.current moves.leads) e)
      (steps_evaluate policy known fits begun step).state)
    where
      move_on : (a b : Bool) → a ≡ true → b ≡ true → (a && b) ≡ true
      move_on true b p q = q
      move_on false b p q = p

  pub steps_far : (steps begun : List Step) → AgreesWith policy world (situation_after policy known begun).facts → AllKeepTo world steps → far (changes policy known begun steps) (situation_after policy known begun).current ≡ true
  steps_far [] begun h keeps = refl
  steps_far (step ∷ steps) begun h keeps =
      one_step begun step (changes policy known (begun ++ step ∷ []) steps) h keeps.0 (steps_far steps (begun ++ step ∷ []) (stays_agreed begun step h keeps.0) keeps.1)
      (eqb (situation_after policy known (begun ++ step ∷ [])).current.0 (situation_after policy known begun).current.0) refl

pub within_or_past : (n m : ℕ) → (n ≤ m) ⊎ (suc m ≤ n)
within_or_past zero m = inl (omega arith)
within_or_past (suc n) zero = inr (omega arith)
within_or_past (suc n) (suc m) = ⊎_elim (λ le. inl (omega (arith, le))) (λ lt. inr (omega (arith, lt))) (within_or_past n m)

-- State by state.
pub changes_by : (policy : Policy) (most : ℕ) → PolicyFits policy → ((state : StateId) → state.0 < length policy.states → IsQuietFor policy most state) → RestsWithin policy most
changes_by policy most policy_fits quiet known fits begun world h steps keeps =
    let s = situation_after policy known begun in
    let there = states_stay policy policy_fits known fits begun in
    quiet s.current (slice_get_within policy.states s.current.0 there.0 there.1) known fits begun world refl h steps keeps

pub changes_told : (policy : Policy) (most count : ℕ) (extent told : Extent) → PolicyFits policy → length policy.tables.states ≤ count → AreQuietFor policy most count extent → told ≡ extent
    → IsToldOfChanges policy most told
changes_told policy most count extent told policy_fits all h is =
    told_of (RestsWithin policy most) (WouldChange policy most) extent told is
    (answered_by ((state : StateId) → state.0 < count → IsQuietFor policy most state) (RestsWithin policy most) (WouldChange policy most) extent
    (λ quiet. changes_by policy most policy_fits (λ state lt. let same = policy_fits.count in quiet state (omega (arith, lt, all, same)))) h)
