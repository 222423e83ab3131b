-- Tests that bodies share, and facts that are the same where a body asks.
use Rattle.std.proofs.Common.{◌≡◌, ℕ, zero, suc, ◌+◌, ◌<◌, ◌≤◌, ⊎_elim, Bool, true, false, not, ◌&&◌, ◌||◌, List, [], ◌∷◌, length, map, Option, Some, None, Contains, refl, sym, ap, ◌∙◌, subst, arith}
use Rattle.std.specs.Prelude.{slice_get, slice_set, if◌then◌else◌}
use Rattle.std.specs.List.{list_any, enumerate_from}
use Rattle.std.proofs.lemmas.Bool.{false≢true, true≢false, eqb-true, eq-eqb, cases_lt}
use Rattle.std.proofs.lemmas.Option.{slice_get_past}
use Rattle.std.proofs.lemmas.List.Elements.{Contains-append_right}
use Rattle.std.proofs.lemmas.List.Folds.{Any-from_list_any, list_any_at}
use Rattle.ifs_base.specs.Facts.{Facts}
use Rattle.ifs_base.specs.Effects.{nothing_yet, followed}
use Rattle.ifs_base.specs.declared.ids.TestId.{TestId}
use Rattle.ifs_sched.specs.Schedule.{has_test}
use Rattle.ifs_core.specs.declared.step.Step.{Step}
use Rattle.ifs_core.specs.declared.step.Step.TheVariants.{Link, Finished, Tick, Take}
use Rattle.ifs_core.specs.Event.{kept_value}
use Rattle.ifs_gen.specs.Events.{behaviour_of, ActiveAreMentioned}
use Rattle.ifs_gen.specs.PlainSizes.{test_count}
use Rattle.ifs_gen.specs.Trees.{Policy}
use Rattle.ifs_parse.specs.Trees.{Done, RunThen, SetStateThen, IfThen, Leaf, NotSo, And, Or}
use Rattle.ifs_policy.specs.Meaning.{Block, Condition, truth, is_held, is_open, reached, body_yield, mentioned, link_is, has_true, has_a_value}
use Rattle.ifs_policy.specs.Meaning.{OccursIn, itself, negated, left_of_and, right_of_and, left_of_or, right_of_or, Mentions, asked, inside, behind_if, behind_run, behind_set_state}
use Rattle.ifs_policy.specs.declared.policy.Single.TheVariants.{LinkIs, TestIs}
use Rattle.ifs_policy.specs.Visits.{mentions, is_test}
use Rattle.ifs_policy.proofs.MentionedTests.{mentioned_are_mentions}
use Rattle.ifs_solver.specs.FactSets.{AreFactsOf, scope_of}
use Rattle.ifs_claims.specs.Asked.{any_test, is_unshared, shares, untested}
use Rattle.ifs_claims.specs.Moves.{seen, kept_facts}
use Rattle.ifs_claims.proofs.Standing.{length_kept}

-- A test of a list fails if none passes. If each fails, none passes.
not_true : (b : Bool) → (b ≡ true → ⊥) → b ≡ false
not_true true h = absurd (h refl)
not_true false h = refl

negated_true : (b : Bool) → not b ≡ true → b ≡ false
negated_true true e = absurd (false≢true e)
negated_true false e = refl

negated_false : (b : Bool) → not b ≡ false → b ≡ true
negated_false true e = refl
negated_false false e = absurd (true≢false e)

module _ (p : TestId → Bool) (xs : List TestId) where
  fails_in : (test : TestId) → list_any p xs ≡ false → Contains xs test → p test ≡ false
  fails_in test none c = not_true (p test) (λ e. true≢false (sym (list_any_at p xs c.0 test c.1 (ap p c.2 ∙ e)) ∙ none))

  each_fails : ((test : TestId) → Contains xs test → p test ≡ false) → list_any p xs ≡ false
  each_fails h = not_true (list_any p xs) (λ e. let a = Any-from_list_any p xs e in true≢false (sym a.4 ∙ h a.1 (a.0, a.2, a.3)))

-- A test of a condition or of a block is one of the other block.
pub listed : (test : TestId) (block : Block) → mentions test block ≡ true → Mentions test block
listed test block e =
    let a = Any-from_list_any (is_test test) (mentioned block) e in
    let same : a.1 ≡ test = ap (λ n. let t : TestId = record { 0 = n } in t) (eqb-true a.1.0 test.0 a.4) in
    subst (λ t. Mentions t block) same ((mentioned_are_mentions block a.1).0 (a.0, a.2, a.3))

pub mentions_of : (test : TestId) (block : Block) → Mentions test block → mentions test block ≡ true
mentions_of test block m = let c = (mentioned_are_mentions block test).1 m in list_any_at (is_test test) (mentioned block) c.0 test c.1 (ap (is_test test) c.2 ∙ eq-eqb test.0 test.0 refl)

shared_in : (always : Block) (xs : List TestId) (test : TestId) → not (list_any (is_unshared always) xs) ≡ true → Contains xs test → Mentions test always
shared_in always xs test e c = listed test always (negated_false (mentions test always) (fails_in (is_unshared always) xs test (negated_true (list_any (is_unshared always) xs) e) c))

pub shares_mentions : (always : Block) (test : TestId) (block : Block) → Mentions test block → shares always block ≡ true → Mentions test always
shares_mentions always test block m e = shared_in always (mentioned block) test e ((mentioned_are_mentions block test).1 m)

-- A body is not held back exactly if each test that it mentions has a value.
module _ (facts : Facts) where
  not_held : (block : Block) → ((test : TestId) → Mentions test block → is_open facts test ≡ false) → is_held facts block ≡ false
  not_held block none = each_fails (is_open facts) (mentioned block) (λ test c. none test ((mentioned_are_mentions block test).0 c))

  has_value : (test : TestId) (block : Block) → Mentions test block → is_held facts block ≡ false → is_open facts test ≡ false
  has_value test block m e = fails_in (is_open facts) (mentioned block) test e ((mentioned_are_mentions block test).1 m)

pub untested_free : (facts : Facts) (body : Block) → untested body ≡ true → is_held facts body ≡ false
untested_free facts body e =
    each_fails (is_open facts) (mentioned body) (λ test c. absurd (true≢false (fails_in any_test (mentioned body) test (negated_true (list_any any_test (mentioned body)) e) c)))

pub shares_free : (facts : Facts) (always body : Block) → shares always body ≡ true → is_held facts always ≡ false → is_held facts body ≡ false
shares_free facts always body e free = not_held facts body (λ test m. has_value facts test always (shares_mentions always test body m e) free)

-- What a step sees has a value for each test that had one.
set_value : (xs : List (Option Bool)) (i k : ℕ) (value : Bool) → not (has_a_value (slice_get xs k)) ≡ false → not (has_a_value (slice_get (slice_set xs i (Some value)) k)) ≡ false
set_value [] i k value e = e
set_value (x ∷ xs) zero zero value e = refl
set_value (x ∷ xs) zero (suc k) value e = e
set_value (x ∷ xs) (suc i) zero value e = e
set_value (x ∷ xs) (suc i) (suc k) value e = set_value xs i k value e

seen_value : (step : Step) (facts : Facts) (test : TestId) → is_open facts test ≡ false → is_open (seen step facts) test ≡ false
seen_value (Link interface link) facts test e = e
seen_value (Finished other run value) facts test e = set_value facts.tests other.0 test.0 value e
seen_value (Tick now) facts test e = e
seen_value Take facts test e = e

pub seen_free : (step : Step) (facts : Facts) (body : Block) → is_held facts body ≡ false → is_held (seen step facts) body ≡ false
seen_free step facts body free = not_held (seen step facts) body (λ test m. seen_value step facts test (has_value facts test body m free))

-- Facts that are the same where a body asks.
module _ (one other : Facts) (links : one.links ≡ other.links) where
  pub truth_same : (condition : Condition) → ((test : TestId) → OccursIn test condition → slice_get one.tests test.0 ≡ slice_get other.tests test.0) → truth one condition ≡ truth other condition
  truth_same (Leaf (LinkIs interface state)) same = ap (λ xs. link_is state (slice_get xs interface.0)) links
  truth_same (Leaf (TestIs test)) same = ap has_true (same test itself)
  truth_same (NotSo operand) same = ap not (truth_same operand (λ t o. same t (negated operand o)))
  truth_same (And left right) same =
      ap (λ x. x && truth one right) (truth_same left (λ t o. same t (left_of_and left right o))) ∙ ap (λ x. truth other left && x) (truth_same right (λ t o. same t (right_of_and left right o)))
  truth_same (Or left right) same =
      ap (λ x. x || truth one right) (truth_same left (λ t o. same t (left_of_or left right o))) ∙ ap (λ x. truth other left || x) (truth_same right (λ t o. same t (right_of_or left right o)))

  open_same : (xs : List TestId) → ((test : TestId) → Contains xs test → slice_get one.tests test.0 ≡ slice_get other.tests test.0) → list_any (is_open one) xs ≡ list_any (is_open other) xs
  open_same [] same = refl
  open_same (x ∷ xs) same =
      ap (λ o. not (has_a_value o) || list_any (is_open one) xs) (same x (0, omega arith, refl))
      ∙ ap (λ b. is_open other x || b) (open_same xs (λ test c. same test (Contains-append_right (x ∷ []) xs test c)))

  pub held_same : (block : Block) → ((test : TestId) → Mentions test block → slice_get one.tests test.0 ≡ slice_get other.tests test.0) → is_held one block ≡ is_held other block
  held_same block same = open_same (mentioned block) (λ test c. same test ((mentioned_are_mentions block test).0 c))

  reached_same : (block : Block) → ((test : TestId) → Mentions test block → slice_get one.tests test.0 ≡ slice_get other.tests test.0) → reached one block ≡ reached other block
  reached_same Done same = refl
  reached_same (RunThen command rest) same = ap (followed (record { commands = command ∷ []; wish = None })) (reached_same rest (λ t m. same t (behind_run command rest m)))
  reached_same (SetStateThen state rest) same = ap (followed (record { commands = []; wish = Some state })) (reached_same rest (λ t m. same t (behind_set_state state rest m)))
  reached_same (IfThen condition inner rest) same =
      ap (λ t. followed (if t then reached one inner else nothing_yet) (reached one rest)) (truth_same condition (λ t o. same t (asked condition inner rest o)))
      ∙ ap (λ x. followed (if truth other condition then x else nothing_yet) (reached one rest)) (reached_same inner (λ t m. same t (inside condition inner rest m)))
      ∙ ap (λ x. followed (if truth other condition then reached other inner else nothing_yet) x) (reached_same rest (λ t m. same t (behind_if condition inner rest m)))

  pub yield_same : (block : Block) → ((test : TestId) → Mentions test block → slice_get one.tests test.0 ≡ slice_get other.tests test.0) → body_yield one block ≡ body_yield other block
  yield_same block same =
      ap (λ held. if held then nothing_yet else reached one block) (held_same block same) ∙ ap (λ x. if is_held other block then nothing_yet else x) (reached_same block same)

-- An entry keeps the values of the tests outside of states.
kept_by : (c : Bool) (o : Option Bool) → c ≡ true → (if c then o else None) ≡ o
kept_by true o e = refl
kept_by false o e = absurd (false≢true e)

kept_at : (always n m : ℕ) (values : List (Option Bool)) (k : ℕ) → m ≡ n + k → has_test always m ≡ true → slice_get (map (λ entry. kept_value always entry.0 entry.1) (enumerate_from n values)) k ≡ slice_get values k
kept_at always n m [] k is has = refl
kept_at always n m (o ∷ values) zero is has =
    let here : n ≡ m = omega (arith, is) in
    ap (λ x. Some x) (kept_by (has_test always n) o (ap (has_test always) here ∙ has))
kept_at always n m (o ∷ values) (suc k) is has = kept_at always (n + 1) m values k (omega (arith, is)) has

pub kept_same : ActiveAreMentioned → (policy : Policy) (facts : Facts) → AreFactsOf (scope_of policy) facts → (test : TestId) → Mentions test policy.always.body
    → slice_get (kept_facts policy facts).tests test.0 ≡ slice_get facts.tests test.0
kept_same active policy facts are test m =
    let many : length facts.tests ≡ length policy.tables.tests = are.tests in
    ⊎_elim
    (λ lt.
    let below : test.0 < length policy.tables.tests = omega (arith, lt, many) in
    kept_at (behaviour_of policy).always 0 test.0 facts.tests test.0 (omega arith) ((active (test_count policy) policy.always test.0 below).1 m))
    (λ past.
    slice_get_past (kept_facts policy facts).tests test.0 (subst (λ n. n ≤ test.0) (sym (length_kept (behaviour_of policy).always facts.tests)) past) ∙ sym (slice_get_past facts.tests test.0 past))
    (cases_lt test.0 (length facts.tests))
