-- What comes of a course of a policy is what comes of the moment.
use Rattle.std.proofs.Common.{◌≡◌, ℕ, zero, suc, Bool, true, false, not, ◌&&◌, ◌||◌, List, [], ◌∷◌, ◌++◌, Option, Some, None, refl, sym, ap, ◌∙◌, subst}
use Rattle.std.specs.Prelude.{slice_get, if◌then◌else◌}
use Rattle.std.specs.List.{list_any}
use Rattle.std.proofs.lemmas.Bool.{false≢true}
use Rattle.std.proofs.lemmas.List.{append-nil}
use Rattle.std.proofs.lemmas.List.Elements.{All-weaker}
use Rattle.std.proofs.lemmas.Option.{none-some, same_Some}
use Rattle.ifs_base.specs.Facts.{Facts}
use Rattle.ifs_base.specs.Effects.{nothing_yet, followed}
use Rattle.ifs_base.specs.declared.ids.CommandId.{CommandId}
use Rattle.ifs_base.specs.declared.ids.StateId.{StateId}
use Rattle.ifs_base.specs.declared.ids.TestId.{TestId}
use Rattle.ifs_core.specs.Event.{AlwaysBody, Body}
use Rattle.ifs_gen.specs.Events.{yield_of, yield_in}
use Rattle.ifs_gen.specs.Trees.{Part, Policy}
use Rattle.ifs_parse.specs.Trees.{Leaf, NotSo, And, Or, Done, RunThen, SetStateThen, IfThen}
use Rattle.ifs_policy.specs.declared.policy.Single.TheVariants.{LinkIs, TestIs}
use Rattle.ifs_policy.specs.Meaning.{Block, Condition, truth, reached, init_yield, mentioned, mentioned_in}
use Rattle.ifs_solver.specs.FactSets.{scope_of}
use Rattle.ifs_solver.specs.Situations.{leads_to}
use Rattle.ifs_claims.specs.Asked.{any_test, untested}
use Rattle.ifs_claims.specs.Moves.{kept_facts, with_init}
use Rattle.ifs_levels.specs.declared.moments.Moment.{Moment}
use Rattle.ifs_levels.specs.declared.moments.Moment.TheVariants.{Opening, In}
use Rattle.ifs_levels.specs.declared.moments.Outcome.{Outcome}
use Rattle.ifs_levels.specs.declared.courses.Course.{Course}
use Rattle.ifs_levels.specs.Outcomes.{next_at, commands_at, ComesTo, AreOutcomesOf, IsReal, has_no_test, have_no_tests}
use Rattle.ifs_levels.specs.inner.Courses.{init_of, ComesOf, IsRealOf, AreAllOfCourse, begun_at, IsCourseOf}

-- No test in two lists is none in each.
none_first : (xs ys : List TestId) → not (list_any any_test (xs ++ ys)) ≡ true → not (list_any any_test xs) ≡ true
none_first [] ys h = refl
none_first (x ∷ xs) ys h = absurd (false≢true h)

none_second : (xs ys : List TestId) → not (list_any any_test (xs ++ ys)) ≡ true → not (list_any any_test ys) ≡ true
none_second [] ys h = h
none_second (x ∷ xs) ys h = absurd (false≢true h)

-- Without a test, only links matter.
module _ (f g : Facts) (links : f.links ≡ g.links) where
  same_truth : (condition : Condition) → not (list_any any_test (mentioned_in condition)) ≡ true → truth f condition ≡ truth g condition
  same_truth (Leaf (LinkIs interface state)) e = ap (λ x. truth (record { links = x; tests = f.tests }) (Leaf (LinkIs interface state))) links
  same_truth (Leaf (TestIs test)) e = absurd (false≢true e)
  same_truth (NotSo operand) e = ap not (same_truth operand e)
  same_truth (And left right) e =
      ap (λ x. x && truth f right) (same_truth left (none_first (mentioned_in left) (mentioned_in right) e))
      ∙ ap (λ x. truth g left && x) (same_truth right (none_second (mentioned_in left) (mentioned_in right) e))
  same_truth (Or left right) e =
      ap (λ x. x || truth f right) (same_truth left (none_first (mentioned_in left) (mentioned_in right) e))
      ∙ ap (λ x. truth g left || x) (same_truth right (none_second (mentioned_in left) (mentioned_in right) e))

  same_reached : (block : Block) → untested block ≡ true → reached f block ≡ reached g block
  same_reached Done e = refl
  same_reached (RunThen command rest) e = ap (λ x. followed (record { commands = command ∷ []; wish = None }) x) (same_reached rest e)
  same_reached (SetStateThen state rest) e = ap (λ x. followed (record { commands = []; wish = Some state }) x) (same_reached rest e)
  same_reached (IfThen condition inner rest) e =
      let others = none_second (mentioned_in condition) (mentioned inner ++ mentioned rest) e in
      ap (λ b. followed (if b then reached f inner else nothing_yet) (reached f rest)) (same_truth condition (none_first (mentioned_in condition) (mentioned inner ++ mentioned rest) e))
      ∙ ap (λ x. followed (if truth g condition then x else nothing_yet) (reached f rest)) (same_reached inner (none_first (mentioned inner) (mentioned rest) others))
      ∙ ap (λ x. followed (if truth g condition then reached g inner else nothing_yet) x) (same_reached rest (none_second (mentioned inner) (mentioned rest) others))

-- No init of a state has a test.
and_first : (a b : Bool) → (a && b) ≡ true → a ≡ true
and_first true b e = refl
and_first false b e = e

and_second : (a b : Bool) → (a && b) ≡ true → b ≡ true
and_second true b e = e
and_second false b e = absurd (false≢true e)

untested_at : (states : List Part) (k : ℕ) (part : Part) → have_no_tests states ≡ true → slice_get states k ≡ Some part → untested part.init ≡ true
untested_at [] k part h at = absurd (none-some part at)
untested_at (first ∷ rest) zero part h at = subst (λ p. untested p.init ≡ true) (same_Some first part at) (and_first (has_no_test first) (have_no_tests rest) h)
untested_at (first ∷ rest) (suc k) part h at = untested_at rest k part (and_second (has_no_test first) (have_no_tests rest) h) at

-- One moment.
module _ (policy : Policy) (untested_inits : have_no_tests policy.states ≡ true) (facts : Facts) where
  init_is : (k : ℕ) (o : Option Part) → slice_get policy.states k ≡ o → (yield_in (λ x. init_yield facts x.init) o).commands ≡ (yield_in (λ x. init_yield (kept_facts policy facts) x.init) o).commands
  init_is k None at = refl
  init_is k (Some part) at = ap (λ e. e.commands) (same_reached facts (kept_facts policy facts) refl part.init (untested_at policy.states k part untested_inits at))

  with_init_is : (o : Option StateId) (commands : List CommandId) → commands ++ (init_of policy.states o facts).commands ≡ with_init policy facts o commands
  with_init_is None commands = append-nil commands
  with_init_is (Some next) commands = ap (λ xs. commands ++ xs) (init_is next.0 (slice_get policy.states next.0) refl)

  moment_next : (moment : Moment) → (begun_at policy moment facts).wish ≡ next_at policy moment facts
  moment_next Opening = refl
  moment_next (In state) = refl

  moment_commands : (moment : Moment) → (begun_at policy moment facts).commands ++ (init_of policy.states (begun_at policy moment facts).wish facts).commands ≡ commands_at policy moment facts
  moment_commands Opening = refl
  moment_commands (In state) = with_init_is (leads_to policy facts state) ((yield_of policy AlwaysBody facts).commands ++ (yield_of policy (Body state.0) facts).commands)

  course_comes : (moment : Moment) (course : Course) (outcome : Outcome) → IsCourseOf policy moment course → ComesOf course facts outcome → ComesTo policy moment facts outcome
  course_comes moment course outcome are h =
      let begun = begun_at policy moment facts in
      let next_is = ap (λ e. e.wish) (are.begun facts) ∙ moment_next moment in
      let commands_are =
      ap (λ e. e.commands ++ (init_of course.states.now e.wish facts).commands) (are.begun facts) ∙ ap (λ s. begun.commands ++ (init_of s begun.wish facts).commands) are.states ∙ moment_commands moment
      in
      record { next = sym next_is ∙ h.next; commands = sym commands_are ∙ h.commands }

pub all_at : (policy : Policy) (moment : Moment) (course : Course) (outcomes : List Outcome) → have_no_tests policy.states ≡ true → IsCourseOf policy moment course
    → AreAllOfCourse (scope_of policy) course outcomes → AreOutcomesOf policy moment outcomes
all_at policy moment course outcomes untested_inits are all = record {
  all = λ facts fits. let h = all.all facts fits in (h.0, h.1, h.2, h.3, course_comes policy untested_inits facts moment course h.1 are h.4);
  real = All-weaker (IsRealOf (scope_of policy) course) (IsReal policy moment) (λ outcome h. (h.0, h.1, course_comes policy untested_inits h.0 moment course outcome are h.2)) outcomes all.real;
}
