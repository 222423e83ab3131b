-- What conditions and blocks say of the facts before an entry.
use Rattle.std.proofs.Common.{◌≡◌, Bool, true, false, not, ◌&&◌, ◌||◌, List, [], ◌∷◌, ◌++◌, length, map, Option, Some, None, refl, sym, ap, ◌∙◌, arith}
use Rattle.std.specs.Prelude.{slice_get, if◌then◌else◌}
use Rattle.std.proofs.lemmas.Bool.{false≢true}
use Rattle.std.specs.List.{list_any}
use Rattle.std.proofs.lemmas.List.Folds.{list_any-append}
use Rattle.std.proofs.lemmas.Option.{slice_get_past, slice_get_within}
use Rattle.ifs_base.specs.Facts.{Facts}
use Rattle.ifs_base.specs.Effects.{nothing_yet, followed}
use Rattle.ifs_base.specs.declared.ids.CommandId.{CommandId}
use Rattle.ifs_base.specs.declared.ids.StateId.{StateId}
use Rattle.ifs_base.specs.declared.ids.TestId.{TestId}
use Rattle.ifs_core.specs.Event.{kept_values}
use Rattle.ifs_gen.specs.Events.{behaviour_of, ActiveAreMentioned}
use Rattle.ifs_gen.specs.PlainSizes.{test_count}
use Rattle.ifs_gen.specs.Trees.{Policy}
use Rattle.ifs_parse.specs.Trees.{Done, RunThen, SetStateThen, IfThen, Leaf, NotSo, And, Or}
use Rattle.ifs_parse.specs.Views.{block_of, statement_then}
use Rattle.ifs_parse.specs.declared.block.Statement.{Statement}
use Rattle.ifs_parse.specs.declared.block.Statement.TheVariants.{Run, SetState, If}
use Rattle.ifs_policy.specs.Fits.{PolicyFits}
use Rattle.ifs_policy.specs.Meaning.{Block, Condition, has_a_value, has_true, holds, is_open, mentioned_in, reached, truth}
use Rattle.ifs_policy.specs.Visits.{mentions}
use Rattle.ifs_policy.specs.declared.policy.Single.{Single}
use Rattle.ifs_policy.specs.declared.policy.Single.TheVariants.{LinkIs, TestIs}
use Rattle.ifs_solver.specs.Asking.{Guard, WhileTrue, WhileKnown, WhileUnknown, is_met, lacks_value}
use Rattle.ifs_solver.specs.FactSets.{AreFactsOf, scope_of}
use Rattle.ifs_claims.specs.Moves.{kept_facts}
use Rattle.ifs_claims.specs.inner.Kept.{no_test, kept_single, kept_condition, kept_guard, kept_block, kept_statement}
use Rattle.ifs_claims.proofs.Active.{kept_values_active}
use Rattle.ifs_claims.proofs.Shared.{kept_same, listed, mentions_of}
use Rattle.ifs_claims.proofs.Standing.{length_kept}

-- The statements of a block.
module _ (always : Block) where
  kept_then : (statement : Statement Single CommandId StateId) (rest : Block) → kept_block always (statement_then statement rest) ≡ statement_then (kept_statement always statement) (kept_block always rest)
  kept_then (Run command) rest = refl
  kept_then (SetState state) rest = refl
  kept_then (If condition inner) rest = refl

  pub kept_statements : (statements : List (Statement Single CommandId StateId)) → kept_block always (block_of statements) ≡ block_of (map (kept_statement always) statements)
  kept_statements [] = refl
  kept_statements (statement ∷ rest) = kept_then statement (block_of rest) ∙ ap (statement_then (kept_statement always statement)) (kept_statements rest)

-- Without a value, nothing is true.
not_true_without : (o : Option (Option Bool)) → has_a_value o ≡ false → has_true o ≡ false
not_true_without None none = refl
not_true_without (Some None) none = refl
not_true_without (Some (Some value)) none = absurd (false≢true (sym none))

module _ (active : ActiveAreMentioned) (policy : Policy) (fits : PolicyFits policy) (facts : Facts) (are : AreFactsOf (scope_of policy) facts) where
  abbrev always : Block
  always = policy.always.body

  abbrev after : Facts
  after = kept_facts policy facts

  -- A test that an entry takes the value of has no value.
  lost_by : (test : TestId) (o : Option (Option Bool)) → mentions test always ≡ false → slice_get (kept_values (behaviour_of policy).always facts.tests) test.0 ≡ o → has_a_value o ≡ false
  lost_by test None none e = refl
  lost_by test (Some None) none e = refl
  lost_by test (Some (Some value)) none e =
      let many : length facts.tests ≡ length policy.tables.tests = are.tests in
      let kept_many = length_kept (behaviour_of policy).always facts.tests in
      let lt = slice_get_within (kept_values (behaviour_of policy).always facts.tests) test.0 (Some value) e in
      let is_active = kept_values_active (behaviour_of policy).always facts.tests test.0 value e in
      absurd (false≢true (sym none ∙ mentions_of test always ((active (test_count policy) policy.always test.0 (omega (arith, lt, many, kept_many))).0 is_active)))

  lost : (test : TestId) → mentions test always ≡ false → has_a_value (slice_get after.tests test.0) ≡ false
  lost test none = lost_by test (slice_get (kept_values (behaviour_of policy).always facts.tests) test.0) none refl

  not_there : slice_get facts.tests no_test.0 ≡ None
  not_there =
      let many : length facts.tests ≡ length policy.tables.tests = are.tests in
      let most = fits.tables.tests.within in
      slice_get_past facts.tests no_test.0 (omega (arith, many, most))

  test_kept : (test : TestId) (c : Bool) → mentions test always ≡ c → has_true (slice_get facts.tests (if c then test else no_test).0) ≡ has_true (slice_get after.tests test.0)
  test_kept test true e = ap has_true (sym (kept_same active policy facts are test (listed test always e)))
  test_kept test false e = ap has_true not_there ∙ sym (not_true_without (slice_get after.tests test.0) (lost test e))

  single_kept : (single : Single) → holds facts (kept_single always single) ≡ holds after single
  single_kept (LinkIs interface state) = refl
  single_kept (TestIs test) = test_kept test (mentions test always) refl

  pub truth_kept : (condition : Condition) → truth facts (kept_condition always condition) ≡ truth after condition
  truth_kept (Leaf single) = single_kept single
  truth_kept (NotSo operand) = ap not (truth_kept operand)
  truth_kept (And left right) = ap (λ b. b && truth facts (kept_condition always right)) (truth_kept left) ∙ ap (λ b. truth after left && b) (truth_kept right)
  truth_kept (Or left right) = ap (λ b. b || truth facts (kept_condition always right)) (truth_kept left) ∙ ap (λ b. truth after left || b) (truth_kept right)

  -- Whether a test has a value.
  open_kept_by : (test : TestId) (c : Bool) → mentions test always ≡ c → is_open facts (if c then test else no_test) ≡ is_open after test
  open_kept_by test true e = ap (λ o. not (has_a_value o)) (sym (kept_same active policy facts are test (listed test always e)))
  open_kept_by test false e = ap (λ o. not (has_a_value o)) not_there ∙ sym (ap not (lost test e))

  open_both : (left right : Condition) → lacks_value facts (kept_condition always left) ≡ lacks_value after left → lacks_value facts (kept_condition always right) ≡ lacks_value after right
      → list_any (is_open facts) (mentioned_in (kept_condition always left) ++ mentioned_in (kept_condition always right)) ≡ list_any (is_open after) (mentioned_in left ++ mentioned_in right)
  open_both left right one other =
      list_any-append (is_open facts) (mentioned_in (kept_condition always left)) (mentioned_in (kept_condition always right))
      ∙ ap (λ b. b || lacks_value facts (kept_condition always right)) one ∙ ap (λ b. lacks_value after left || b) other
      ∙ sym (list_any-append (is_open after) (mentioned_in left) (mentioned_in right))

  -- A test in a condition that has no value.
  open_kept : (condition : Condition) → lacks_value facts (kept_condition always condition) ≡ lacks_value after condition
  open_kept (Leaf (LinkIs interface state)) = refl
  open_kept (Leaf (TestIs test)) = ap (λ b. b || false) (open_kept_by test (mentions test always) refl)
  open_kept (NotSo operand) = open_kept operand
  open_kept (And left right) = open_both left right (open_kept left) (open_kept right)
  open_kept (Or left right) = open_both left right (open_kept left) (open_kept right)

  -- A guard.
  pub met_kept : (guard : Guard) → is_met facts (kept_guard always guard) ≡ is_met after guard
  met_kept (WhileTrue condition) = truth_kept condition
  met_kept (WhileKnown condition) = ap (λ b. b && not (lacks_value facts (kept_condition always condition))) (truth_kept condition) ∙ ap (λ b. truth after condition && not b) (open_kept condition)
  met_kept (WhileUnknown condition) = open_kept condition

  pub reached_kept : (block : Block) → reached facts (kept_block always block) ≡ reached after block
  reached_kept Done = refl
  reached_kept (RunThen command rest) = ap (followed (record { commands = command ∷ []; wish = None })) (reached_kept rest)
  reached_kept (SetStateThen state rest) = ap (followed (record { commands = []; wish = Some state })) (reached_kept rest)
  reached_kept (IfThen condition inner rest) =
      ap (λ t. followed (if t then reached facts (kept_block always inner) else nothing_yet) (reached facts (kept_block always rest))) (truth_kept condition)
      ∙ ap (λ x. followed (if truth after condition then x else nothing_yet) (reached facts (kept_block always rest))) (reached_kept inner)
      ∙ ap (λ x. followed (if truth after condition then reached after inner else nothing_yet) x) (reached_kept rest)
