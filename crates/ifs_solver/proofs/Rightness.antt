-- What is judged within a set is right for all facts within it.
use Rattle.std.proofs.Common.{◌≡◌, ℕ, Bool, true, false, not, ◌&&◌, ◌||◌, List, [], ◌∷◌, ◌++◌, Option, Some, None, map, refl, sym, ap, ◌∙◌, subst}
use Rattle.std.specs.Prelude.{is_some, option_map, slice_get, if◌then◌else◌}
use Rattle.std.specs.List.{list_any}
use Rattle.std.proofs.lemmas.Bool.{true≢false}
use Rattle.std.proofs.lemmas.List.Folds.{list_any-append}
use Rattle.std.proofs.lemmas.Option.{slice_get-map}
use Rattle.ifs_base.specs.Facts.{Facts, is_link}
use Rattle.ifs_base.specs.Effects.{Effects, nothing_yet, later_wish}
use Rattle.ifs_base.specs.declared.ids.StateId.{StateId}
use Rattle.ifs_base.specs.declared.op.LinkState.{LinkState}
use Rattle.ifs_base.specs.declared.op.LinkState.TheVariants.{Unknown, Up}
use Rattle.ifs_parse.specs.Trees.{Leaf, NotSo, And, Or, Done, RunThen, SetStateThen, IfThen}
use Rattle.ifs_parse.specs.Views.{block_of}
use Rattle.ifs_policy.specs.Meaning.{Condition, Block, truth, holds, link_is, has_true, has_a_value, is_open, is_held, mentioned_in, mentioned, reached}
use Rattle.ifs_policy.specs.declared.policy.Single.{Single}
use Rattle.ifs_policy.specs.declared.policy.Single.TheVariants.{LinkIs, TestIs}
use Rattle.ifs_solver.specs.declared.domains.Branch.{Branch}
use Rattle.ifs_solver.specs.declared.domains.Branch.TheVariants.{Link, Test}
use Rattle.ifs_solver.specs.declared.domains.Domain.{Domain}
use Rattle.ifs_solver.specs.declared.constraints.Aim.{Aim}
use Rattle.ifs_solver.specs.declared.constraints.Aim.TheVariants.{Any}
use Rattle.ifs_solver.specs.declared.constraints.Constraint.{Constraint}
use Rattle.ifs_solver.specs.declared.constraints.Constraint.TheVariants.{Truth, Met, Free, NoWish, Silent, Aims}
use Rattle.ifs_solver.specs.declared.verdicts.Verdict.{Verdict}
use Rattle.ifs_solver.specs.declared.verdicts.Verdict.TheVariants.{Known, Open}
use Rattle.ifs_solver.specs.declared.verdicts.Wish.{Wish}
use Rattle.ifs_solver.specs.FactSets.{FactSet, Within, allows, has_one, without, state_of, value_of, domain_at}
use Rattle.ifs_solver.specs.Asking.{Guard, WhileTrue, WhileKnown, WhileUnknown, guard_of, is_met, lacks_value, is_aimed_at, hits, misses, meets, meets_all}
use Rattle.ifs_solver.specs.inner.Judging.{verdict_of, judged_branch, judged_single, judged_open, negated, joined, judged, judged_open_in, judged_held, judged_wish, no_wish, wish_for, later, guarded, judged_guard, judged_constraint, judged_all, IsRight, IsRightWish}
use Rattle.ifs_solver.proofs.Ranging.{Matches, missing, there, matches, value_at, same_link, without_keeps, has_it}

-- Joined verdicts.
and_no : (x y : Bool) → false ≡ y → false ≡ (x && y)
and_no false y e = refl
and_no true y e = e

or_yes : (x y : Bool) → true ≡ y → true ≡ (x || y)
or_yes true y e = refl
or_yes false y e = e

pub and_right : (a b : Verdict) (x y : Bool) → IsRight a x → IsRight b y → IsRight (joined false a b) (x && y)
and_right (Known false) b x y h k = ap (λ z. z && y) h
and_right (Known true) b x y h k = subst (λ z. IsRight b (z && y)) h k
and_right (Open branch) (Known false) x y h k = and_no x y k
and_right (Open branch) (Known true) x y h k = tt
and_right (Open branch) (Open other) x y h k = tt

pub or_right : (a b : Verdict) (x y : Bool) → IsRight a x → IsRight b y → IsRight (joined true a b) (x || y)
or_right (Known true) b x y h k = ap (λ z. z || y) h
or_right (Known false) b x y h k = subst (λ z. IsRight b (z || y)) h k
or_right (Open branch) (Known true) x y h k = or_yes x y k
or_right (Open branch) (Known false) x y h k = tt
or_right (Open branch) (Open other) x y h k = tt

pub not_right : (a : Verdict) (x : Bool) → IsRight a x → IsRight (negated a) (not x)
not_right (Known value) x h = ap not h
not_right (Open branch) x h = tt

-- A single fact. Without a place for it, this is known.
abbrev read : Bool → LinkState → Option LinkState → Bool
read without_it value None = without_it
read without_it value (Some v) = is_link v value

verdict_right : (allowed others : Bool) (branch : Branch) (is : Bool) → (allowed ≡ false → is ≡ false) → (others ≡ false → is ≡ true) → IsRight (verdict_of allowed others branch) is
verdict_right false others branch is f g = sym (f refl)
verdict_right true false branch is f g = sym (g refl)
verdict_right true true branch is f g = tt

not_allowed : (value v : LinkState) (domain : Domain) → allows v domain ≡ true → allows value domain ≡ false → (is : Bool) → is_link v value ≡ is → is ≡ false
not_allowed value v domain h isnt true e = absurd (true≢false (sym (subst (λ w. allows w domain ≡ true) (same_link v value e) h) ∙ isnt))
not_allowed value v domain h isnt false e = refl

the_only : (value v : LinkState) (domain : Domain) → allows v domain ≡ true → has_one (without value domain) ≡ false → (is : Bool) → is_link v value ≡ is → is ≡ true
the_only value v domain h isnt true e = refl
the_only value v domain h isnt false e = absurd (true≢false (sym (has_it v (without value domain) (without_keeps value v domain e h)) ∙ isnt))

branch_right : (none : Bool) (branch : Branch) (domain : Option Domain) (value : Option LinkState) → Matches domain value → IsRight (judged_branch none domain branch) (read none (value_of branch) value)
branch_right none branch domain value (missing c_is v_is) = subst (λ o. IsRight (judged_branch none domain branch) (read none (value_of branch) o)) (sym v_is) (subst (λ o. IsRight (judged_branch none o branch) none) (sym c_is) refl)
branch_right none branch domain value (there c v c_is v_is h) =
    subst (λ o. IsRight (judged_branch none domain branch) (read none (value_of branch) o)) (sym v_is)
    (subst (λ o. IsRight (judged_branch none o branch) (is_link v (value_of branch))) (sym c_is)
    (verdict_right (allows (value_of branch) c) (has_one (without (value_of branch) c)) branch (is_link v (value_of branch))
    (λ isnt. not_allowed (value_of branch) v c h isnt (is_link v (value_of branch)) refl)
    (λ isnt. the_only (value_of branch) v c h isnt (is_link v (value_of branch)) refl)))

-- What is read of links and tests is what conditions ask for.
read_link : (value : LinkState) (now : Option LinkState) → read false value now ≡ link_is value now
read_link value None = refl
read_link value (Some v) = refl

up_is_true : (o : Option (Option Bool)) → read false Up (option_map state_of o) ≡ has_true o
up_is_true None = refl
up_is_true (Some None) = refl
up_is_true (Some (Some false)) = refl
up_is_true (Some (Some true)) = refl

unknown_is_open : (o : Option (Option Bool)) → read true Unknown (option_map state_of o) ≡ not (has_a_value o)
unknown_is_open None = refl
unknown_is_open (Some None) = refl
unknown_is_open (Some (Some false)) = refl
unknown_is_open (Some (Some true)) = refl

read_test : (tests : List (Option Bool)) (i : ℕ) → read false Up (slice_get (map state_of tests) i) ≡ has_true (slice_get tests i)
read_test tests i = ap (read false Up) (slice_get-map state_of tests i) ∙ up_is_true (slice_get tests i)

read_open : (tests : List (Option Bool)) (i : ℕ) → read true Unknown (slice_get (map state_of tests) i) ≡ not (has_a_value (slice_get tests i))
read_open tests i = ap (read true Unknown) (slice_get-map state_of tests i) ∙ unknown_is_open (slice_get tests i)

or_false : (b : Bool) → b ≡ (b || false)
or_false true = refl
or_false false = refl

-- The later wish: with none before it, and with one in between.
skip_none : (before after : Option StateId) → later_wish before (later_wish None after) ≡ later_wish before after
skip_none before None = refl
skip_none before (Some state) = refl

skip_before : (before after : Option StateId) (state : StateId) → later_wish before (later_wish (Some state) after) ≡ later_wish (Some state) after
skip_before before None state = refl
skip_before before (Some next) state = refl

later_twice : (before mid after : Option StateId) → later_wish before (later_wish mid after) ≡ later_wish (later_wish before mid) after
later_twice before mid None = refl
later_twice before mid (Some next) = refl

no_before : (after : Option StateId) → later_wish None after ≡ after
no_before None = refl
no_before (Some next) = refl

-- The later wish hits if it does, or else if there is none and the earlier one does.
absorbs : (a x : Bool) → (a || (not (not a) && x)) ≡ a
absorbs true x = refl
absorbs false x = refl

absorbs_not : (a x : Bool) → (not a || (not a && x)) ≡ not a
absorbs_not true x = refl
absorbs_not false x = refl

module _ (aim : Aim) where
  later_right : (a b : Wish) (x y : Option StateId) → IsRightWish aim a x → IsRightWish aim b y → IsRightWish aim (later a b) (later_wish x y)
  later_right a b x None h k = record {
    hit = or_right b.hit (joined false (negated b.miss) a.hit) false (hits aim x) k.hit (and_right (negated b.miss) a.hit true (hits aim x) (not_right b.miss false k.miss) h.hit);
    miss = or_right b.miss (joined false (negated b.hit) a.miss) false (misses aim x) k.miss (and_right (negated b.hit) a.miss true (misses aim x) (not_right b.hit false k.hit) h.miss);
  }
  later_right a b x (Some state) h k =
      let at = is_aimed_at aim state in
      record {
        hit = subst (λ z. IsRight (later a b).hit z) (absorbs at (hits aim x))
            (or_right b.hit (joined false (negated b.miss) a.hit) at (not (not at) && hits aim x) k.hit (and_right (negated b.miss) a.hit (not (not at)) (hits aim x) (not_right b.miss (not at) k.miss) h.hit));
        miss = subst (λ z. IsRight (later a b).miss z) (absorbs_not at (misses aim x))
            (or_right b.miss (joined false (negated b.hit) a.miss) (not at) (not at && misses aim x) k.miss (and_right (negated b.hit) a.miss (not at) (misses aim x) (not_right b.hit at k.hit) h.miss));
      }

  guarded_right : (verdict : Verdict) (wish : Wish) (is : Bool) (effects : Effects) → IsRight verdict is → IsRightWish aim wish effects.wish → IsRightWish aim (guarded verdict wish) (if is then effects else nothing_yet).wish
  guarded_right verdict wish true effects h k = record { hit = and_right verdict wish.hit true (hits aim effects.wish) h k.hit; miss = and_right verdict wish.miss true (misses aim effects.wish) h k.miss }
  guarded_right verdict wish false effects h k = record { hit = and_right verdict wish.hit false (hits aim effects.wish) h k.hit; miss = and_right verdict wish.miss false (misses aim effects.wish) h k.miss }

module _ (set : FactSet) (facts : Facts) (within : Within set facts) where
  single_right : (single : Single) → IsRight (judged_single set single) (holds facts single)
  single_right (LinkIs interface state) =
      subst (IsRight (judged_single set (LinkIs interface state))) (read_link state (slice_get facts.links interface.0))
      (branch_right false (Link interface state) (domain_at (Link interface state) set) (value_at (Link interface state) facts) (matches (Link interface state) set facts within))
  single_right (TestIs test) =
      subst (IsRight (judged_single set (TestIs test))) (read_test facts.tests test.0)
      (branch_right false (Test test Up) (domain_at (Test test Up) set) (value_at (Test test Up) facts) (matches (Test test Up) set facts within))

  -- A condition.
  pub condition_right : (condition : Condition) → IsRight (judged set condition) (truth facts condition)
  condition_right (Leaf single) = single_right single
  condition_right (NotSo operand) = not_right (judged set operand) (truth facts operand) (condition_right operand)
  condition_right (And left right) = and_right (judged set left) (judged set right) (truth facts left) (truth facts right) (condition_right left) (condition_right right)
  condition_right (Or left right) = or_right (judged set left) (judged set right) (truth facts left) (truth facts right) (condition_right left) (condition_right right)

  -- A test without a value in a condition.
  open_right : (condition : Condition) → IsRight (judged_open_in set condition) (list_any (is_open facts) (mentioned_in condition))
  open_right (Leaf (LinkIs interface state)) = refl
  open_right (Leaf (TestIs test)) =
      subst (IsRight (judged_open set (TestIs test))) (read_open facts.tests test.0 ∙ or_false (is_open facts test))
      (branch_right true (Test test Unknown) (domain_at (Test test Unknown) set) (value_at (Test test Unknown) facts) (matches (Test test Unknown) set facts within))
  open_right (NotSo operand) = open_right operand
  open_right (And left right) =
      subst (IsRight (judged_open_in set (And left right))) (sym (list_any-append (is_open facts) (mentioned_in left) (mentioned_in right)))
      (or_right (judged_open_in set left) (judged_open_in set right) (list_any (is_open facts) (mentioned_in left)) (list_any (is_open facts) (mentioned_in right)) (open_right left) (open_right right))
  open_right (Or left right) =
      subst (IsRight (judged_open_in set (Or left right))) (sym (list_any-append (is_open facts) (mentioned_in left) (mentioned_in right)))
      (or_right (judged_open_in set left) (judged_open_in set right) (list_any (is_open facts) (mentioned_in left)) (list_any (is_open facts) (mentioned_in right)) (open_right left) (open_right right))

  -- A test without a value in a block, or something before it.
  pub held_right : (before : Verdict) (is : Bool) → IsRight before is → (block : Block) → IsRight (judged_held set before block) (is || list_any (is_open facts) (mentioned block))
  held_right before is h Done = subst (IsRight before) (or_false is) h
  held_right before is h (RunThen command rest) = held_right before is h rest
  held_right before is h (SetStateThen state rest) = held_right before is h rest
  held_right before is h (IfThen condition inner rest) =
      let asked = list_any (is_open facts) (mentioned_in condition) in
      let inside = list_any (is_open facts) (mentioned inner) in
      let behind = list_any (is_open facts) (mentioned rest) in
      let one = or_right before (judged_open_in set condition) is asked h (open_right condition) in
      let two = held_right (joined true before (judged_open_in set condition)) (is || asked) one inner in
      subst (IsRight (judged_held set before (IfThen condition inner rest)))
      (sym (or_four is asked inside behind)
      ∙ ap (λ z. is || (asked || z)) (sym (list_any-append (is_open facts) (mentioned inner) (mentioned rest)))
      ∙ ap (λ z. is || z) (sym (list_any-append (is_open facts) (mentioned_in condition) (mentioned inner ++ mentioned rest))))
      (held_right (judged_held set (joined true before (judged_open_in set condition)) inner) ((is || asked) || inside) two rest)
    where
      or_four : (a b c d : Bool) → (a || (b || (c || d))) ≡ (((a || b) || c) || d)
      or_four true b c d = refl
      or_four false true c d = refl
      or_four false false c d = refl

  -- The last wish of a block, or the one before it.
  wish_right : (aim : Aim) (before : Wish) (is : Option StateId) → IsRightWish aim before is → (block : Block) → IsRightWish aim (judged_wish set aim before block) (later_wish is (reached facts block).wish)
  wish_right aim before is h Done = h
  wish_right aim before is h (RunThen command rest) =
      subst (IsRightWish aim (judged_wish set aim before rest)) (sym (skip_none is (reached facts rest).wish)) (wish_right aim before is h rest)
  wish_right aim before is h (SetStateThen state rest) =
      subst (IsRightWish aim (judged_wish set aim (wish_for aim state) rest)) (sym (skip_before is (reached facts rest).wish state))
      (wish_right aim (wish_for aim state) (Some state) (record { hit = refl; miss = refl }) rest)
  wish_right aim before is h (IfThen condition inner rest) =
      let own = judged_wish set aim no_wish inner in
      let inside = subst (IsRightWish aim own) (no_before (reached facts inner).wish) (wish_right aim no_wish None (record { hit = refl; miss = refl }) inner) in
      let met = guarded_right aim (judged set condition) own (truth facts condition) (reached facts inner) (condition_right condition) inside in
      let wish = (if truth facts condition then reached facts inner else nothing_yet).wish in
      let now = later before (guarded (judged set condition) own) in
      subst (IsRightWish aim (judged_wish set aim now rest)) (sym (later_twice is wish (reached facts rest).wish))
      (wish_right aim now (later_wish is wish) (later_right aim before (guarded (judged set condition) own) is wish h met) rest)

  wish_alone : (aim : Aim) (block : Block) → IsRightWish aim (judged_wish set aim no_wish block) (reached facts block).wish
  wish_alone aim block = subst (IsRightWish aim (judged_wish set aim no_wish block)) (no_before (reached facts block).wish) (wish_right aim no_wish None (record { hit = refl; miss = refl }) block)

  -- A guard.
  guard_right : (guard : Guard) → IsRight (judged_guard set guard) (is_met facts guard)
  guard_right (WhileTrue condition) = condition_right condition
  guard_right (WhileKnown condition) =
      and_right (judged set condition) (negated (judged_open_in set condition)) (truth facts condition) (not (lacks_value facts condition)) (condition_right condition)
      (not_right (judged_open_in set condition) (lacks_value facts condition) (open_right condition))
  guard_right (WhileUnknown condition) = open_right condition

  -- A constraint.
  constraint_right : (constraint : Constraint) → IsRight (judged_constraint set constraint) (meets facts constraint)
  constraint_right (Truth condition true) = condition_right condition.now
  constraint_right (Truth condition false) = not_right (judged set condition.now) (truth facts condition.now) (condition_right condition.now)
  constraint_right (Met guard) = guard_right (guard_of guard)
  constraint_right (Free body) = not_right (judged_held set (Known false) body.now) (is_held facts body.now) (held_right (Known false) false refl body.now)
  constraint_right (NoWish statements) =
      let block = block_of statements.now in
      not_right (judged_wish set Any no_wish block).hit (is_some (reached facts block).wish) (subst (IsRight (judged_wish set Any no_wish block).hit) (any_is_some (reached facts block).wish) (wish_alone Any block).hit)
    where
      any_is_some : (o : Option StateId) → hits Any o ≡ is_some o
      any_is_some None = refl
      any_is_some (Some state) = refl
  constraint_right (Silent body) =
      let wish = judged_wish set Any no_wish body.now in
      subst (IsRight (judged_constraint set (Silent body))) (silent (is_held facts body.now) (reached facts body.now))
      (or_right (judged_held set (Known false) body.now) (negated wish.hit) (is_held facts body.now) (not (hits Any (reached facts body.now).wish))
      (held_right (Known false) false refl body.now) (not_right wish.hit (hits Any (reached facts body.now).wish) (wish_alone Any body.now).hit))
    where
      no_hit : (o : Option StateId) → not (hits Any o) ≡ not (is_some o)
      no_hit None = refl
      no_hit (Some state) = refl

      silent : (held : Bool) (effects : Effects) → (held || not (hits Any effects.wish)) ≡ not (is_some (if held then nothing_yet else effects).wish)
      silent true effects = refl
      silent false effects = no_hit effects.wish
  constraint_right (Aims body aim) = (wish_alone aim body.now).hit

  -- All of some constraints.
  pub all_right : (constraints : List Constraint) → IsRight (judged_all set constraints) (meets_all constraints facts)
  all_right [] = refl
  all_right (constraint ∷ constraints) =
      and_right (judged_constraint set constraint) (judged_all set constraints) (meets facts constraint) (meets_all constraints facts) (constraint_right constraint) (all_right constraints)
