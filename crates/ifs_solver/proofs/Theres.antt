-- What is asked has a place in the set.
use Rattle.std.proofs.Common.{◌≡◌, Bool, true, false, List, [], ◌∷◌, Option, Some, None, refl}
use Rattle.ifs_base.specs.declared.op.LinkState.TheVariants.{Unknown}
use Rattle.ifs_parse.specs.Trees.{Leaf, NotSo, And, Or, Done, RunThen, SetStateThen, IfThen}
use Rattle.ifs_parse.specs.Views.{block_of}
use Rattle.ifs_policy.specs.Meaning.{Condition, Block}
use Rattle.ifs_policy.specs.declared.policy.Single.{Single}
use Rattle.ifs_policy.specs.declared.policy.Single.TheVariants.{LinkIs, TestIs}
use Rattle.ifs_solver.specs.declared.domains.Branch.{Branch}
use Rattle.ifs_solver.specs.declared.domains.Branch.TheVariants.{Test}
use Rattle.ifs_solver.specs.declared.domains.Domain.{Domain}
use Rattle.ifs_solver.specs.declared.constraints.Aim.{Aim}
use Rattle.ifs_solver.specs.declared.constraints.Aim.TheVariants.{Any}
use Rattle.ifs_solver.specs.declared.constraints.Constraint.{Constraint}
use Rattle.ifs_solver.specs.declared.constraints.Constraint.TheVariants.{Truth, Met, Free, NoWish, Silent, Aims}
use Rattle.ifs_solver.specs.declared.verdicts.Verdict.{Verdict}
use Rattle.ifs_solver.specs.declared.verdicts.Verdict.TheVariants.{Known, Open}
use Rattle.ifs_solver.specs.declared.verdicts.Wish.{Wish}
use Rattle.ifs_solver.specs.FactSets.{FactSet, allows, has_one, without, value_of, branch_of, domain_at, HasDomain}
use Rattle.ifs_solver.specs.Asking.{Guard, WhileTrue, WhileKnown, WhileUnknown, guard_of}
use Rattle.ifs_solver.specs.inner.Judging.{verdict_of, judged_branch, judged_single, judged_open, negated, joined, judged, judged_open_in, judged_held, judged_wish, no_wish, wish_for, later, guarded, judged_guard, judged_constraint, judged_all}

module _ (set : FactSet) where
  -- What is asked has a domain.
  abbrev pub IsThere : Verdict → Type 0
  IsThere (Known value) = Unit {0}
  IsThere (Open branch) = HasDomain branch set

  joined_there : (deciding : Bool) (a b : Verdict) → IsThere a → IsThere b → IsThere (joined deciding a b)
  joined_there false (Known false) b h k = tt
  joined_there false (Known true) b h k = k
  joined_there false (Open branch) (Known false) h k = tt
  joined_there false (Open branch) (Known true) h k = h
  joined_there false (Open branch) (Open other) h k = h
  joined_there true (Known true) b h k = tt
  joined_there true (Known false) b h k = k
  joined_there true (Open branch) (Known true) h k = tt
  joined_there true (Open branch) (Known false) h k = h
  joined_there true (Open branch) (Open other) h k = h

  negated_there : (a : Verdict) → IsThere a → IsThere (negated a)
  negated_there (Known value) h = tt
  negated_there (Open branch) h = h

  verdict_there : (allowed others : Bool) (branch : Branch) (domain : Domain) → domain_at branch set ≡ Some domain → IsThere (verdict_of allowed others branch)
  verdict_there false others branch domain e = tt
  verdict_there true false branch domain e = tt
  verdict_there true true branch domain e = (domain, e)

  branch_there : (missing : Bool) (branch : Branch) (domain : Option Domain) → domain_at branch set ≡ domain → IsThere (judged_branch missing domain branch)
  branch_there missing branch None e = tt
  branch_there missing branch (Some domain) e = verdict_there (allows (value_of branch) domain) (has_one (without (value_of branch) domain)) branch domain e

  open_single_there : (single : Single) → IsThere (judged_open set single)
  open_single_there (LinkIs interface state) = tt
  open_single_there (TestIs test) = branch_there true (Test test Unknown) (domain_at (Test test Unknown) set) refl

  pub condition_there : (condition : Condition) → IsThere (judged set condition)
  condition_there (Leaf single) = branch_there false (branch_of single) (domain_at (branch_of single) set) refl
  condition_there (NotSo operand) = negated_there (judged set operand) (condition_there operand)
  condition_there (And left right) = joined_there false (judged set left) (judged set right) (condition_there left) (condition_there right)
  condition_there (Or left right) = joined_there true (judged set left) (judged set right) (condition_there left) (condition_there right)

  open_there : (condition : Condition) → IsThere (judged_open_in set condition)
  open_there (Leaf single) = open_single_there single
  open_there (NotSo operand) = open_there operand
  open_there (And left right) = joined_there true (judged_open_in set left) (judged_open_in set right) (open_there left) (open_there right)
  open_there (Or left right) = joined_there true (judged_open_in set left) (judged_open_in set right) (open_there left) (open_there right)

  pub held_there : (before : Verdict) → IsThere before → (block : Block) → IsThere (judged_held set before block)
  held_there before h Done = h
  held_there before h (RunThen command rest) = held_there before h rest
  held_there before h (SetStateThen state rest) = held_there before h rest
  held_there before h (IfThen condition inner rest) =
      let one = joined_there true before (judged_open_in set condition) h (open_there condition) in
      held_there (judged_held set (joined true before (judged_open_in set condition)) inner) (held_there (joined true before (judged_open_in set condition)) one inner) rest

  -- The same of wishes.
  record WishThere (wish : Wish) : Type 0 where
    hit : IsThere wish.hit
    miss : IsThere wish.miss

  later_there : (a b : Wish) → WishThere a → WishThere b → WishThere (later a b)
  later_there a b h k = record {
    hit = joined_there true b.hit (joined false (negated b.miss) a.hit) k.hit (joined_there false (negated b.miss) a.hit (negated_there b.miss k.miss) h.hit);
    miss = joined_there true b.miss (joined false (negated b.hit) a.miss) k.miss (joined_there false (negated b.hit) a.miss (negated_there b.hit k.hit) h.miss);
  }

  wish_there : (aim : Aim) (before : Wish) → WishThere before → (block : Block) → WishThere (judged_wish set aim before block)
  wish_there aim before h Done = h
  wish_there aim before h (RunThen command rest) = wish_there aim before h rest
  wish_there aim before h (SetStateThen state rest) = wish_there aim (wish_for aim state) (record { hit = tt; miss = tt }) rest
  wish_there aim before h (IfThen condition inner rest) =
      let wish = judged_wish set aim no_wish inner in
      let inside = wish_there aim no_wish (record { hit = tt; miss = tt }) inner in
      let here = condition_there condition in
      let guarded_wish : WishThere (guarded (judged set condition) wish) = record { hit = joined_there false (judged set condition) wish.hit here inside.hit; miss = joined_there false (judged set condition) wish.miss here inside.miss } in
      wish_there aim (later before (guarded (judged set condition) wish)) (later_there before (guarded (judged set condition) wish) h guarded_wish) rest

  none_there : (aim : Aim) (block : Block) → WishThere (judged_wish set aim no_wish block)
  none_there aim block = wish_there aim no_wish (record { hit = tt; miss = tt }) block

  guard_there : (guard : Guard) → IsThere (judged_guard set guard)
  guard_there (WhileTrue condition) = condition_there condition
  guard_there (WhileKnown condition) = joined_there false (judged set condition) (negated (judged_open_in set condition)) (condition_there condition) (negated_there (judged_open_in set condition) (open_there condition))
  guard_there (WhileUnknown condition) = open_there condition

  constraint_there : (constraint : Constraint) → IsThere (judged_constraint set constraint)
  constraint_there (Truth condition true) = condition_there condition.now
  constraint_there (Truth condition false) = negated_there (judged set condition.now) (condition_there condition.now)
  constraint_there (Met guard) = guard_there (guard_of guard)
  constraint_there (Free body) = negated_there (judged_held set (Known false) body.now) (held_there (Known false) tt body.now)
  constraint_there (NoWish statements) = negated_there (judged_wish set Any no_wish (block_of statements.now)).hit (none_there Any (block_of statements.now)).hit
  constraint_there (Silent body) =
      joined_there true (judged_held set (Known false) body.now) (negated (judged_wish set Any no_wish body.now).hit) (held_there (Known false) tt body.now)
      (negated_there (judged_wish set Any no_wish body.now).hit (none_there Any body.now).hit)
  constraint_there (Aims body aim) = (none_there aim body.now).hit

  pub all_there : (constraints : List Constraint) → IsThere (judged_all set constraints)
  all_there [] = tt
  all_there (constraint ∷ constraints) = joined_there false (judged_constraint set constraint) (judged_all set constraints) (constraint_there constraint) (all_there constraints)
