-- What is known within a set: of conditions, of bodies that are held back, and of wishes.
use Rattle.std.specs.Prelude.{ℕ, ◌≡◌, Bool, true, false, not, List, [], ◌∷◌, Option, Some, None}
use Rattle.ifs_base.specs.declared.ids.StateId.{StateId}
use Rattle.ifs_base.specs.declared.ids.CommandId.{CommandId}
use Rattle.ifs_base.specs.declared.op.LinkState.TheVariants.{Unknown}
use Rattle.ifs_parse.specs.Trees.{block_size, Leaf, NotSo, And, Or, Done, RunThen, SetStateThen, IfThen}
use Rattle.ifs_parse.specs.declared.condition.Node.{Node}
use Rattle.ifs_parse.specs.declared.condition.Node.TheVariants as node
use Rattle.ifs_parse.specs.declared.block.Statement.{Statement}
use Rattle.ifs_parse.specs.declared.block.Statement.TheVariants.{Run, SetState, If}
use Rattle.ifs_policy.specs.Meaning.{Condition, Block}
use Rattle.ifs_policy.specs.declared.policy.Single.{Single}
use Rattle.ifs_policy.specs.declared.policy.Single.TheVariants.{LinkIs, TestIs}
use Rattle.ifs_solver.specs.declared.domains.Branch.{Branch}
use Rattle.ifs_solver.specs.declared.domains.Branch.TheVariants.{Test}
use Rattle.ifs_solver.specs.declared.domains.Domain.{Domain}
use Rattle.ifs_solver.specs.declared.constraints.Aim.{Aim}
use Rattle.ifs_solver.specs.declared.constraints.Aim.TheVariants.{Any}
use Rattle.ifs_solver.specs.declared.constraints.Constraint.{Constraint}
use Rattle.ifs_solver.specs.declared.constraints.Constraint.TheVariants.{Truth, Met, Free, NoWish, Silent, Aims}
use Rattle.ifs_parse.specs.Views.{block_of}
use Rattle.ifs_solver.specs.declared.verdicts.Verdict.{Verdict}
use Rattle.ifs_solver.specs.declared.verdicts.Verdict.TheVariants.{Known, Open}
use Rattle.ifs_solver.specs.declared.verdicts.Wish.{Wish}
use Rattle.ifs_solver.specs.FactSets.{FactSet, allows, has_one, without, value_of, branch_of, domain_at}
use Rattle.ifs_solver.specs.Asking.{Guard, WhileTrue, WhileKnown, WhileUnknown, guard_of, is_aimed_at, hits, misses}

-- What is known if a value is allowed or not, and others are or not.
abbrev pub verdict_of : Bool → Bool → Branch → Verdict
verdict_of false others branch = Known false
verdict_of true false branch = Known true
verdict_of true true branch = Open branch

-- Whether the value is as asked. Without a domain there, this is known.
abbrev pub judged_branch : Bool → Option Domain → Branch → Verdict
judged_branch missing None branch = Known missing
judged_branch missing (Some domain) branch = verdict_of (allows (value_of branch) domain) (has_one (without (value_of branch) domain)) branch

-- Whether a single test is true.
abbrev pub judged_single : FactSet → Single → Verdict
judged_single set single = judged_branch false (domain_at (branch_of single) set) (branch_of single)

-- Whether the test of a single test has no value.
abbrev pub judged_open : FactSet → Single → Verdict
judged_open set (LinkIs interface state) = Known false
judged_open set (TestIs test) = judged_branch true (domain_at (Test test Unknown) set) (Test test Unknown)

-- The opposite.
abbrev pub negated : Verdict → Verdict
negated (Known value) = Known (not value)
negated (Open branch) = Open branch

-- Two operands joined by the operator that one operand of this value decides.
abbrev pub joined : Bool → Verdict → Verdict → Verdict
joined false (Known false) right = Known false
joined false (Known true) right = right
joined false (Open branch) (Known false) = Known false
joined true (Known true) right = Known true
joined true (Known false) right = right
joined true (Open branch) (Known true) = Known true
joined deciding (Open branch) right = Open branch

-- Whether one true operand decides a node.
abbrev pub joins : Node Single → Bool
joins (node.Any first second rest) = true
joins (node.Leaf single) = false
joins (node.Not operand) = false
joins (node.All first second rest) = false

-- Whether a condition is true.
abbrev pub judged : FactSet → Condition → Verdict
judged set (Leaf single) = judged_single set single
judged set (NotSo operand) = negated (judged set operand)
judged set (And left right) = joined false (judged set left) (judged set right)
judged set (Or left right) = joined true (judged set left) (judged set right)

-- Whether a test in a condition has no value.
abbrev pub judged_open_in : FactSet → Condition → Verdict
judged_open_in set (Leaf single) = judged_open set single
judged_open_in set (NotSo operand) = judged_open_in set operand
judged_open_in set (And left right) = joined true (judged_open_in set left) (judged_open_in set right)
judged_open_in set (Or left right) = joined true (judged_open_in set left) (judged_open_in set right)

-- Whether a test in a block has no value, or one before it.
abbrev pub judged_held : FactSet → Verdict → Block → Verdict
judged_held set before Done = before
judged_held set before (RunThen command rest) = judged_held set before rest
judged_held set before (SetStateThen state rest) = judged_held set before rest
judged_held set before (IfThen condition inner rest) =
    judged_held set (judged_held set (joined true before (judged_open_in set condition)) inner) rest

-- The same after one statement.
abbrev pub judged_held_after : FactSet → Verdict → Statement Single CommandId StateId → Verdict
judged_held_after set before (Run command) = before
judged_held_after set before (SetState state) = before
judged_held_after set before (If condition inner) = judged_held set (joined true before (judged_open_in set condition)) inner

-- No wish.
abbrev pub no_wish : Wish
no_wish = record { hit = Known false; miss = Known false }

-- A wish for a state.
abbrev pub wish_for : Aim → StateId → Wish
wish_for aim state = record { hit = Known (is_aimed_at aim state); miss = Known (not (is_aimed_at aim state)) }

-- The last of two wishes.
abbrev pub later : Wish → Wish → Wish
later before after = record {
  hit = joined true after.hit (joined false (negated after.miss) before.hit);
  miss = joined true after.miss (joined false (negated after.hit) before.miss);
}

-- A wish under a condition.
abbrev pub guarded : Verdict → Wish → Wish
guarded verdict wish = record { hit = joined false verdict wish.hit; miss = joined false verdict wish.miss }

-- The last wish that a block reaches, or the one before it.
abbrev pub judged_wish : FactSet → Aim → Wish → Block → Wish
judged_wish set aim before Done = before
judged_wish set aim before (RunThen command rest) = judged_wish set aim before rest
judged_wish set aim before (SetStateThen state rest) = judged_wish set aim (wish_for aim state) rest
judged_wish set aim before (IfThen condition inner rest) =
    judged_wish set aim (later before (guarded (judged set condition) (judged_wish set aim no_wish inner))) rest

-- The same after one statement.
abbrev pub judged_wish_after : FactSet → Aim → Wish → Statement Single CommandId StateId → Wish
judged_wish_after set aim before (Run command) = before
judged_wish_after set aim before (SetState state) = wish_for aim state
judged_wish_after set aim before (If condition inner) = later before (guarded (judged set condition) (judged_wish set aim no_wish inner))

-- Whether facts meet a guard.
abbrev pub judged_guard : FactSet → Guard → Verdict
judged_guard set (WhileTrue condition) = judged set condition
judged_guard set (WhileKnown condition) = joined false (judged set condition) (negated (judged_open_in set condition))
judged_guard set (WhileUnknown condition) = judged_open_in set condition

-- Whether facts meet a constraint.
abbrev pub judged_constraint : FactSet → Constraint → Verdict
judged_constraint set (Truth condition true) = judged set condition.now
judged_constraint set (Truth condition false) = negated (judged set condition.now)
judged_constraint set (Met guard) = judged_guard set (guard_of guard)
judged_constraint set (Free body) = negated (judged_held set (Known false) body.now)
judged_constraint set (NoWish statements) = negated (judged_wish set Any no_wish (block_of statements.now)).hit
judged_constraint set (Silent body) = joined true (judged_held set (Known false) body.now) (negated (judged_wish set Any no_wish body.now).hit)
judged_constraint set (Aims body aim) = (judged_wish set aim no_wish body.now).hit

-- Whether they meet all.
abbrev pub judged_all : FactSet → List Constraint → Verdict
judged_all set [] = Known true
judged_all set (constraint ∷ constraints) = joined false (judged_constraint set constraint) (judged_all set constraints)

-- A verdict is right: what is known is so.
abbrev pub IsRight : Verdict → Bool → Type 0
IsRight (Known value) is = value ≡ is
IsRight (Open branch) is = Unit {0}

-- What is known of a wish is so.
pub record IsRightWish (aim : Aim) (wish : Wish) (is : Option StateId) : Type 0 where
  pub hit : IsRight wish.hit (hits aim is)
  pub miss : IsRight wish.miss (misses aim is)

-- The size of the block in a statement.
abbrev pub inner_size : Statement Single CommandId StateId → ℕ
inner_size (Run command) = 0
inner_size (SetState state) = 0
inner_size (If condition inner) = block_size inner
