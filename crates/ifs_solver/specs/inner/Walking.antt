-- What a walk over the places of a policy keeps, and what it adds to the answers.
use Rattle.std.specs.Prelude.{ℕ, ◌≡◌, Bool, true, not, ◌&&◌, List, [], ◌∷◌, ◌++◌, ◌≤◌, Option, Some, None, length, take, All, Any, Contains}
use Rattle.std.specs.List.{flat_map}
use Rattle.std.specs.Borrow.{Bor}
use Rattle.ifs_base.specs.Facts.{Facts}
use Rattle.ifs_base.specs.declared.ids.CommandId.{CommandId}
use Rattle.ifs_base.specs.declared.ids.StateId.{StateId}
use Rattle.ifs_parse.specs.declared.block.Statement.{Statement}
use Rattle.ifs_parse.specs.declared.block.Statement.TheVariants.{Run, SetState, If}
use Rattle.ifs_policy.specs.Meaning.{Condition, Block, truth}
use Rattle.ifs_policy.specs.declared.policy.Handlers.{Handlers}
use Rattle.ifs_policy.specs.declared.policy.Single.{Single}
use Rattle.ifs_solver.specs.declared.answers.Answer.TheVariants as answer
use Rattle.ifs_solver.specs.declared.constraints.Constraint.{Constraint}
use Rattle.ifs_solver.specs.declared.constraints.Constraint.TheVariants.{Truth, NoWish}
use Rattle.ifs_solver.specs.declared.fact_sets.Scope.{Scope}
use Rattle.ifs_solver.specs.declared.searching.Budget.{Budget}
use Rattle.ifs_solver.specs.declared.searching.Extent.{Extent}
use Rattle.ifs_solver.specs.declared.searching.Extent.TheVariants.{Somewhere, Nowhere, Undecided}
use Rattle.ifs_solver.specs.declared.walking.Walk.{Walk}
use Rattle.ifs_solver.specs.Asking.{is_signed, meets_all, IsSomewhere, IsNowhere}
use Rattle.ifs_solver.specs.Budgets.{IsSpent, IsUsedUp}
use Rattle.ifs_solver.specs.Places.{Here, Place, Command, Wish, where_is, or_wish, is_chain, own_place, operand_places, condition_places, block_places, bodies_after_always, nothing_after, unless, where_free, AreAnswers}

-- These constraints are met exactly there.
abbrev pub IsHere : Here → List Constraint → Type 0
IsHere here constraints = (facts : Facts) → here facts ≡ meets_all constraints facts

-- These constraints are met exactly if there is no later wish.
abbrev pub IsLater : Here → List Constraint → Type 0
IsLater later constraints = (facts : Facts) → not (later facts) ≡ meets_all constraints facts

-- The bodies that may follow.
abbrev pub others_of : Option (Bor (List Handlers)) → List Here
others_of None = nothing_after
others_of (Some states) = bodies_after_always states.now

-- A walk is at the place where another one was.
pub record IsBack (old new : Walk) : Type 0 where
  pub scope : new.scope ≡ old.scope
  pub others : new.others ≡ old.others
  pub context : new.context.items ≡ old.context.items
  pub last : new.last.items ≡ old.last.items

-- It has asked, and answered nothing.
pub record HasAsked (old new : Walk) : Type 0 where
  pub back : IsBack old new
  pub answers : new.answers.items ≡ old.answers.items

-- It is back where so many constraints lead.
pub record HasLeft (depth : ℕ) (old new : Walk) : Type 0 where
  pub scope : new.scope ≡ old.scope
  pub others : new.others ≡ old.others
  pub context : new.context.items ≡ take depth old.context.items
  pub last : new.last.items ≡ old.last.items
  pub answers : new.answers.items ≡ old.answers.items
  pub budget : new.budget ≡ old.budget

-- It has gone to where one more constraint leads.
pub record HasGone (constraint : Constraint) (old new : Walk) : Type 0 where
  pub scope : new.scope ≡ old.scope
  pub others : new.others ≡ old.others
  pub context : new.context.items ≡ old.context.items ++ constraint ∷ []
  pub last : new.last.items ≡ old.last.items
  pub answers : new.answers.items ≡ old.answers.items
  pub budget : new.budget ≡ old.budget

-- It has gone back from there.
pub record HasGoneBack (old new : Walk) : Type 0 where
  pub scope : new.scope ≡ old.scope
  pub others : new.others ≡ old.others
  pub context : (constraints : List Constraint) (constraint : Constraint) → old.context.items ≡ constraints ++ constraint ∷ [] → new.context.items ≡ constraints
  pub last : new.last.items ≡ old.last.items
  pub answers : new.answers.items ≡ old.answers.items
  pub budget : new.budget ≡ old.budget

-- It has gone to the block under a condition, which some statements follow.
pub record HasEntered (condition : Bor Condition) (rest : Bor (List (Statement Single CommandId StateId))) (old new : Walk) : Type 0 where
  pub scope : new.scope ≡ old.scope
  pub others : new.others ≡ old.others
  pub context : new.context.items ≡ old.context.items ++ Truth condition true ∷ []
  pub last : new.last.items ≡ old.last.items ++ NoWish rest ∷ []
  pub answers : new.answers.items ≡ old.answers.items
  pub budget : new.budget ≡ old.budget

-- It has come back from there.
pub record HasComeBack (old new : Walk) : Type 0 where
  pub scope : new.scope ≡ old.scope
  pub others : new.others ≡ old.others
  pub context : (constraints : List Constraint) (constraint : Constraint) → old.context.items ≡ constraints ++ constraint ∷ [] → new.context.items ≡ constraints
  pub last : (constraints : List Constraint) (constraint : Constraint) → old.last.items ≡ constraints ++ constraint ∷ [] → new.last.items ≡ constraints
  pub answers : new.answers.items ≡ old.answers.items
  pub budget : new.budget ≡ old.budget

-- The answers for some places are added, wherever they are.
abbrev pub Adds : (Here → Here → List Place) → Walk → Walk → Type 0
Adds places old new =
    (here later : Here) → IsHere here old.context.items → IsLater later old.last.items → (told : List Place)
    → AreAnswers old.scope told old.answers.items → AreAnswers old.scope (told ++ places here later) new.answers.items

-- Of a budget, a walk has left no more than there was, and an answer is undecided only if it is used up.
pub record IsPaidWalk (given : Budget) (walk : Walk) : Type 0 where
  pub spent : IsSpent given walk.budget
  pub undecided : Contains walk.answers.items answer.Undecided → IsUsedUp given walk.budget

-- That stays so, of whatever budget.
abbrev pub StaysPaid : Walk → Walk → Type 0
StaysPaid old new = (given : Budget) → IsPaidWalk given old → IsPaidWalk given new

-- It has walked over some places.
pub record Walked (places : Here → Here → List Place) (old new : Walk) : Type 0 where
  pub back : IsBack old new
  pub answers : Adds places old new
  pub paid : StaysPaid old new

-- The places of the first operands of a chain, or of several of them.
abbrev pub chain_places : Bool → Here → Condition → List Place
chain_places deciding here condition = own_place (is_chain deciding condition) here condition ++ operand_places here condition

-- It has walked over some operands of a chain, and is where they do not decide.
pub record IsInChain (deciding : Bool) (operands : Condition) (places : Here → Here → List Place) (old new : Walk) : Type 0 where
  pub scope : new.scope ≡ old.scope
  pub others : new.others ≡ old.others
  pub context : take (length old.context.items) new.context.items ≡ old.context.items
  pub longer : length old.context.items ≤ length new.context.items
  pub last : new.last.items ≡ old.last.items
  pub met : (facts : Facts) → meets_all new.context.items facts ≡ (meets_all old.context.items facts && is_signed (not deciding) (truth facts operands))
  pub answers : Adds places old new
  pub paid : StaysPaid old new

-- The places of a statement that these statements follow.
abbrev pub statement_places : Here → Here → List Here → Statement Single CommandId StateId → Block → List Place
statement_places here later others (Run command) rest = Command here ∷ []
statement_places here later others (SetState state) rest = Wish here (or_wish later rest) others ∷ []
statement_places here later others (If condition inner) rest = condition_places here condition ++ block_places (where_is true here condition) (or_wish later rest) others inner

-- A body is not held back here.
abbrev pub and_free : Here → Block → Here
and_free here body facts = here facts && where_free body facts

-- The places of a part here.
abbrev pub part_places_at : Here → Here → List Here → Handlers → List Place
part_places_at here later others part = block_places here later others part.init ++ block_places (and_free here part.body) later others part.body

-- The places of an always part and of states here.
abbrev pub policy_places_at : Here → Here → Handlers → List Handlers → List Place
policy_places_at here later always states = part_places_at here later (bodies_after_always states) always ++ flat_map (part_places_at here later nothing_after) states

-- A walk begins.
pub record IsStart (scope : Scope) (budget : Budget) (walk : Walk) : Type 0 where
  pub scope_is : walk.scope ≡ scope
  pub context : walk.context.items ≡ []
  pub last : walk.last.items ≡ []
  pub answers : walk.answers.items ≡ []
  pub budget_is : walk.budget ≡ budget

-- Whether something happens here while one of some bodies does not wish.
abbrev pub IsLastBefore : Scope → Here → List Here → Extent → Type 0
IsLastBefore scope here others Somewhere = Any (λ other. IsSomewhere scope (unless here other)) others
IsLastBefore scope here others Nowhere = All (λ other. IsNowhere scope (unless here other)) others
IsLastBefore scope here others Undecided = Unit {0}

-- The same before one more body.
abbrev pub GoesOn : Scope → List Constraint → Here → Extent → Extent → Type 0
GoesOn scope constraints other extent next =
    (here : Here) (others : List Here) → IsHere here constraints → IsLastBefore scope here others extent → IsLastBefore scope here (others ++ other ∷ []) next

-- Whether these constraints are met while one of some bodies does not wish.
abbrev pub IsLastOf : Scope → List Constraint → List Here → Extent → Type 0
IsLastOf scope constraints others extent = (here : Here) → IsHere here constraints → IsLastBefore scope here others extent
