-- The places of a policy that are judged, and what is said of each.
use Rattle.std.specs.Prelude.{Bool, true, false, not, ◌&&◌, ◌||◌, List, [], ◌∷◌, ◌++◌, map, is_some, All, Any, ℕ, ◌≢◌, ◌≡◌, slice_get, Some}
use Rattle.std.specs.List.{flat_map, AllZip}
use Rattle.ifs_base.specs.Facts.{Facts}
use Rattle.ifs_parse.specs.Trees.{Leaf, NotSo, And, Or, Done, RunThen, SetStateThen, IfThen}
use Rattle.ifs_policy.specs.Meaning.{Condition, Block, truth, is_held, reached, body_yield}
use Rattle.ifs_policy.specs.declared.policy.Handlers.{Handlers}
use Rattle.ifs_policy.specs.declared.policy.PolicyParts.{PolicyParts}
use Rattle.ifs_solver.specs.declared.answers.Answer.{Answer}
use Rattle.ifs_solver.specs.declared.answers.Answer.TheVariants.{Unreached, Skipped, Never, Always, Overruled, Used, Undecided}
use Rattle.ifs_solver.specs.declared.fact_sets.Scope.{Scope}
use Rattle.ifs_solver.specs.Asking.{is_signed, IsSomewhere, IsNowhere}

-- The facts under which something happens in an evaluation.
abbrev pub Here : Type 0
Here = Facts → Bool

-- A place, with the facts under which an evaluation comes to it.
pub data Place : Type 0 where
  -- The condition of an `if`, or an operand of `&&` or `||`.
  Test : Here → Condition → Place
  -- A `run`.
  Command : Here → Place
  -- A `set-state`, with the facts under which its body wishes later, and those under which each body that may follow does.
  Wish : Here → Here → List Here → Place

-- There, a condition has this truth.
abbrev pub where_is : Bool → Here → Condition → Here
where_is sign here condition facts = here facts && is_signed sign (truth facts condition)

-- A block or what comes after it reaches a `set-state`.
abbrev pub or_wish : Here → Block → Here
or_wish later block facts = is_some (reached facts block).wish || later facts

-- A condition is a chain of `&&`, or of `||`.
abbrev pub is_chain : Bool → Condition → Bool
is_chain false (And left right) = true
is_chain true (Or left right) = true
is_chain deciding condition = false

-- The place of the first operands of a chain, unless they are several.
abbrev pub own_place : Bool → Here → Condition → List Place
own_place true here condition = []
own_place false here condition = Test here condition ∷ []

-- The places of the operands in a condition. An operand is evaluated if those before it are true under `&&`, and false under `||`.
abbrev pub operand_places : Here → Condition → List Place
operand_places here (Leaf single) = []
operand_places here (NotSo operand) = operand_places here operand
operand_places here (And left right) =
    (own_place (is_chain false left) here left ++ operand_places here left) ++ (Test (where_is true here left) right ∷ operand_places (where_is true here left) right)
operand_places here (Or left right) =
    (own_place (is_chain true left) here left ++ operand_places here left) ++ (Test (where_is false here left) right ∷ operand_places (where_is false here left) right)

-- The places of a condition: itself, and its operands.
abbrev pub condition_places : Here → Condition → List Place
condition_places here condition = Test here condition ∷ operand_places here condition

-- The places of a block, in text order.
abbrev pub block_places : Here → Here → List Here → Block → List Place
block_places here later others Done = []
block_places here later others (RunThen command rest) = Command here ∷ block_places here later others rest
block_places here later others (SetStateThen state rest) = Wish here (or_wish later rest) others ∷ block_places here later others rest
block_places here later others (IfThen condition inner rest) =
    (condition_places here condition ++ block_places (where_is true here condition) (or_wish later rest) others inner) ++ block_places here later others rest

-- Under all facts.
abbrev pub always_here : Here
always_here facts = true

-- Under none.
abbrev pub never_here : Here
never_here facts = false

-- A body is not held back.
abbrev pub where_free : Block → Here
where_free body facts = not (is_held facts body)

-- A body wishes for a state.
abbrev pub where_wishing : Block → Here
where_wishing body facts = is_some (body_yield facts body).wish

-- The places of a part: those of its init, and those of its body, which is evaluated unless it is held back.
abbrev pub part_places : List Here → Handlers → List Place
part_places others part = block_places always_here never_here others part.init ++ block_places (where_free part.body) never_here others part.body

-- The bodies that may follow the always body: that of any state.
abbrev pub bodies_after_always : List Handlers → List Here
bodies_after_always states = map (λ part. where_wishing part.body) states

-- No body follows.
abbrev pub nothing_after : List Here
nothing_after = never_here ∷ []

-- The places of a policy: those of the always part, and those of each state.
abbrev pub places_of : PolicyParts → List Place
places_of policy = part_places (bodies_after_always policy.states) policy.always ++ flat_map (part_places nothing_after) policy.states

-- Something happens here, and something else does not.
abbrev pub unless : Here → Here → Here
unless here other facts = here facts && not (other facts)

-- An answer is right for a place. No facts lead there; some do, and the condition is never or always true there; or a later `set-state` is always reached too. Otherwise the condition has both truths there, the command runs, or the wish is the last one, under some facts.
abbrev pub IsAnswerOf : Scope → Place → Answer → Type 0
IsAnswerOf scope (Test here condition) Skipped = IsNowhere scope here
IsAnswerOf scope (Test here condition) Unreached = ⊥
IsAnswerOf scope (Test here condition) Never = IsSomewhere scope here × IsNowhere scope (where_is true here condition)
IsAnswerOf scope (Test here condition) Always = IsSomewhere scope here × IsNowhere scope (where_is false here condition)
IsAnswerOf scope (Test here condition) Used = IsSomewhere scope (where_is true here condition) × IsSomewhere scope (where_is false here condition)
IsAnswerOf scope (Test here condition) Overruled = ⊥
IsAnswerOf scope (Command here) Unreached = IsNowhere scope here
IsAnswerOf scope (Command here) Skipped = ⊥
IsAnswerOf scope (Command here) Used = IsSomewhere scope here
IsAnswerOf scope (Command here) Never = ⊥
IsAnswerOf scope (Command here) Always = ⊥
IsAnswerOf scope (Command here) Overruled = ⊥
IsAnswerOf scope (Wish here later others) Unreached = IsNowhere scope here
IsAnswerOf scope (Wish here later others) Skipped = ⊥
IsAnswerOf scope (Wish here later others) Overruled = IsSomewhere scope here × All (λ other. IsNowhere scope (unless (unless here later) other)) others
IsAnswerOf scope (Wish here later others) Used = Any (λ other. IsSomewhere scope (unless (unless here later) other)) others
IsAnswerOf scope (Wish here later others) Never = ⊥
IsAnswerOf scope (Wish here later others) Always = ⊥
IsAnswerOf scope place Undecided = Unit {0}

-- Each place has its answer, in order.
abbrev pub AreAnswers : Scope → List Place → List Answer → Type 0
AreAnswers scope places answers = AllZip (IsAnswerOf scope) places answers

-- At most one answer for a place is right, apart from what is undecided.
abbrev pub OneAnswer : Type 0
OneAnswer = (scope : Scope) (place : Place) (answer other : Answer) → IsAnswerOf scope place answer → IsAnswerOf scope place other → answer ≢ Undecided → other ≢ Undecided → answer ≡ other

-- What is true of a place is its answer, unless that is undecided.
abbrev pub NoneIsMissed : Type 0
NoneIsMissed =
    (scope : Scope) (places : List Place) (answers : List Answer) → AreAnswers scope places answers → (k : ℕ) (place : Place) (answer finding : Answer) → slice_get places k ≡ Some place
    → slice_get answers k ≡ Some answer → answer ≢ Undecided → IsAnswerOf scope place finding → finding ≢ Undecided → answer ≡ finding
