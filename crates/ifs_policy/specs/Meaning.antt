-- The meaning of a policy's trees under facts: the truth of conditions, and the yield of blocks.
use Rattle.std.specs.Prelude.{Bool, true, false, not, ◌&&◌, ◌||◌, if◌then◌else◌, List}
use Rattle.std.specs.Prelude.{[], ◌∷◌, ◌++◌, Option, Some, None, slice_get, IsTrue}
use Rattle.std.specs.List.{list_any}
use Rattle.ifs_base.specs.Facts.{Facts, is_link}
use Rattle.ifs_base.specs.Effects.{Effects, nothing_yet, followed}
use Rattle.ifs_base.specs.declared.ids.TestId.{TestId}
use Rattle.ifs_base.specs.declared.op.LinkState.{LinkState}
use Rattle.ifs_base.specs.declared.ids.CommandId.{CommandId}
use Rattle.ifs_base.specs.declared.ids.StateId.{StateId}
use Rattle.ifs_parse.specs.Trees as tree
use Rattle.ifs_parse.specs.Trees.{Leaf, NotSo, And, Or, Done, RunThen, SetStateThen, IfThen}
use Rattle.ifs_policy.specs.declared.policy.Single.{Single}
use Rattle.ifs_policy.specs.declared.policy.Single.TheVariants.{LinkIs, TestIs}

-- A condition of single tests.
abbrev pub Condition : Type 0
Condition = tree.Condition Single

-- A block: commands to run, states to set, and blocks under conditions.
abbrev pub Block : Type 0
Block = tree.Block Single CommandId StateId

-- A known interface has this link state.
abbrev pub link_is : LinkState → Option LinkState → Bool
link_is state None = false
link_is state (Some now) = is_link now state

-- A test has the value true.
abbrev pub has_true : Option (Option Bool) → Bool
has_true (Some (Some value)) = value
has_true _ = false

-- A test has a value.
abbrev pub has_a_value : Option (Option Bool) → Bool
has_a_value (Some (Some value)) = true
has_a_value _ = false

-- A single test holds: an interface has the link state, or an external test has the value true.
abbrev pub holds : Facts → Single → Bool
holds facts (LinkIs interface state) = link_is state (slice_get facts.links interface.0)
holds facts (TestIs test) = has_true (slice_get facts.tests test.0)

-- The truth of a condition.
abbrev pub truth : Facts → Condition → Bool
truth facts (Leaf single) = holds facts single
truth facts (NotSo operand) = not (truth facts operand)
truth facts (And left right) = truth facts left && truth facts right
truth facts (Or left right) = truth facts left || truth facts right

-- An external test occurs in a condition: as the condition itself, or in an operand.
pub data OccursIn (test : TestId) : Condition → Type 0 where
  itself : OccursIn test (Leaf (TestIs test))
  negated : (operand : Condition) → OccursIn test operand → OccursIn test (NotSo operand)
  left_of_and : (left right : Condition) → OccursIn test left → OccursIn test (And left right)
  right_of_and : (left right : Condition) → OccursIn test right → OccursIn test (And left right)
  left_of_or : (left right : Condition) → OccursIn test left → OccursIn test (Or left right)
  right_of_or : (left right : Condition) → OccursIn test right → OccursIn test (Or left right)

-- A block mentions an external test, in one of its conditions or in a block inside it.
pub data Mentions (test : TestId) : Block → Type 0 where
  asked : (condition : Condition) (inner rest : Block) → OccursIn test condition → Mentions test (IfThen condition inner rest)
  inside : (condition : Condition) (inner rest : Block) → Mentions test inner → Mentions test (IfThen condition inner rest)
  behind_if : (condition : Condition) (inner rest : Block) → Mentions test rest → Mentions test (IfThen condition inner rest)
  behind_run : (command : CommandId) (rest : Block) → Mentions test rest → Mentions test (RunThen command rest)
  behind_set_state : (state : StateId) (rest : Block) → Mentions test rest → Mentions test (SetStateThen state rest)

-- What a block reaches: its commands in order, and the state of its last `set-state` as the wish.
abbrev pub reached : Facts → Block → Effects
reached facts Done = nothing_yet
reached facts (RunThen command rest) = followed (record { commands = command ∷ []; wish = None }) (reached facts rest)
reached facts (SetStateThen state rest) = followed (record { commands = []; wish = Some state }) (reached facts rest)
reached facts (IfThen condition inner rest) = followed (if truth facts condition then reached facts inner else nothing_yet) (reached facts rest)

-- A test has no value yet.
abbrev pub is_open : Facts → TestId → Bool
is_open facts test = not (has_a_value (slice_get facts.tests test.0))

-- A body is held back: it mentions a test without a value.
pub record IsHeld (facts : Facts) (body : Block) : Type 0 where
  pub test : TestId
  pub mentions : Mentions test body
  pub no_value : IsTrue (is_open facts test)

-- The external tests in a single test: one or none.
abbrev pub mentioned_here : Single → List TestId
mentioned_here (LinkIs interface state) = []
mentioned_here (TestIs test) = test ∷ []

-- The external tests in a condition, from the left.
abbrev pub mentioned_in : Condition → List TestId
mentioned_in (Leaf single) = mentioned_here single
mentioned_in (NotSo operand) = mentioned_in operand
mentioned_in (And left right) = mentioned_in left ++ mentioned_in right
mentioned_in (Or left right) = mentioned_in left ++ mentioned_in right

-- The external tests in a block, from the top.
abbrev pub mentioned : Block → List TestId
mentioned Done = []
mentioned (RunThen command rest) = mentioned rest
mentioned (SetStateThen state rest) = mentioned rest
mentioned (IfThen condition inner rest) = mentioned_in condition ++ (mentioned inner ++ mentioned rest)

-- A test in a body has no value, so the body is held back.
abbrev pub is_held : Facts → Block → Bool
is_held facts body = list_any (is_open facts) (mentioned body)

-- The yield of a body: nothing if it is held back, else what it reaches.
abbrev pub body_yield : Facts → Block → Effects
body_yield facts body = if is_held facts body then nothing_yet else reached facts body

-- The yield of an init, which is never held back.
abbrev pub init_yield : Facts → Block → Effects
init_yield facts init = reached facts init
