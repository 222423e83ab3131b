-- What a visitor has become once it has looked at the single tests of conditions and blocks, and which tests these mention.
use Rattle.std.specs.Prelude.{Bool, false, ◌==◌}
use Rattle.std.specs.List.{list_any}
use Rattle.ifs_base.specs.declared.ids.TestId.{TestId}
use Rattle.ifs_parse.specs.Trees.{Leaf, NotSo, And, Or, Done, RunThen, SetStateThen, IfThen}
use Rattle.ifs_policy.specs.Meaning.{Condition, Block, mentioned, mentioned_in}
use Rattle.ifs_policy.specs.declared.policy.Single.{Single}
use Rattle.ifs_policy.specs.declared.policy.Single.TheVariants.{LinkIs, TestIs}

-- After those of a condition, from the left.
abbrev pub after_condition : {V : Type 0} → (V → Single → V) → V → Condition → V
after_condition after v (Leaf single) = after v single
after_condition after v (NotSo operand) = after_condition after v operand
after_condition after v (And left right) = after_condition after (after_condition after v left) right
after_condition after v (Or left right) = after_condition after (after_condition after v left) right

-- After those of a block, from the top.
abbrev pub after_block : {V : Type 0} → (V → Single → V) → V → Block → V
after_block after v Done = v
after_block after v (RunThen command rest) = after_block after v rest
after_block after v (SetStateThen state rest) = after_block after v rest
after_block after v (IfThen condition inner rest) = after_block after (after_block after (after_condition after v condition) inner) rest

-- A single test is an external test that passes.
abbrev pub has_test : (TestId → Bool) → Single → Bool
has_test passes (LinkIs interface state) = false
has_test passes (TestIs test) = passes test

-- An external test is this one.
abbrev pub is_test : TestId → TestId → Bool
is_test test other = other.0 == test.0

-- An external test is among those in a condition.
abbrev pub mentions_in : TestId → Condition → Bool
mentions_in test condition = list_any (is_test test) (mentioned_in condition)

-- An external test is among those in a block.
abbrev pub mentions : TestId → Block → Bool
mentions test block = list_any (is_test test) (mentioned block)
