-- Conditions and bodies under the facts of a core.
use Rattle.std.specs.Prelude.{ℕ, ◌==◌, ◌||◌, ◌&&◌, Bool, true, false, Option, None, Some, is_some, if◌then◌else◌}
use Rattle.ifs_base.specs.declared.ids.IfaceId.{IfaceId}
use Rattle.ifs_base.specs.declared.op.LinkState.{LinkState}
use Rattle.ifs_core.specs.declared.step.Step.{Step}
use Rattle.ifs_core.specs.declared.step.Step.TheVariants.{Link, Finished, Tick, Take}
use Rattle.ifs_parse.specs.declared.condition.Node.{Node}
use Rattle.ifs_parse.specs.declared.condition.Node.TheVariants as node
use Rattle.ifs_policy.specs.declared.policy.Single.{Single}
use Rattle.ifs_policy.specs.declared.policy.Single.TheVariants.{LinkIs, TestIs}

-- What a step reports of an interface, or else the link state before.
abbrev pub link_over : Step → ℕ → Option LinkState → Option LinkState
link_over (Link other link) interface before = if other.0 == interface && is_some before then Some link else before
link_over (Finished test run value) interface before = before
link_over (Tick now) interface before = before
link_over Take interface before = before

-- What a step reports of a test, or else the value before.
abbrev pub value_over : Step → ℕ → Option (Option Bool) → Option (Option Bool)
value_over (Finished other run value) test before = if other.0 == test && is_some before then Some (Some value) else before
value_over (Link interface link) test before = before
value_over (Tick now) test before = before
value_over Take test before = before

-- Whether one true operand decides a node: it does for `||`.
abbrev pub decides : Node Single → Bool
decides (node.Any first second rest) = true
decides (node.Leaf single) = false
decides (node.Not operand) = false
decides (node.All first second rest) = false

-- Two truths joined by `||`, or by `&&`.
abbrev pub joined_truth : Bool → Bool → Bool → Bool
joined_truth true left right = left || right
joined_truth false left right = left && right

-- A single test is of the link of an interface, or of any link.
abbrev pub is_of_link : Option IfaceId → Single → Bool
is_of_link None (LinkIs interface state) = true
is_of_link (Some other) (LinkIs interface state) = other.0 == interface.0
is_of_link other (TestIs test) = false
