-- Evaluations of two bodies that lead to no other state, or to one.
use Rattle.std.specs.Prelude.{◌≡◌, not, ◌&&◌, Some, slice_get}
use Rattle.ifs_base.specs.Effects.{later_wish}
use Rattle.ifs_base.specs.declared.ids.StateId.{StateId}
use Rattle.ifs_gen.specs.Trees.{Part, Policy}
use Rattle.ifs_policy.specs.Meaning.{Block, body_yield, is_held}
use Rattle.ifs_solver.specs.declared.constraints.Aim.{Aim}
use Rattle.ifs_solver.specs.declared.constraints.Aim.TheVariants.{To, Off}
use Rattle.ifs_solver.specs.Asking.{Guard, is_met, hits}
use Rattle.ifs_solver.specs.Places.{Here}

-- These are the always body and the body of a state that the policy has.
pub record AreBodiesIn (policy : Policy) (state : StateId) (always own : Block) : Type 0 where
  pub always_is : always ≡ policy.always.body
  pub part : Part
  pub there : slice_get policy.states state.0 ≡ Some part
  pub own_is : own ≡ part.body

-- The last wish is for a state that is aimed at.
abbrev pub where_hit : Block → Block → Aim → Here
where_hit always own aim facts = hits aim (later_wish (body_yield facts always).wish (body_yield facts own).wish)

-- The bodies lead from a state to no other one while a guard is met.
abbrev pub where_resting : Block → Block → StateId → Guard → Here
where_resting always own state guard facts = not (where_hit always own (Off state) facts) && is_met facts guard

-- The last wish is for a state, while a guard is met.
abbrev pub where_moving : Block → Block → StateId → Guard → Here
where_moving always own next guard facts = where_hit always own (To next) facts && is_met facts guard

-- They stay while neither body is held back.
abbrev pub where_settled : Block → Block → StateId → Guard → Here
where_settled always own state guard facts =
    (not (is_held facts always) && not (is_held facts own)) && where_resting always own state guard facts
