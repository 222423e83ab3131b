-- Facts under which one change of the state follows another.
use Rattle.std.specs.Prelude.{ℕ, ◌≡◌, Bool, ◌&&◌, not, is_some, [], length, slice_get}
use Rattle.ifs_base.specs.declared.ids.StateId.{StateId}
use Rattle.ifs_policy.specs.Meaning.{Block, reached}
use Rattle.ifs_solver.specs.declared.constraints.Aim.TheVariants.{To}
use Rattle.ifs_solver.specs.Asking.{hits, meets_all}
use Rattle.ifs_gen.specs.Trees.{Policy}
use Rattle.ifs_solver.specs.Places.{Here}
use Rattle.ifs_solver.specs.FactSets.{scope_of}
use Rattle.ifs_claims.specs.Changes.{part_hits, may_be_silent, could_move, could_change}
use Rattle.ifs_claims.specs.inner.Changing.{could_leave, could_start}
use Rattle.ifs_claims.specs.declared.changing.Goings.{Goings}

-- From a state the policy could go on so often.
abbrev pub goes_on : Goings → ℕ → StateId → Here
goes_on g left state facts = could_change g.always.now g.states.now g.count facts left state

-- Facts meet the constraints so far, and the policy could go on from a state.
abbrev pub where_goes : Goings → ℕ → StateId → Here
where_goes g left state facts = meets_all g.context.items facts && goes_on g left state facts

-- The same from one state to another: by any body, by that of the state, by the always body, and by a given one.
abbrev pub where_each : Goings → ℕ → StateId → ℕ → Here
where_each g left state next facts = meets_all g.context.items facts && (could_move g.always.now g.states.now facts state next && goes_on g left (record { 0 = next }) facts)

abbrev pub where_own : Goings → ℕ → StateId → ℕ → Here
where_own g left state next facts = meets_all g.context.items facts && (part_hits facts next (slice_get g.states.now state.0) && goes_on g left (record { 0 = next }) facts)

abbrev pub where_always : Goings → ℕ → StateId → ℕ → Here
where_always g left state next facts =
    meets_all g.context.items facts && ((may_be_silent g.always.now facts (slice_get g.states.now state.0) && hits (To (record { 0 = next })) (reached facts g.always.now).wish) && goes_on g left (record { 0 = next }) facts)

-- The always body wishes for it, while some statements wish for none.
abbrev pub where_unless : Goings → ℕ → Block → ℕ → Here
where_unless g left block next facts =
    meets_all g.context.items facts && ((not (is_some (reached facts block).wish) && hits (To (record { 0 = next })) (reached facts g.always.now).wish) && goes_on g left (record { 0 = next }) facts)

abbrev pub where_over : Goings → ℕ → Block → ℕ → Here
where_over g left body next facts = meets_all g.context.items facts && (hits (To (record { 0 = next })) (reached facts body).wish && goes_on g left (record { 0 = next }) facts)

-- The same from a state that is left first, by its body if it is given leave to, and by the always body alike.
abbrev pub where_own_if : Bool → Goings → ℕ → StateId → ℕ → Here
where_own_if own g left state next facts = meets_all g.context.items facts && ((own && part_hits facts next (slice_get g.states.now state.0)) && goes_on g left (record { 0 = next }) facts)

abbrev pub where_always_if : Bool → Goings → ℕ → StateId → ℕ → Here
where_always_if held g left state next facts =
    meets_all g.context.items facts
    && ((held && (may_be_silent g.always.now facts (slice_get g.states.now state.0) && hits (To (record { 0 = next })) (reached facts g.always.now).wish)) && goes_on g left (record { 0 = next }) facts)

abbrev pub where_leaves : Bool → Bool → Goings → ℕ → StateId → ℕ → Here
where_leaves own held g left state next facts = meets_all g.context.items facts && (could_leave own held g.always.now g.states.now facts state next && goes_on g left (record { 0 = next }) facts)

abbrev pub where_starts : Bool → Bool → Goings → ℕ → StateId → ℕ → Here
where_starts own held g left state others facts = meets_all g.context.items facts && could_start own held g.always.now g.states.now g.count facts left state others

-- A search is where it was.
pub record IsSame (old new : Goings) : Type 0 where
  pub scope : new.scope ≡ old.scope
  pub always : new.always ≡ old.always
  pub states : new.states ≡ old.states
  pub count : new.count ≡ old.count
  pub context : new.context.items ≡ old.context.items

-- A search in a policy that demands nothing so far.
pub record IsSearchIn (policy : Policy) (g : Goings) : Type 0 where
  pub scope : g.scope ≡ scope_of policy
  pub always : g.always.now ≡ policy.always.body
  pub states : g.states.now ≡ policy.states
  pub count : g.count ≡ length policy.states
  pub nothing : g.context.items ≡ []
