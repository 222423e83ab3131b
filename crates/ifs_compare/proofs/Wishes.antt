-- The wishes of a policy are for states that it has.
use Rattle.std.proofs.Common.{◌≡◌, ℕ, ◌<◌, Bool, true, false, length, eqb, Option, Some, None, refl, sym, ◌∙◌, subst, arith}
use Rattle.std.specs.Prelude.{slice_get, if◌then◌else◌}
use Rattle.std.proofs.lemmas.Option.{none-some, same_Some, get_or_from_slice_get, slice_get_within}
use Rattle.ifs_base.specs.Facts.{Facts}
use Rattle.ifs_base.specs.Effects.{Effects, nothing_yet, followed, later_wish}
use Rattle.ifs_base.specs.declared.ids.StateId.{StateId}
use Rattle.ifs_parse.specs.Trees.{Done, RunThen, SetStateThen, IfThen}
use Rattle.ifs_core.specs.Event.{change_of}
use Rattle.ifs_gen.specs.Trees.{Part, Policy}
use Rattle.ifs_gen.specs.Events.{yield_in}
use Rattle.ifs_policy.specs.Fits.{Sizes, sizes_of, BlockFits, HandlersFit, PolicyFits}
use Rattle.ifs_policy.specs.Meaning.{Block, truth, reached, is_held, body_yield}
use Rattle.ifs_solver.specs.Reaching.{settled}

later_fits : (n : ℕ) (before after : Option StateId) (next : StateId) → (before ≡ Some next → next.0 < n) → (after ≡ Some next → next.0 < n) → later_wish before after ≡ Some next → next.0 < n
later_fits n before None next f g e = f e
later_fits n before (Some state) next f g e = g e

chosen_fits : (n : ℕ) (c : Bool) (effects : Effects) (next : StateId) → (effects.wish ≡ Some next → next.0 < n) → (if c then effects else nothing_yet).wish ≡ Some next → next.0 < n
chosen_fits n true effects next f e = f e
chosen_fits n false effects next f e = absurd (none-some next e)

held_fits : (n : ℕ) (c : Bool) (effects : Effects) (next : StateId) → (effects.wish ≡ Some next → next.0 < n) → (if c then nothing_yet else effects).wish ≡ Some next → next.0 < n
held_fits n true effects next f e = absurd (none-some next e)
held_fits n false effects next f e = f e

no_before : (after : Option StateId) → later_wish None after ≡ after
no_before None = refl
no_before (Some state) = refl

reached_fits : (sizes : Sizes) (facts : Facts) (block : Block) (next : StateId) → BlockFits sizes block → (reached facts block).wish ≡ Some next → next.0 < sizes.states
reached_fits sizes facts Done next fits e = absurd (none-some next e)
reached_fits sizes facts (RunThen command rest) next fits e = reached_fits sizes facts rest next fits.1 (sym (no_before (reached facts rest).wish) ∙ e)
reached_fits sizes facts (SetStateThen state rest) next fits e =
    later_fits sizes.states (Some state) (reached facts rest).wish next (λ h. subst (λ s. s.0 < sizes.states) (same_Some state next h) fits.0) (λ h. reached_fits sizes facts rest next fits.1 h) e
reached_fits sizes facts (IfThen condition inner rest) next fits e =
    later_fits sizes.states (if truth facts condition then reached facts inner else nothing_yet).wish (reached facts rest).wish next
    (λ h. chosen_fits sizes.states (truth facts condition) (reached facts inner) next (λ k. reached_fits sizes facts inner next fits.1 k) h) (λ h. reached_fits sizes facts rest next fits.2 h) e

yield_fits : (sizes : Sizes) (facts : Facts) (body : Block) (next : StateId) → BlockFits sizes body → (body_yield facts body).wish ≡ Some next → next.0 < sizes.states
yield_fits sizes facts body next fits e = held_fits sizes.states (is_held facts body) (reached facts body) next (λ h. reached_fits sizes facts body next fits h) e

own_fits : (policy : Policy) (facts : Facts) (state next : StateId) (o : Option Part) → PolicyFits policy → slice_get policy.states state.0 ≡ o → (yield_in (λ part. body_yield facts part.body) o).wish ≡ Some next
    → next.0 < length policy.tables.states
own_fits policy facts state next None fits at e = absurd (none-some next e)
own_fits policy facts state next (Some part) fits at e =
    let within = slice_get_within policy.states state.0 part at in
    let there = subst (HandlersFit (sizes_of policy.tables)) (get_or_from_slice_get policy.states state.0 part part at) (fits.states state.0 part within) in
    yield_fits (sizes_of policy.tables) facts part.body next there.body e

-- Where an evaluation leads is its wish.
leads_wish : (state next : StateId) (wish : Option StateId) → change_of state wish ≡ Some next → wish ≡ Some next
leads_wish state next None e = absurd (none-some next e)
leads_wish state next (Some other) e = changed (eqb other.0 state.0) e
  where
    changed : (c : Bool) → (if c then None else Some other) ≡ Some next → Some other ≡ Some next
    changed true h = absurd (none-some next h)
    changed false h = h

pub leads_within : (policy : Policy) (facts : Facts) (state next : StateId) → PolicyFits policy
    → (settled state (followed (body_yield facts policy.always.body) (yield_in (λ part. body_yield facts part.body) (slice_get policy.states state.0)))).wish ≡ Some next → next.0 < length policy.states
leads_within policy facts state next fits e =
    let own = yield_in (λ part. body_yield facts part.body) (slice_get policy.states state.0) in
    let below =
    later_fits (length policy.tables.states) (body_yield facts policy.always.body).wish own.wish next (λ h. yield_fits (sizes_of policy.tables) facts policy.always.body next fits.always.body h)
    (λ h. own_fits policy facts state next (slice_get policy.states state.0) fits refl h) (leads_wish state next (later_wish (body_yield facts policy.always.body).wish own.wish) e) in
    let count = fits.count in
    omega (arith, below, count)
