-- Searches for changes of the state that follow each other.
use Rattle.std.proofs.Common.{◌≡◌, ℕ, zero, suc, ◌+◌, ◌-◌, Bool, true, false, not, ◌&&◌, ◌||◌, List, [], ◌∷◌, ◌++◌, ◌<◌, length, Some, None, eqb, refl, sym, ap, ◌∙◌, subst, add-one, arith}
use Rattle.std.specs.Prelude.{is_some, slice_get}
use Rattle.std.specs.Borrow.{Bor}
use Rattle.std.proofs.lemmas.Bool.{eqb-true, eq-eqb}
use Rattle.ifs_base.specs.declared.ids.StateId.{StateId}
use Rattle.ifs_gen.specs.Trees.{Part, Policy}
use Rattle.ifs_base.specs.Facts.{Facts}
use Rattle.ifs_base.specs.declared.ids.CommandId.{CommandId}
use Rattle.ifs_parse.specs.Views.{block_of}
use Rattle.ifs_parse.specs.declared.block.Statement.{Statement}
use Rattle.ifs_policy.specs.declared.policy.Single.{Single}
use Rattle.ifs_policy.specs.Meaning.{Block, reached}
use Rattle.ifs_solver.specs.declared.constraints.Aim.TheVariants.{To}
use Rattle.ifs_solver.specs.declared.constraints.Constraint.{Constraint}
use Rattle.ifs_solver.specs.declared.constraints.Constraint.TheVariants.{Aims, NoWish}
use Rattle.ifs_solver.specs.declared.fact_sets.Scope.{Scope}
use Rattle.ifs_solver.specs.declared.searching.Extent.{Extent}
use Rattle.ifs_solver.specs.declared.searching.Extent.TheVariants.{Somewhere, Nowhere, Undecided}
use Rattle.ifs_solver.specs.Asking.{hits, meets_all, IsNowhere, IsExtentOf}
use Rattle.ifs_solver.specs.Places.{Here}
use Rattle.ifs_solver.specs.FactSets.{scope_of}
use Rattle.ifs_solver.proofs.Adding.{one_more_met}
use Rattle.ifs_claims.specs.Asked.{shares}
use Rattle.ifs_claims.specs.declared.changing.Goings.{Goings}
use Rattle.ifs_claims.specs.Changes.{part_hits, may_be_silent, could_move, any_below, could_change}
use Rattle.ifs_claims.specs.inner.Changing.{could_leave, could_start, where_far, where_led_far, where_wished_far}
use Rattle.ifs_claims.specs.inner.Going.{goes_on, where_goes, where_each, where_own, where_always, where_unless, where_over, where_own_if, where_always_if, where_leaves, where_starts, IsSame, IsSearchIn}
use Rattle.ifs_claims.specs.inner.Widening.{Widens}
use Rattle.ifs_claims.specs.inner.Setting.{sets, marks_of}
use Rattle.ifs_claims.proofs.Reached.{widens_agrees, widens_never, widens_then, and_nothing}
use Rattle.ifs_claims.proofs.Unset.{never_wished, unmarked}

-- Nothing more, where no facts pass, and where nothing is looked for.
pub widens_nowhere : (scope : Scope) (r : Here) (extent : Extent) → IsNowhere scope r → Widens scope r extent extent
widens_nowhere scope r Somewhere none test k = (k.0, k.1, ap (λ x. x || r k.0) k.2)
widens_nowhere scope r Nowhere none test k = λ facts are. ap (λ x. x || r facts) (k facts are) ∙ none facts are
widens_nowhere scope r Undecided none test k = tt

pub widens_decided : (scope : Scope) (r : Here) (extent : Extent) → (extent ≡ Nowhere → ⊥) → Widens scope r extent extent
widens_decided scope r Somewhere found test k = (k.0, k.1, ap (λ x. x || r k.0) k.2)
widens_decided scope r Nowhere found test k = absurd (found refl)
widens_decided scope r Undecided found test k = tt

and_true : (b : Bool) → (b && true) ≡ b
and_true true = refl
and_true false = refl

-- The end.
pub goes_last : (g : Goings) (left : ℕ) (state : StateId) (before after : Extent) → left ≡ 0 → Widens g.scope (meets_all g.context.items) before after → Widens g.scope (where_goes g left state) before after
goes_last g left state before after is h =
    subst (λ n. Widens g.scope (where_goes g n state) before after) (sym is) (widens_agrees g.scope (meets_all g.context.items) (where_goes g 0 state) before after (λ facts. and_true (meets_all g.context.items facts)) h)

-- No facts meet the constraints.
pub goes_nowhere : (g : Goings) (left : ℕ) (state : StateId) (met before : Extent) → met ≡ Nowhere → IsExtentOf g.scope (meets_all g.context.items) met → Widens g.scope (where_goes g left state) before before
goes_nowhere g left state met before is h =
    widens_nowhere g.scope (where_goes g left state) before (λ facts are. ap (λ x. x && goes_on g left state facts) (subst (IsExtentOf g.scope (meets_all g.context.items)) is h facts are))

-- One more constraint.
and_assoc : (a b c : Bool) → (a && (b && c)) ≡ ((a && b) && c)
and_assoc true b c = refl
and_assoc false b c = refl

pub over_goes : (g : Goings) (left next : ℕ) (body : Bor Block) (state : StateId) (constraints : List Constraint) (before after : Extent) → state ≡ record { 0 = next } → constraints ≡ g.context.items ++ Aims body (To state) ∷ []
    → Widens g.scope (λ facts. meets_all constraints facts && goes_on g left state facts) before after → Widens g.scope (where_over g left body.now next) before after
over_goes g left next body state constraints before after state_is constraints_is h =
    widens_agrees g.scope (λ facts. meets_all constraints facts && goes_on g left state facts) (where_over g left body.now next) before after
    (λ facts.
    ap (λ s. meets_all g.context.items facts && (hits (To s) (reached facts body.now).wish && goes_on g left s facts)) (sym state_is)
    ∙ and_assoc (meets_all g.context.items facts) (hits (To state) (reached facts body.now).wish) (goes_on g left state facts)
    ∙ ap (λ x. x && goes_on g left state facts) (sym (one_more_met g.context.items (Aims body (To state)) facts))
    ∙ ap (λ x. meets_all x facts && goes_on g left state facts) (sym constraints_is))
    h

-- A body that does not set the state.
pub over_unset : (g : Goings) (left next : ℕ) (body : Block) (before : Extent) → sets next body ≡ false → Widens g.scope (where_over g left body next) before before
over_unset g left next body before unset =
    widens_never g.scope (where_over g left body next) before
    (λ facts. ap (λ hit. meets_all g.context.items facts && (hit && goes_on g left (record { 0 = next }) facts)) (never_wished facts next body unset) ∙ and_nothing (meets_all g.context.items facts))

never_hit : (m s c : Bool) → (m && ((s && false) && c)) ≡ false
never_hit true true c = refl
never_hit true false c = refl
never_hit false s c = refl

pub always_unset : (g : Goings) (left next : ℕ) (state : StateId) (before : Extent) → sets next g.always.now ≡ false → Widens g.scope (where_always g left state next) before before
always_unset g left next state before unset =
    let there : StateId = record { 0 = next } in
    widens_never g.scope (where_always g left state next) before
    (λ facts.
    ap (λ hit. meets_all g.context.items facts && ((may_be_silent g.always.now facts (slice_get g.states.now state.0) && hit) && goes_on g left there facts)) (never_wished facts next g.always.now unset)
    ∙ never_hit (meets_all g.context.items facts) (may_be_silent g.always.now facts (slice_get g.states.now state.0)) (goes_on g left there facts))

-- The body of the state.
pub own_goes : (g : Goings) (left next : ℕ) (state : StateId) (part : Part) (before after : Extent) → slice_get g.states.now state.0 ≡ Some part → Widens g.scope (where_over g left part.body next) before after
    → Widens g.scope (where_own g left state next) before after
own_goes g left next state part before after at h =
    widens_agrees g.scope (where_over g left part.body next) (where_own g left state next) before after
    (λ facts. ap (λ o. meets_all g.context.items facts && (part_hits facts next o && goes_on g left (record { 0 = next }) facts)) at) h

pub own_nothing : (g : Goings) (left next : ℕ) (state : StateId) (before : Extent) → slice_get g.states.now state.0 ≡ None → Widens g.scope (where_own g left state next) before before
own_nothing g left next state before at =
    widens_never g.scope (where_own g left state next) before
    (λ facts. ap (λ o. meets_all g.context.items facts && (part_hits facts next o && goes_on g left (record { 0 = next }) facts)) at ∙ and_nothing (meets_all g.context.items facts))

-- Both bodies.
pub each_itself : (g : Goings) (left next : ℕ) (state : StateId) (before : Extent) → next ≡ state.0 → Widens g.scope (where_each g left state next) before before
each_itself g left next state before is =
    widens_never g.scope (where_each g left state next) before
    (λ facts.
    ap
    (λ c. meets_all g.context.items facts
    && ((not c && (part_hits facts next (slice_get g.states.now state.0) || (may_be_silent g.always.now facts (slice_get g.states.now state.0) && hits (To (record { 0 = next })) (reached facts g.always.now).wish))) && goes_on g left (record { 0 = next }) facts))
    (eq-eqb next state.0 is)
    ∙ and_nothing (meets_all g.context.items facts))

differ_eqb : (a b : ℕ) → (a ≡ b → ⊥) → eqb a b ≡ false
differ_eqb a b d = by_test (eqb a b) refl
  where
    by_test : (c : Bool) → eqb a b ≡ c → eqb a b ≡ false
    by_test true e = absurd (d (eqb-true a b e))
    by_test false e = e

spread : (m a b c : Bool) → (m && ((a || b) && c)) ≡ ((m && (a && c)) || (m && (b && c)))
spread false a b c = refl
spread true true true true = refl
spread true true true false = refl
spread true true false true = refl
spread true true false false = refl
spread true false b c = refl

and_four : (m s h c : Bool) → (m && ((s && h) && c)) ≡ ((m && s) && (h && c))
and_four true true h c = refl
and_four true false h c = refl
and_four false s h c = refl

-- The always body, while some statements wish for no state.
pub unless_goes : (g : Goings) (left next : ℕ) (statements : Bor (List (Statement Single CommandId StateId))) (constraints : List Constraint) (before after : Extent) → constraints ≡ g.context.items ++ NoWish statements ∷ []
    → Widens g.scope (λ facts. meets_all constraints facts && (hits (To (record { 0 = next })) (reached facts g.always.now).wish && goes_on g left (record { 0 = next }) facts)) before after
    → Widens g.scope (where_unless g left (block_of statements.now) next) before after
unless_goes g left next statements constraints before after is h =
    let there : StateId = record { 0 = next } in
    widens_agrees g.scope (λ facts. meets_all constraints facts && (hits (To there) (reached facts g.always.now).wish && goes_on g left there facts)) (where_unless g left (block_of statements.now) next) before after
    (λ facts.
    let rest = hits (To there) (reached facts g.always.now).wish && goes_on g left there facts in
    and_four (meets_all g.context.items facts) (not (is_some (reached facts (block_of statements.now)).wish)) (hits (To there) (reached facts g.always.now).wish) (goes_on g left there facts)
    ∙ ap (λ x. x && rest) (sym (one_more_met g.context.items (NoWish statements) facts)) ∙ ap (λ xs. meets_all xs facts && rest) (sym is))
    h

-- The body of the state has no test, or may be silent.
pub always_unless : (g : Goings) (left next : ℕ) (state : StateId) (part : Part) (block : Block) (before after : Extent) → slice_get g.states.now state.0 ≡ Some part → shares g.always.now part.body ≡ true → part.body ≡ block
    → Widens g.scope (where_unless g left block next) before after → Widens g.scope (where_always g left state next) before after
always_unless g left next state part block before after at bare is h =
    let there : StateId = record { 0 = next } in
    widens_agrees g.scope (where_unless g left block next) (where_always g left state next) before after
    (λ facts.
    ap (λ o. meets_all g.context.items facts && ((may_be_silent g.always.now facts o && hits (To there) (reached facts g.always.now).wish) && goes_on g left there facts)) at
    ∙ ap (λ b. meets_all g.context.items facts && (((not b || not (is_some (reached facts part.body).wish)) && hits (To there) (reached facts g.always.now).wish) && goes_on g left there facts)) bare
    ∙ ap (λ b. meets_all g.context.items facts && ((not (is_some (reached facts b).wish) && hits (To there) (reached facts g.always.now).wish) && goes_on g left there facts)) is)
    h

always_silent : (g : Goings) (left next : ℕ) (state : StateId) (before after : Extent) → ((facts : Facts) → may_be_silent g.always.now facts (slice_get g.states.now state.0) ≡ true) → Widens g.scope (where_over g left g.always.now next) before after
    → Widens g.scope (where_always g left state next) before after
always_silent g left next state before after silent h =
    let there : StateId = record { 0 = next } in
    widens_agrees g.scope (where_over g left g.always.now next) (where_always g left state next) before after
    (λ facts. ap (λ s. meets_all g.context.items facts && ((s && hits (To there) (reached facts g.always.now).wish) && goes_on g left there facts)) (silent facts)) h

pub always_tested : (g : Goings) (left next : ℕ) (state : StateId) (part : Part) (before after : Extent) → slice_get g.states.now state.0 ≡ Some part → shares g.always.now part.body ≡ false
    → Widens g.scope (where_over g left g.always.now next) before after → Widens g.scope (where_always g left state next) before after
always_tested g left next state part before after at tested h =
    always_silent g left next state before after (λ facts. ap (may_be_silent g.always.now facts) at ∙ ap (λ b. not b || not (is_some (reached facts part.body).wish)) tested) h

pub always_nowhere : (g : Goings) (left next : ℕ) (state : StateId) (before after : Extent) → slice_get g.states.now state.0 ≡ None → Widens g.scope (where_over g left g.always.now next) before after
    → Widens g.scope (where_always g left state next) before after
always_nowhere g left next state before after at h = always_silent g left next state before after (λ facts. ap (may_be_silent g.always.now facts) at) h

always_back : (a b : Goings) (left next : ℕ) (state : StateId) (x y : Extent) → IsSame a b → Widens b.scope (where_always b left state next) x y → Widens a.scope (where_always a left state next) x y
always_back a b left next state x y same w =
    subst (λ s. Widens s (where_always a left state next) x y) same.scope
    (widens_agrees b.scope (where_always b left state next) (where_always a left state next) x y
    (λ facts.
    let there : StateId = record { 0 = next } in
    ap (λ xs. meets_all xs facts && ((may_be_silent a.always.now facts (slice_get a.states.now state.0) && hits (To there) (reached facts a.always.now).wish) && could_change a.always.now a.states.now a.count facts left there)) (sym same.context)
    ∙ ap (λ z. meets_all b.context.items facts && ((may_be_silent z.now facts (slice_get a.states.now state.0) && hits (To there) (reached facts z.now).wish) && could_change z.now a.states.now a.count facts left there)) (sym same.always)
    ∙ ap (λ z. meets_all b.context.items facts && ((may_be_silent b.always.now facts (slice_get z.now state.0) && hits (To there) (reached facts b.always.now).wish) && could_change b.always.now z.now a.count facts left there)) (sym same.states)
    ∙ ap (λ z. meets_all b.context.items facts && ((may_be_silent b.always.now facts (slice_get b.states.now state.0) && hits (To there) (reached facts b.always.now).wish) && could_change b.always.now b.states.now z facts left there)) (sym same.count))
    w)

pub each_goes : (g mid : Goings) (left next : ℕ) (state : StateId) (before by_own after : Extent) → (next ≡ state.0 → ⊥) → IsSame g mid → Widens g.scope (where_own g left state next) before by_own
    → Widens mid.scope (where_always mid left state next) by_own after → Widens g.scope (where_each g left state next) before after
each_goes g mid left next state before by_own after differ back h k =
    let there : StateId = record { 0 = next } in
    widens_then g.scope (where_own g left state next) (where_always g left state next) (where_each g left state next) before by_own after
    (λ facts.
    let own = part_hits facts next (slice_get g.states.now state.0) in
    let always = may_be_silent g.always.now facts (slice_get g.states.now state.0) && hits (To there) (reached facts g.always.now).wish in
    ap (λ c. meets_all g.context.items facts && ((not c && (own || always)) && goes_on g left there facts)) (differ_eqb next state.0 differ)
    ∙ spread (meets_all g.context.items facts) own always (goes_on g left there facts))
    h (always_back g mid left next state by_own after back k)

-- The states so far.
abbrev pub where_below : Goings → ℕ → StateId → ℕ → Here
where_below g left state count facts = meets_all g.context.items facts && any_below (λ next. could_move g.always.now g.states.now facts state next && goes_on g left (record { 0 = next }) facts) count

pub below_none : (g : Goings) (left : ℕ) (state : StateId) (before : Extent) → Widens g.scope (where_below g left state 0) before before
below_none g left state before = widens_never g.scope (where_below g left state 0) before (λ facts. and_nothing (meets_all g.context.items facts))

each_back : (a b : Goings) (left next : ℕ) (state : StateId) (x y : Extent) → IsSame a b → Widens b.scope (where_each b left state next) x y → Widens a.scope (where_each a left state next) x y
each_back a b left next state x y same w =
    subst (λ s. Widens s (where_each a left state next) x y) same.scope
    (widens_agrees b.scope (where_each b left state next) (where_each a left state next) x y
    (λ facts.
    let there : StateId = record { 0 = next } in
    ap (λ xs. meets_all xs facts && (could_move a.always.now a.states.now facts state next && could_change a.always.now a.states.now a.count facts left there)) (sym same.context)
    ∙ ap (λ z. meets_all b.context.items facts && (could_move z.now a.states.now facts state next && could_change z.now a.states.now a.count facts left there)) (sym same.always)
    ∙ ap (λ z. meets_all b.context.items facts && (could_move b.always.now z.now facts state next && could_change b.always.now z.now a.count facts left there)) (sym same.states)
    ∙ ap (λ z. meets_all b.context.items facts && (could_move b.always.now b.states.now facts state next && could_change b.always.now b.states.now z facts left there)) (sym same.count))
    w)

and_or : (m a b : Bool) → (m && (a || b)) ≡ ((m && a) || (m && b))
and_or true a b = refl
and_or false a b = refl

pub below_more : (g now : Goings) (left next : ℕ) (state : StateId) (before extent after : Extent) → IsSame g now → Widens g.scope (where_below g left state next) before extent → Widens now.scope (where_each now left state next) extent after
    → Widens g.scope (where_below g left state (next + 1)) before after
below_more g now left next state before extent after back h k =
    subst (λ n. Widens g.scope (where_below g left state n) before after) (sym (add-one next))
    (widens_then g.scope (where_below g left state next) (where_each g left state next) (where_below g left state (suc next)) before extent after
    (λ facts.
    let test : ℕ → Bool = λ other. could_move g.always.now g.states.now facts state other && goes_on g left (record { 0 = other }) facts in
    and_or (meets_all g.context.items facts) (any_below test next) (test next))
    h (each_back g now left next state extent after back k))

pub same_still : (a : Goings) → IsSame a a
same_still a = record { scope = refl; always = refl; states = refl; count = refl; context = refl }

-- A state that no body sets.
pub below_unmarked : (g : Goings) (left next : ℕ) (state : StateId) (before extent : Extent) (marks : List Bool) → marks ≡ marks_of g.count g.always.now (slice_get g.states.now state.0) → next < g.count → slice_get marks next ≡ Some false
    → Widens g.scope (where_below g left state next) before extent → Widens g.scope (where_below g left state (next + 1)) before extent
below_unmarked g left next state before extent marks marks_are lt unset h =
    below_more g g left next state before extent extent (same_still g) h
    (widens_never g.scope (where_each g left state next) extent
    (λ facts.
    ap (λ move. meets_all g.context.items facts && (move && goes_on g left (record { 0 = next }) facts)) (unmarked facts g.count g.always.now g.states.now state next marks marks_are lt unset)
    ∙ and_nothing (meets_all g.context.items facts)))

less_one : (left : ℕ) → (left ≡ 0 → ⊥) → left ≡ suc (left - 1)
less_one zero differ = absurd (differ refl)
less_one (suc n) differ = omega arith

pub below_all : (g : Goings) (left less count : ℕ) (state : StateId) (before after : Extent) → (left ≡ 0 → ⊥) → less ≡ left - 1 → count ≡ g.count → Widens g.scope (where_below g less state count) before after
    → Widens g.scope (where_goes g left state) before after
below_all g left less count state before after differ less_is count_is h =
    subst (λ n. Widens g.scope (where_goes g n state) before after) (sym (less_one left differ ∙ ap suc (sym less_is)))
    (subst (λ n. Widens g.scope (where_below g less state n) before after) count_is h)

pub same_again : (a b c : Goings) → IsSame a b → IsSame b c → IsSame a c
same_again a b c h k = record { scope = k.scope ∙ h.scope; always = k.always ∙ h.always; states = k.states ∙ h.states; count = k.count ∙ h.count; context = k.context ∙ h.context }

-- A first change, each body by its leave.
pub own_leave : (own : Bool) (g : Goings) (left next : ℕ) (state : StateId) (before after : Extent) → own ≡ true → Widens g.scope (where_own g left state next) before after → Widens g.scope (where_own_if own g left state next) before after
own_leave own g left next state before after is h =
    widens_agrees g.scope (where_own g left state next) (where_own_if own g left state next) before after
    (λ facts. ap (λ b. meets_all g.context.items facts && ((b && part_hits facts next (slice_get g.states.now state.0)) && goes_on g left (record { 0 = next }) facts)) is) h

pub own_no_leave : (own : Bool) (g : Goings) (left next : ℕ) (state : StateId) (before : Extent) → own ≡ false → Widens g.scope (where_own_if own g left state next) before before
own_no_leave own g left next state before is =
    widens_never g.scope (where_own_if own g left state next) before
    (λ facts.
    ap (λ b. meets_all g.context.items facts && ((b && part_hits facts next (slice_get g.states.now state.0)) && goes_on g left (record { 0 = next }) facts)) is ∙ and_nothing (meets_all g.context.items facts))

pub always_leave : (held : Bool) (g : Goings) (left next : ℕ) (state : StateId) (before after : Extent) → held ≡ true → Widens g.scope (where_always g left state next) before after
    → Widens g.scope (where_always_if held g left state next) before after
always_leave held g left next state before after is h =
    let there : StateId = record { 0 = next } in
    widens_agrees g.scope (where_always g left state next) (where_always_if held g left state next) before after
    (λ facts.
    ap (λ b. meets_all g.context.items facts && ((b && (may_be_silent g.always.now facts (slice_get g.states.now state.0) && hits (To there) (reached facts g.always.now).wish)) && goes_on g left there facts)) is) h

pub always_no_leave : (held : Bool) (g : Goings) (left next : ℕ) (state : StateId) (before : Extent) → held ≡ false → Widens g.scope (where_always_if held g left state next) before before
always_no_leave held g left next state before is =
    let there : StateId = record { 0 = next } in
    widens_never g.scope (where_always_if held g left state next) before
    (λ facts.
    ap (λ b. meets_all g.context.items facts && ((b && (may_be_silent g.always.now facts (slice_get g.states.now state.0) && hits (To there) (reached facts g.always.now).wish)) && goes_on g left there facts)) is
    ∙ and_nothing (meets_all g.context.items facts))

always_if_back : (held : Bool) (a b : Goings) (left next : ℕ) (state : StateId) (x y : Extent) → IsSame a b → Widens b.scope (where_always_if held b left state next) x y → Widens a.scope (where_always_if held a left state next) x y
always_if_back held a b left next state x y same w =
    subst (λ s. Widens s (where_always_if held a left state next) x y) same.scope
    (widens_agrees b.scope (where_always_if held b left state next) (where_always_if held a left state next) x y
    (λ facts.
    let there : StateId = record { 0 = next } in
    ap (λ xs. meets_all xs facts && ((held && (may_be_silent a.always.now facts (slice_get a.states.now state.0) && hits (To there) (reached facts a.always.now).wish)) && could_change a.always.now a.states.now a.count facts left there)) (sym same.context)
    ∙ ap (λ z. meets_all b.context.items facts && ((held && (may_be_silent z.now facts (slice_get a.states.now state.0) && hits (To there) (reached facts z.now).wish)) && could_change z.now a.states.now a.count facts left there)) (sym same.always)
    ∙ ap (λ z. meets_all b.context.items facts && ((held && (may_be_silent b.always.now facts (slice_get z.now state.0) && hits (To there) (reached facts b.always.now).wish)) && could_change b.always.now z.now a.count facts left there)) (sym same.states)
    ∙ ap (λ z. meets_all b.context.items facts && ((held && (may_be_silent b.always.now facts (slice_get b.states.now state.0) && hits (To there) (reached facts b.always.now).wish)) && could_change b.always.now b.states.now z facts left there)) (sym same.count))
    w)

pub leave_itself : (own held : Bool) (g : Goings) (left next : ℕ) (state : StateId) (before : Extent) → next ≡ state.0 → Widens g.scope (where_leaves own held g left state next) before before
leave_itself own held g left next state before is =
    widens_never g.scope (where_leaves own held g left state next) before
    (λ facts.
    ap
    (λ c. meets_all g.context.items facts
    && ((not c
    && ((own && part_hits facts next (slice_get g.states.now state.0)) || (held && (may_be_silent g.always.now facts (slice_get g.states.now state.0) && hits (To (record { 0 = next })) (reached facts g.always.now).wish))))
    && goes_on g left (record { 0 = next }) facts))
    (eq-eqb next state.0 is)
    ∙ and_nothing (meets_all g.context.items facts))

pub leave_goes : (own held : Bool) (g mid : Goings) (left next : ℕ) (state : StateId) (before by_own after : Extent) → (next ≡ state.0 → ⊥) → IsSame g mid → Widens g.scope (where_own_if own g left state next) before by_own
    → Widens mid.scope (where_always_if held mid left state next) by_own after → Widens g.scope (where_leaves own held g left state next) before after
leave_goes own held g mid left next state before by_own after differ back h k =
    let there : StateId = record { 0 = next } in
    widens_then g.scope (where_own_if own g left state next) (where_always_if held g left state next) (where_leaves own held g left state next) before by_own after
    (λ facts.
    let one = own && part_hits facts next (slice_get g.states.now state.0) in
    let two = held && (may_be_silent g.always.now facts (slice_get g.states.now state.0) && hits (To there) (reached facts g.always.now).wish) in
    ap (λ c. meets_all g.context.items facts && ((not c && (one || two)) && goes_on g left there facts)) (differ_eqb next state.0 differ)
    ∙ spread (meets_all g.context.items facts) one two (goes_on g left there facts))
    h (always_if_back held g mid left next state by_own after back k)

pub starts_none : (own held : Bool) (g : Goings) (left : ℕ) (state : StateId) (before : Extent) → Widens g.scope (where_starts own held g left state 0) before before
starts_none own held g left state before = widens_never g.scope (where_starts own held g left state 0) before (λ facts. and_nothing (meets_all g.context.items facts))

leaves_back : (own held : Bool) (a b : Goings) (left next : ℕ) (state : StateId) (x y : Extent) → IsSame a b → Widens b.scope (where_leaves own held b left state next) x y → Widens a.scope (where_leaves own held a left state next) x y
leaves_back own held a b left next state x y same w =
    subst (λ s. Widens s (where_leaves own held a left state next) x y) same.scope
    (widens_agrees b.scope (where_leaves own held b left state next) (where_leaves own held a left state next) x y
    (λ facts.
    let there : StateId = record { 0 = next } in
    ap (λ xs. meets_all xs facts && (could_leave own held a.always.now a.states.now facts state next && could_change a.always.now a.states.now a.count facts left there)) (sym same.context)
    ∙ ap (λ z. meets_all b.context.items facts && (could_leave own held z.now a.states.now facts state next && could_change z.now a.states.now a.count facts left there)) (sym same.always)
    ∙ ap (λ z. meets_all b.context.items facts && (could_leave own held b.always.now z.now facts state next && could_change b.always.now z.now a.count facts left there)) (sym same.states)
    ∙ ap (λ z. meets_all b.context.items facts && (could_leave own held b.always.now b.states.now facts state next && could_change b.always.now b.states.now z facts left there)) (sym same.count))
    w)

pub starts_more : (own held : Bool) (g now : Goings) (left next : ℕ) (state : StateId) (before extent after : Extent) → IsSame g now → Widens g.scope (where_starts own held g left state next) before extent
    → Widens now.scope (where_leaves own held now left state next) extent after → Widens g.scope (where_starts own held g left state (next + 1)) before after
starts_more own held g now left next state before extent after back h k =
    subst (λ n. Widens g.scope (where_starts own held g left state n) before after) (sym (add-one next))
    (widens_then g.scope (where_starts own held g left state next) (where_leaves own held g left state next) (where_starts own held g left state (suc next)) before extent after
    (λ facts.
    let test : ℕ → Bool = λ other. could_leave own held g.always.now g.states.now facts state other && goes_on g left (record { 0 = other }) facts in
    and_or (meets_all g.context.items facts) (any_below test next) (test next))
    h (leaves_back own held g now left next state extent after back k))

pub starts_all : (own held : Bool) (g : Goings) (left count : ℕ) (state : StateId) (before after : Extent) → count ≡ g.count → Widens g.scope (where_starts own held g left state count) before after
    → Widens g.scope (where_starts own held g left state g.count) before after
starts_all own held g left count state before after is h = subst (λ n. Widens g.scope (where_starts own held g left state n) before after) is h

-- A search in a policy that demands nothing so far.
module _ (policy : Policy) (g : Goings) (is : IsSearchIn policy g) where
  begun : (P : Block → List Part → ℕ → Here) (extent : Extent) → Widens g.scope (λ facts. meets_all g.context.items facts && P g.always.now g.states.now g.count facts) Nowhere extent
      → IsExtentOf (scope_of policy) (P policy.always.body policy.states (length policy.states)) extent
  begun P extent h =
      subst (λ s. IsExtentOf s (P policy.always.body policy.states (length policy.states)) extent) is.scope
      (subst (λ n. IsExtentOf g.scope (P policy.always.body policy.states n) extent) is.count
      (subst (λ xs. IsExtentOf g.scope (P policy.always.body xs g.count) extent) is.states
      (subst (λ b. IsExtentOf g.scope (P b g.states.now g.count) extent) is.always
      (subst (λ xs. IsExtentOf g.scope (λ facts. meets_all xs facts && P g.always.now g.states.now g.count facts) extent) is.nothing (h (λ facts. false) (λ facts are. refl))))))

  pub begun_goes : (left : ℕ) (state : StateId) (extent : Extent) → Widens g.scope (where_goes g left state) Nowhere extent
      → IsExtentOf (scope_of policy) (λ facts. could_change policy.always.body policy.states (length policy.states) facts left state) extent
  begun_goes left state = begun (λ always states count facts. could_change always states count facts left state)

  pub begun_each : (left : ℕ) (state : StateId) (next : ℕ) (extent : Extent) → Widens g.scope (where_each g left state next) Nowhere extent
      → IsExtentOf (scope_of policy)
      (λ facts. could_move policy.always.body policy.states facts state next && could_change policy.always.body policy.states (length policy.states) facts left (record { 0 = next })) extent
  begun_each left state next = begun (λ always states count facts. could_move always states facts state next && could_change always states count facts left (record { 0 = next }))

  pub begun_over : (left next : ℕ) (body : Block) (extent : Extent) → body ≡ g.always.now → Widens g.scope (where_over g left body next) Nowhere extent
      → IsExtentOf (scope_of policy)
      (λ facts. hits (To (record { 0 = next })) (reached facts policy.always.body).wish && could_change policy.always.body policy.states (length policy.states) facts left (record { 0 = next })) extent
  begun_over left next body extent body_is h =
      begun (λ always states count facts. hits (To (record { 0 = next })) (reached facts always).wish && could_change always states count facts left (record { 0 = next })) extent
      (subst (λ b. Widens g.scope (where_over g left b next) Nowhere extent) body_is h)

  pub begun_starts : (own held : Bool) (left : ℕ) (state : StateId) (extent : Extent) → Widens g.scope (where_starts own held g left state g.count) Nowhere extent
      → IsExtentOf (scope_of policy) (λ facts. could_start own held policy.always.body policy.states (length policy.states) facts left state (length policy.states)) extent
  begun_starts own held left state = begun (λ always states count facts. could_start own held always states count facts left state count)

  pub far_said : (most left : ℕ) (state : StateId) (extent : Extent) → left ≡ suc most → Widens g.scope (where_goes g left state) Nowhere extent → IsExtentOf (scope_of policy) (where_far policy most state) extent
  far_said most left state extent is h =
      subst (λ n. IsExtentOf (scope_of policy) (λ facts. could_change policy.always.body policy.states (length policy.states) facts n state) extent) is (begun_goes left state extent h)

  pub led_far_said : (most left : ℕ) (state previous : StateId) (extent : Extent) → left ≡ suc most → Widens g.scope (where_each g left previous state.0) Nowhere extent
      → IsExtentOf (scope_of policy) (where_led_far policy most state previous) extent
  led_far_said most left state previous extent is h =
      subst (λ n. IsExtentOf (scope_of policy) (λ facts. could_move policy.always.body policy.states facts previous state.0 && could_change policy.always.body policy.states (length policy.states) facts n state) extent) is
      (begun_each left previous state.0 extent h)

  pub wished_far_said : (most left : ℕ) (state : StateId) (body : Block) (extent : Extent) → left ≡ suc most → body ≡ g.always.now → Widens g.scope (where_over g left body state.0) Nowhere extent
      → IsExtentOf (scope_of policy) (where_wished_far policy most state) extent
  wished_far_said most left state body extent is body_is h =
      subst (λ n. IsExtentOf (scope_of policy) (λ facts. hits (To state) (reached facts policy.always.body).wish && could_change policy.always.body policy.states (length policy.states) facts n state) extent) is
      (begun_over left state.0 body extent body_is h)

  pub starts_said : (own held : Bool) (most left : ℕ) (state : StateId) (extent : Extent) → left ≡ most → Widens g.scope (where_starts own held g left state g.count) Nowhere extent
      → IsExtentOf (scope_of policy) (λ facts. could_start own held policy.always.body policy.states (length policy.states) facts most state (length policy.states)) extent
  starts_said own held most left state extent is h =
      subst (λ n. IsExtentOf (scope_of policy) (λ facts. could_start own held policy.always.body policy.states (length policy.states) facts n state (length policy.states)) extent) is (begun_starts own held left state extent h)
