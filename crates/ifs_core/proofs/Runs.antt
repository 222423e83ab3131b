-- Handlers one after the other: their room for commands, and their behaviour.
use Rattle.std.proofs.Common.{◌≡◌, ℕ, ◌+◌, ◌≤◌, ◌<◌, List, [], ◌++◌, length, Option, Some, slice_get}
use Rattle.std.proofs.Common.{sym, ap, subst, ◌∙◌, arith, length-append, option_map, inl, inr}
use Rattle.std.specs.Prelude.{All, IfSome}
use Rattle.std.proofs.lemmas.List.Elements.{All-append, All-nil}
use Rattle.std.proofs.lemmas.Option.{same_Some}
use Rattle.ifs_base.specs.Facts.{Facts}
use Rattle.ifs_base.specs.declared.ids.CommandId.{CommandId}
use Rattle.ifs_base.specs.declared.ids.StateId.{StateId}
use Rattle.ifs_image.specs.declared.parts.StateSpec.{StateSpec}
use Rattle.ifs_image.specs.declared.parts.ImageParts.{ImageParts}
use Rattle.ifs_verify.specs.Accepted.{IsAccepted}
use Rattle.ifs_verify.specs.Bounds.{AreAmounts, commands_of}
use Rattle.ifs_base.specs.Effects.{Effects, nothing_yet, followed}
use Rattle.ifs_machine.specs.Run.{RunsTo, AreFactsOf, HasRoom, Appends, IsCommand, IsWish, IsCostOf}
use Rattle.ifs_core.specs.Event.{Handler, Init, Body, Behaviour}
use Rattle.ifs_core.specs.Machine.{routine_of, IsBehaviour, KeepsBudgets}
use Rattle.ifs_core.specs.inner.Within.{AreEffectsOf, RanBodies, RanInit}

-- The run of a handler is that of each behaviour of the image.
pub one_run : (image : ImageParts) (b : Behaviour) (handler : Handler) (routine : ℕ) (facts : Facts) (before : Effects) (cost : ℕ) (end : Effects)
    → IsBehaviour image b → routine_of image handler ≡ Some routine → AreFactsOf image facts → HasRoom image routine (length before.commands)
    → ((paid : ℕ) (other : Effects) → RunsTo image facts routine before paid other → (paid ≡ cost) × (other ≡ end))
    → (end ≡ followed before (b.answer handler facts)) × (cost ≡ b.cost handler facts)
one_run image b handler routine facts before cost end is at facts_fit room only =
    let found = only (b.cost handler facts) (followed before (b.answer handler facts)) (is.runs handler routine facts before at facts_fit room) in
    (sym found.1, sym found.0)

-- Room for the always body, which comes first.
pub room_for_always_body : (image : ImageParts) (k : ℕ) (state : StateSpec) (queued : ℕ) → IsAccepted image → slice_get image.states k ≡ Some state
    → queued ≡ 0 → HasRoom image image.always.body.0 queued
room_for_always_body image k state queued accepted at none =
    let fit = accepted.commands in
    (fit.0, fit.1, omega (arith, fit.3.evaluation k k state state at at))

-- Room for a state's body after the always body.
pub room_for_body : (image : ImageParts) (k : ℕ) (state : StateSpec) (before mid : List CommandId) → IsAccepted image → slice_get image.states k ≡ Some state
    → length before ≡ 0 → Appends image image.always.body.0 before mid → HasRoom image state.handlers.body.0 (length mid)
room_for_body image k state before mid accepted at none appends =
    let fit = accepted.commands in
    let count = appends.count fit.0 fit.1 in
    let long : length mid ≡ length before + length appends.some = ap length appends.appended ∙ length-append before appends.some in
    (fit.0, fit.1, omega (arith, fit.3.evaluation k k state state at at))

-- The routines of a state's body and init.
pub body_of : (image : ImageParts) (k : ℕ) (state : StateSpec) → slice_get image.states k ≡ Some state → routine_of image (Body k) ≡ Some state.handlers.body.0
body_of image k state at = ap (option_map (λ (s : StateSpec). s.handlers.body.0)) at

pub init_of : (image : ImageParts) (k : ℕ) (state : StateSpec) → slice_get image.states k ≡ Some state → routine_of image (Init k) ≡ Some state.handlers.init.0
init_of image k state at = ap (option_map (λ (s : StateSpec). s.handlers.init.0)) at

-- Two handlers, one after the other.
pub two_runs : (image : ImageParts) (b : Behaviour) (h g : Handler) (facts : Facts) (r q : ℕ) (before mid end : Effects) (first second : ℕ)
    → IsBehaviour image b → routine_of image h ≡ Some r → routine_of image g ≡ Some q → AreFactsOf image facts
    → HasRoom image r (length before.commands) → HasRoom image q (length mid.commands)
    → ((paid : ℕ) (other : Effects) → RunsTo image facts r before paid other → (paid ≡ first) × (other ≡ mid))
    → ((paid : ℕ) (other : Effects) → RunsTo image facts q mid paid other → (paid ≡ second) × (other ≡ end))
    → before ≡ nothing_yet
    → (end ≡ followed (followed nothing_yet (b.answer h facts)) (b.answer g facts)) × (first + second ≡ b.cost h facts + b.cost g facts)
two_runs image b h g facts r q before mid end first second is at_r at_q fit room_r room_q only_r only_q start =
    let one = one_run image b h r facts before first mid is at_r fit room_r only_r in
    let two = one_run image b g q facts mid second end is at_q fit room_q only_q in
    let middle : mid ≡ followed nothing_yet (b.answer h facts) = one.0 ∙ ap (λ (e : Effects). followed e (b.answer h facts)) start in
    (two.0 ∙ ap (λ (e : Effects). followed e (b.answer g facts)) middle, omega (arith, one.1, two.1))

-- A wish stays one for a state of the list.
wish_after : (image : ImageParts) (before end : Option StateId) → IfSome before (λ state. state.0 < length image.states) → IsWish image before end → IfSome end (λ state. state.0 < length image.states)
wish_after image before end known wish =
    elim wish [
      | inl same ↦ subst (λ (w : Option StateId). IfSome w (λ state. state.0 < length image.states)) (sym same) known
      | inr set ↦ subst (λ (w : Option StateId). IfSome w (λ state. state.0 < length image.states)) (sym set.1) set.2
    ]

-- The effects of a handler are those of the image.
pub effects_after : (image : ImageParts) (routine : ℕ) (before end : Effects) → AreEffectsOf image before → Appends image routine before.commands end.commands
    → IsWish image before.wish end.wish → AreEffectsOf image end
effects_after image routine before end are appends wish = record {
  commands = subst (All (IsCommand image)) (sym appends.appended) (All-append (IsCommand image) before.commands appends.some are.commands appends.known);
  wish = wish_after image before.wish end.wish are.wish wish;
}

nothing_known : (image : ImageParts) → AreEffectsOf image nothing_yet
nothing_known image = record { commands = All-nil (IsCommand image); wish = tt }

-- The number of commands after a handler, by a bound of its routine.
pub count_after : (image : ImageParts) (routine : ℕ) (before end : List CommandId) (bound : ℕ → ℕ → ℕ) → AreAmounts commands_of image bound → Appends image routine before end
    → length end ≤ length before + bound routine 0
count_after image routine before end bound are appends =
    let long : length end ≡ length before + length appends.some = ap length appends.appended ∙ length-append before appends.some in
    omega (arith, long, appends.count bound are)

pub ran_bodies : (image : ImageParts) (k : ℕ) (state : StateSpec) (before mid end : Effects) (first second : ℕ) → slice_get image.states k ≡ Some state
    → before ≡ nothing_yet → IsCostOf image image.always.body.0 first → IsCostOf image state.handlers.body.0 second
    → Appends image image.always.body.0 before.commands mid.commands → Appends image state.handlers.body.0 mid.commands end.commands
    → IsWish image before.wish mid.wish → IsWish image mid.wish end.wish → RanBodies image k end (first + second)
ran_bodies image k state before mid end first second at start cost_first cost_second appends_first appends_second wish_first wish_second = record {
  own = state;
  at = at;
  effects =
      let known = subst (AreEffectsOf image) (sym start) (nothing_known image) in
      effects_after image state.handlers.body.0 mid end (effects_after image image.always.body.0 before mid known appends_first wish_first) appends_second wish_second;
  count = λ bound other are at_other.
      let same : state ≡ other = same_Some state other (sym at ∙ at_other) in
      let none : length before.commands ≡ 0 = ap (λ (e : Effects). length e.commands) start in
      let total : length end.commands ≤ bound image.always.body.0 0 + bound state.handlers.body.0 0 =
      omega (arith, count_after image image.always.body.0 before.commands mid.commands bound are appends_first, count_after image state.handlers.body.0 mid.commands end.commands bound are appends_second, none) in
      subst (λ (s : StateSpec). length end.commands ≤ bound image.always.body.0 0 + bound s.handlers.body.0 0) same total;
  within = λ bound other are at_other.
      let same : state ≡ other = same_Some state other (sym at ∙ at_other) in
      let total : first + second ≤ bound image.always.body.0 0 + bound state.handlers.body.0 0 = omega (arith, cost_first bound are, cost_second bound are) in
      subst (λ (s : StateSpec). first + second ≤ bound image.always.body.0 0 + bound s.handlers.body.0 0) same total;
}

-- Room for the init of an entered state after both bodies.
pub room_for_init : (image : ImageParts) (k j : ℕ) (next : StateSpec) (end : Effects) (cost : ℕ) → IsAccepted image → RanBodies image k end cost
    → slice_get image.states j ≡ Some next → HasRoom image next.handlers.init.0 (length end.commands)
room_for_init image k j next end cost accepted ran at =
    let fit = accepted.commands in
    (fit.0, fit.1, omega (arith, fit.3.evaluation k j ran.own next ran.at at, ran.count fit.0 ran.own fit.1 ran.at))

-- The bodies alone keep the budgets.
pub bodies_keep : (image : ImageParts) (k : ℕ) (end : Effects) (cost : ℕ) → IsAccepted image → RanBodies image k end cost → KeepsBudgets image end.commands cost
bodies_keep image k end cost accepted ran =
    let few = accepted.commands in
    let cheap = accepted.cost in
    record {
      cost = omega (arith, cheap.3.evaluation k k ran.own ran.own ran.at ran.at, ran.within cheap.0 ran.own cheap.1 ran.at);
      count = omega (arith, few.3.evaluation k k ran.own ran.own ran.at ran.at, ran.count few.0 ran.own few.1 ran.at);
      known = ran.effects.commands;
    }

-- The bodies and the init of an entered state keep the budgets.
pub change_keeps : (image : ImageParts) (k j : ℕ) (mid end : Effects) (first second : ℕ) → IsAccepted image → RanBodies image k mid first
    → RanInit image j mid end second → KeepsBudgets image end.commands (first + second)
change_keeps image k j mid end first second accepted ran init =
    let few = accepted.commands in
    let cheap = accepted.cost in
    record {
      cost = omega (arith, cheap.3.evaluation k j ran.own init.own ran.at init.at, ran.within cheap.0 ran.own cheap.1 ran.at, init.within cheap.0 init.own cheap.1 init.at);
      count = omega (arith, few.3.evaluation k j ran.own init.own ran.at init.at, ran.count few.0 ran.own few.1 ran.at, init.count few.0 init.own few.1 init.at);
      known = init.known ran.effects.commands;
    }

-- A state's init ran.
pub ran_init : (image : ImageParts) (k : ℕ) (state : StateSpec) (before end : Effects) (cost : ℕ) → slice_get image.states k ≡ Some state
    → IsCostOf image state.handlers.init.0 cost → Appends image state.handlers.init.0 before.commands end.commands → RanInit image k before end cost
ran_init image k state before end cost at within appends = record {
  own = state;
  at = at;
  known = λ known. subst (All (IsCommand image)) (sym appends.appended) (All-append (IsCommand image) before.commands appends.some known appends.known);
  count = λ bound other are at_other.
      let same : state ≡ other = same_Some state other (sym at ∙ at_other) in
      subst (λ (s : StateSpec). length end.commands ≤ length before.commands + bound s.handlers.init.0 0) same (count_after image state.handlers.init.0 before.commands end.commands bound are appends);
  within = λ bound other are at_other.
      let same : state ≡ other = same_Some state other (sym at ∙ at_other) in
      subst (λ (s : StateSpec). cost ≤ bound s.handlers.init.0 0) same (within bound are);
}

-- Room for the always init at the opening.
pub room_for_always_init : (image : ImageParts) (k : ℕ) (state : StateSpec) (queued : ℕ) → IsAccepted image → k ≡ image.initial.0
    → slice_get image.states k ≡ Some state → queued ≡ 0 → HasRoom image image.always.init.0 queued
room_for_always_init image k state queued accepted first at none =
    let fit = accepted.commands in
    let opening = fit.3.opening state (subst (λ (n : ℕ). slice_get image.states n ≡ Some state) first at) in
    (fit.0, fit.1, omega (arith, opening, none))

-- Room for the initial state's init after the always init.
pub room_for_first_init : (image : ImageParts) (k : ℕ) (state : StateSpec) (before mid : List CommandId) → IsAccepted image → k ≡ image.initial.0
    → slice_get image.states k ≡ Some state → length before ≡ 0 → Appends image image.always.init.0 before mid → HasRoom image state.handlers.init.0 (length mid)
room_for_first_init image k state before mid accepted first at none appends =
    let fit = accepted.commands in
    let opening = fit.3.opening state (subst (λ (n : ℕ). slice_get image.states n ≡ Some state) first at) in
    (fit.0, fit.1, omega (arith, opening, count_after image image.always.init.0 before mid fit.0 fit.1 appends, none))

-- The commands of two handlers are in the table.
pub two_known : (image : ImageParts) (r q : ℕ) (before mid end : List CommandId) → before ≡ [] → Appends image r before mid → Appends image q mid end → All (IsCommand image) end
two_known image r q before mid end none first second =
    let mid_known : All (IsCommand image) mid =
    subst (All (IsCommand image)) (sym (first.appended ∙ ap (λ (xs : List CommandId). xs ++ first.some) none)) first.known in
    subst (All (IsCommand image)) (sym second.appended) (All-append (IsCommand image) mid second.some mid_known second.known)
