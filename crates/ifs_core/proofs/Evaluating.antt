-- The events of a behaviour: their handlers run to their ends, and they keep the image's budgets.
use Rattle.std.proofs.Common.{◌≡◌, ℕ, ◌+◌, ◌≤◌, ◌<◌, Bool, true, false, [], ◌++◌}
use Rattle.std.proofs.Common.{length, Option, Some, None, refl, ap, subst, ◌∙◌, arith}
use Rattle.std.specs.Prelude.{IfSome, slice_get, ◌==◌, if◌then◌else◌}
use Rattle.std.proofs.lemmas.List.Elements.{All-nil}
use Rattle.std.proofs.lemmas.Option.{none-some, same_Some}
use Rattle.ifs_base.specs.Facts.{Facts}
use Rattle.ifs_base.specs.declared.ids.StateId.{StateId}
use Rattle.ifs_image.specs.declared.parts.StateSpec.{StateSpec}
use Rattle.ifs_image.specs.declared.parts.ImageParts.{ImageParts}
use Rattle.ifs_image.specs.Limits.{Fits}
use Rattle.ifs_verify.specs.Accepted.{IsAccepted}
use Rattle.ifs_base.specs.Effects.{Effects, nothing_yet, later_wish, followed}
use Rattle.ifs_machine.specs.Run.{AreFactsOf, HasRoom, Appends, IsWish, IsCostOf, HandlersEnd, RunsAreUnique}
use Rattle.ifs_core.specs.declared.step.Record.{Record}
use Rattle.ifs_core.specs.Event.{Handler, AlwaysInit, AlwaysBody, Init, Body, Behaviour}
use Rattle.ifs_core.specs.Event.{Position, Event, change_of, with_change, entering, evaluation}
use Rattle.ifs_core.specs.Machine.{routine_of, IsBehaviour, KeepsBudgets}
use Rattle.ifs_core.specs.inner.Within.{RanBodies}
use Rattle.ifs_core.specs.Gateway.{IsListed, IsPositionOf, IsStateOf, Known, IsKnownOf, opening_of, opened}
use Rattle.ifs_core.specs.HeadlineParts.{IsRun, EachRun, BothRuns, after_always, after_bodies}
use Rattle.ifs_core.proofs.Runs.{room_for_body, room_for_init, room_for_first_init, body_of, init_of}
use Rattle.ifs_core.proofs.Runs.{ran_bodies, ran_init, bodies_keep, change_keeps, count_after, two_known}
use Rattle.ifs_core.proofs.Exists.{handles, state_at, room_from_nothing}
use Rattle.ifs_core.proofs.Opening.{length-no_values, length-all_off}
use Rattle.ifs_core.proofs.Places.{length-entered, entering_stays, paid_stays}

-- The wish of one handler alone is its own.
pub wish_alone : (wish : Option StateId) → later_wish None wish ≡ wish
wish_alone None = refl
wish_alone (Some next) = refl

-- A state that a wish leads to is in the list.
change_if : (image : ImageParts) (same : Bool) (wished next : StateId) → wished.0 < length image.states → (if same then None else Some wished) ≡ Some next → next.0 < length image.states
change_if image true wished next within e = absurd (none-some next e)
change_if image false wished next within e = subst (λ (s : StateId). s.0 < length image.states) (same_Some wished next e) within

change_known : (image : ImageParts) (current : StateId) (wish : Option StateId) (next : StateId) → IfSome wish (λ state. state.0 < length image.states)
    → change_of current wish ≡ Some next → next.0 < length image.states
change_known image current None next known e = absurd (none-some next e)
change_known image current (Some wished) next known e = change_if image (wished.0 == current.0) wished next known e

-- The opening: both inits run to their ends without a trap, within the image's budgets, and leave a state of its run.
pub record OpeningHolds (image : ImageParts) (known : Known) (b : Behaviour) : Type 0 where
  pub runs : BothRuns (IsRun image b) b image known
  pub budgets : KeepsBudgets image (opening_of b image known).commands (opening_of b image known).cost
  pub state : IsStateOf image (opened b image known)

module _ (ends : HandlersEnd) (unique : RunsAreUnique) (image : ImageParts) (accepted : IsAccepted image) (b : Behaviour) (is : IsBehaviour image b) where
  -- A handler ran: its cost and effects are bounded.
  record Ran (handler : Handler) (routine : ℕ) (facts : Facts) (before : Effects) : Type 0 where
    run : IsRun image b handler facts before
    within : IsCostOf image routine (b.cost handler facts)
    commands : Appends image routine before.commands (followed before (b.answer handler facts)).commands
    wish : IsWish image before.wish (followed before (b.answer handler facts)).wish

  ran : (handler : Handler) (routine : ℕ) (facts : Facts) (before : Effects) → routine_of image handler ≡ Some routine → AreFactsOf image facts
      → HasRoom image routine (length before.commands) → Ran handler routine facts before
  ran handler routine facts before of given room =
      let e = ends image facts routine before accepted (handles image handler routine of) given room in
      let r = is.runs handler routine facts before of given room in
      let same = unique image facts routine before e.end (followed before (b.answer handler facts)) e.cost (b.cost handler facts) e.ran.runs r in
      record {
        run = record { routine = routine; is = of; ends = r };
        within = subst (λ (n : ℕ). IsCostOf image routine n) same.0 e.ran.within;
        commands = subst (λ (x : Effects). Appends image routine before.commands x.commands) same.1 e.ran.commands;
        wish = subst (λ (x : Effects). IsWish image before.wish x.wish) same.1 e.ran.wish;
      }

  module _ (p : Position) (at : IsPositionOf image p) where
    abbrev always_yield : Effects
    always_yield = b.answer AlwaysBody p.facts

    abbrev own_yield : Effects
    own_yield = b.answer (Body p.current.0) p.facts

    abbrev bodies_cost : ℕ
    bodies_cost = b.cost AlwaysBody p.facts + b.cost (Body p.current.0) p.facts

    always_ran : Ran AlwaysBody image.always.body.0 p.facts nothing_yet
    always_ran = ran AlwaysBody image.always.body.0 p.facts nothing_yet refl at.facts (room_from_nothing image AlwaysBody image.always.body.0 accepted refl)

    own_ran : (state : StateSpec) → slice_get image.states p.current.0 ≡ Some state → Ran (Body p.current.0) state.handlers.body.0 p.facts (after_always b p)
    own_ran state here =
        ran (Body p.current.0) state.handlers.body.0 p.facts (after_always b p) (body_of image p.current.0 state here) at.facts
        (room_for_body image p.current.0 state [] (after_always b p).commands accepted here refl always_ran.commands)

    bodies : RanBodies image p.current.0 (after_bodies b p) bodies_cost
    bodies =
        let here = state_at image p.current.0 at.current in
        let own = own_ran here.0 here.1 in
        ran_bodies image p.current.0 here.0 nothing_yet (after_always b p) (after_bodies b p) (b.cost AlwaysBody p.facts) (b.cost (Body p.current.0) p.facts) here.1 refl
        always_ran.within own.within always_ran.commands own.commands always_ran.wish own.wish

    entered : (next : StateId) → change_of p.current (after_bodies b p).wish ≡ Some next → next.0 < length image.states
    entered next e = change_known image p.current (after_bodies b p).wish next bodies.effects.wish e

    init_ran : (next : StateId) (state : StateSpec) → change_of p.current (after_bodies b p).wish ≡ Some next → slice_get image.states next.0 ≡ Some state
        → Ran (Init next.0) state.handlers.init.0 (entering b next p).facts (after_bodies b p)
    init_ran next state e there =
        ran (Init next.0) state.handlers.init.0 (entering b next p).facts (after_bodies b p) (init_of image next.0 state there)
        (entering_stays image b next p at (entered next e)).facts
        (room_for_init image p.current.0 next.0 state (after_bodies b p) bodies_cost accepted bodies there)

    pub evaluation_runs : EachRun (IsRun image b) b p
    evaluation_runs = record {
      always = always_ran.run;
      body = let here = state_at image p.current.0 at.current in (own_ran here.0 here.1).run;
      init = λ next e. let there = state_at image next.0 (entered next e) in (init_ran next there.0 e there.1).run;
    }

    -- An event that keeps to the image.
    pub record Keeps (e : Event) : Type 0 where
      pub budgets : KeepsBudgets image e.commands e.cost
      pub position : IsPositionOf image e.position

    abbrev bodies_event : Event
    bodies_event = record { position = record p { owed = false }; commands = always_yield.commands ++ own_yield.commands; cost = bodies_cost }

    change_holds : (o : Option StateId) → change_of p.current (after_bodies b p).wish ≡ o → Keeps (with_change b o bodies_event)
    change_holds None e = record {
      budgets = bodies_keep image p.current.0 (after_bodies b p) bodies_cost accepted bodies;
      position = paid_stays image p at;
    }
    change_holds (Some next) e =
        let there = state_at image next.0 (entered next e) in
        let init = init_ran next there.0 e there.1 in
        let paid = b.cost (Init next.0) (entering b next p).facts in
        let end = followed (after_bodies b p) (b.answer (Init next.0) (entering b next p).facts) in
        record {
          budgets =
              change_keeps image p.current.0 next.0 (after_bodies b p) end bodies_cost paid accepted bodies
              (ran_init image next.0 there.0 (after_bodies b p) end paid there.1 init.within init.commands);
          position = entering_stays image b next (record p { owed = false }) (paid_stays image p at) (entered next e);
        }

    pub evaluation_keeps : Keeps (evaluation b p)
    evaluation_keeps =
        let wished = ap (λ (w : Option StateId). change_of p.current (later_wish w own_yield.wish)) (wish_alone always_yield.wish) in
        change_holds (change_of p.current (later_wish always_yield.wish own_yield.wish)) wished

    -- The state that an evaluation enters is in the list.
    pub entered_within : IfSome (change_of p.current (later_wish always_yield.wish own_yield.wish)) (λ next. next.0 < length image.states)
    entered_within =
        let wished = ap (λ (w : Option StateId). change_of p.current (later_wish w own_yield.wish)) (wish_alone always_yield.wish) in
        entered_if (change_of p.current (later_wish always_yield.wish own_yield.wish)) wished
      where
        entered_if : (o : Option StateId) → change_of p.current (after_bodies b p).wish ≡ o → IfSome o (λ next. next.0 < length image.states)
        entered_if None e = tt
        entered_if (Some next) e = entered next e

  -- The opening.
  module _ (known : Known) (links : IsKnownOf image known) where
    abbrev first : Position
    first = (opening_of b image known).position

    pub first_at : IsPositionOf image first
    first_at = record {
      facts = record { links = links; tests = length-no_values image };
      current = accepted.indexes.initial;
      tests = length-entered b.always (b.active image.initial.0) 0 _ ∙ length-all_off image known.first_run;
    }

    pub opening_holds : Fits image → OpeningHolds image known b
    opening_holds fits =
        let here = state_at image image.initial.0 accepted.indexes.initial in
        let state = here.0 in
        let always = ran AlwaysInit image.always.init.0 first.facts nothing_yet refl first_at.facts (room_from_nothing image AlwaysInit image.always.init.0 accepted refl) in
        let mid = followed nothing_yet (b.answer AlwaysInit first.facts) in
        let own = ran (Init image.initial.0) state.handlers.init.0 first.facts mid (init_of image image.initial.0 state here.1) first_at.facts
        (room_for_first_init image image.initial.0 state [] mid.commands accepted refl here.1 refl always.commands) in
        let end = followed mid (b.answer (Init image.initial.0) first.facts) in
        let few = accepted.commands in
        let cheap = accepted.cost in
        let known = two_known image image.always.init.0 state.handlers.init.0 [] mid.commands end.commands refl always.commands own.commands in
        let count : length end.commands ≤ image.budgets.commands =
        omega (
          arith,
          few.3.opening state here.1,
          count_after image image.always.init.0 [] mid.commands few.0 few.1 always.commands,
          count_after image state.handlers.init.0 mid.commands end.commands few.0 few.1 own.commands,
        ) in
        let paid : b.cost AlwaysInit first.facts + b.cost (Init image.initial.0) first.facts ≤ image.budgets.cost =
        omega (arith, cheap.3.opening state here.1, always.within cheap.0 cheap.1, own.within cheap.0 cheap.1) in
        record {
          runs = record { always = always.run; init = own.run };
          budgets = record { cost = paid; count = count; known = known };
          state = record { position = first_at; queue = omega (arith, count, fits.budgets.commands); commands = known; trace = All-nil (λ (r : Record). IsListed image r.state) };
        }
