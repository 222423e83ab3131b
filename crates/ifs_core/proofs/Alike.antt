-- Two behaviours of an image make one run.
use Rattle.std.proofs.Common.{◌≡◌, ℕ, ◌+◌, ◌<◌, Bool, true, false, not, List, [], ◌∷◌}
use Rattle.std.proofs.Common.{◌++◌, length, Option, Some, None, refl, sym, ap, ◌∙◌}
use Rattle.std.specs.Prelude.{IfSome, slice_get, nat_lt, if◌then◌else◌}
use Rattle.ifs_base.specs.Facts.{Facts, is_link}
use Rattle.ifs_base.specs.declared.ids.StateId.{StateId}
use Rattle.ifs_base.specs.declared.op.LinkState.{LinkState}
use Rattle.ifs_image.specs.declared.parts.ImageParts.{ImageParts}
use Rattle.ifs_image.specs.Limits.{Fits}
use Rattle.ifs_sched.specs.Schedule.{is_running, entered, all_off}
use Rattle.ifs_verify.specs.Accepted.{IsAccepted}
use Rattle.ifs_base.specs.Effects.{Effects, nothing_yet, later_wish, followed}
use Rattle.ifs_machine.specs.Run.{AreFactsOf, HandlersEnd, RunsAreUnique}
use Rattle.ifs_core.specs.declared.step.Step.{Step}
use Rattle.ifs_core.specs.declared.step.Step.TheVariants.{Link, Finished, Tick, Take}
use Rattle.ifs_core.specs.declared.step.Reply.TheVariants.{Busy, Stale, Backwards}
use Rattle.ifs_core.specs.Event.{Handler, AlwaysInit, AlwaysBody, Init, Body, Behaviour, Position}
use Rattle.ifs_core.specs.Event.{Event, kept_values, change_of, with_change, entering, evaluation}
use Rattle.ifs_core.specs.Machine.{routine_of, IsBehaviour, periods_in}
use Rattle.ifs_core.specs.Gateway.{IsPositionOf, IsStateOf, Known, IsKnownOf, opening_of, opened}
use Rattle.ifs_core.specs.Steps.{CoreState, Turn, at_position, unchanged, same, done, ticked_after, no_event}
use Rattle.ifs_core.specs.Steps.{lacks_room, with_link, with_value, with_run_over, has_value, changing, LinkSeen}
use Rattle.ifs_core.specs.Steps.{RunEnded, link_turn, finished_turn, tick_turn, turn, replies, after_steps}
use Rattle.ifs_core.specs.HeadlineParts.{RunAlike}
use Rattle.ifs_core.proofs.Runs.{body_of, init_of}
use Rattle.ifs_core.proofs.Exists.{state_at, room_from_nothing}
use Rattle.ifs_core.proofs.Places.{link_stays, value_stays, run_over_stays, entering_stays, paid_stays}
use Rattle.ifs_core.proofs.Evaluating.{wish_alone, first_at, opening_holds, entered_within}
use Rattle.ifs_core.proofs.Turning.{step_holds}

-- The effects of a handler, and its cost.
record Paid : Type 0 where
  effects : Effects
  cost : ℕ

abbrev paid : Behaviour → Handler → Facts → Paid
paid b handler facts = record { effects = b.answer handler facts; cost = b.cost handler facts }

same_effects : (x y : Effects) → x.commands ≡ y.commands → x.wish ≡ y.wish → x ≡ y
same_effects x y e f = ap (λ commands. let made : Effects = record { commands = commands; wish = x.wish } in made) e ∙ ap (λ wish. let made : Effects = record { commands = y.commands; wish = wish } in made) f

same_paid : (x y : Paid) → x.effects ≡ y.effects → x.cost ≡ y.cost → x ≡ y
same_paid x y e f = ap (λ effects. let made : Paid = record { effects = effects; cost = x.cost } in made) e ∙ ap (λ cost. let made : Paid = record { effects = y.effects; cost = cost } in made) f

-- An entry, by the masks of active tests.
abbrev entry_by : ℕ → ℕ → StateId → Position → Position
entry_by always active next p = record {
  facts = record { links = p.facts.links; tests = kept_values always p.facts.tests };
  current = next;
  owed = true;
  schedule = entered always active p.schedule.present p.schedule;
}

module _ (ends : HandlersEnd) (unique : RunsAreUnique) (image : ImageParts) (accepted : IsAccepted image) (a b : Behaviour) (is_a : IsBehaviour image a) (is_b : IsBehaviour image b) where
  -- Handlers agree.
  answers : (handler : Handler) (routine : ℕ) (facts : Facts) → routine_of image handler ≡ Some routine → AreFactsOf image facts → paid a handler facts ≡ paid b handler facts
  answers handler routine facts is given =
      let room = room_from_nothing image handler routine accepted is in
      let x = a.answer handler facts in
      let y = b.answer handler facts in
      let e = unique image facts routine nothing_yet (followed nothing_yet x) (followed nothing_yet y) (a.cost handler facts) (b.cost handler facts)
      (is_a.runs handler routine facts nothing_yet is given room) (is_b.runs handler routine facts nothing_yet is given room) in
      let same = same_effects x y (ap (λ (z : Effects). z.commands) e.1) (sym (wish_alone x.wish) ∙ ap (λ (z : Effects). z.wish) e.1 ∙ wish_alone y.wish) in
      same_paid (paid a handler facts) (paid b handler facts) same e.0

  always_alike : a.always ≡ b.always
  always_alike = is_a.always ∙ sym is_b.always

  active_alike : (k : ℕ) → k < length image.states → a.active k ≡ b.active k
  active_alike k within = let s = state_at image k within in is_a.active k s.0 s.1 ∙ sym (is_b.active k s.0 s.1)

  body_alike : (k : ℕ) (facts : Facts) → k < length image.states → AreFactsOf image facts → paid a (Body k) facts ≡ paid b (Body k) facts
  body_alike k facts within given = let s = state_at image k within in answers (Body k) s.0.handlers.body.0 facts (body_of image k s.0 s.1) given

  init_alike : (k : ℕ) (facts : Facts) → k < length image.states → AreFactsOf image facts → paid a (Init k) facts ≡ paid b (Init k) facts
  init_alike k facts within given = let s = state_at image k within in answers (Init k) s.0.handlers.init.0 facts (init_of image k s.0 s.1) given

  entering_alike : (next : StateId) (p : Position) → next.0 < length image.states → entering a next p ≡ entering b next p
  entering_alike next p within =
      ap (λ always. entry_by always (a.active next.0) next p) always_alike ∙ ap (λ active. entry_by b.always active next p) (active_alike next.0 within)

  change_alike : (o : Option StateId) (bodies : Event) → IsPositionOf image bodies.position → IfSome o (λ next. next.0 < length image.states)
      → with_change a o bodies ≡ with_change b o bodies
  change_alike None bodies at within = refl
  change_alike (Some next) bodies at within =
      let joined : Position → Paid → Event = λ p y. record { position = p; commands = bodies.commands ++ y.effects.commands; cost = bodies.cost + y.cost } in
      let entry = entering_alike next bodies.position within in
      let stays = entering_stays image b next bodies.position at within in
      ap (λ (p : Position). joined p (paid a (Init next.0) p.facts)) entry
      ∙ ap (λ y. joined (entering b next bodies.position) y) (init_alike next.0 (entering b next bodies.position).facts within stays.facts)

  abbrev event_by : Position → Behaviour → Paid → Paid → Event
  event_by p made always own =
      with_change made (change_of p.current (later_wish always.effects.wish own.effects.wish))
      (record { position = record p { owed = false }; commands = always.effects.commands ++ own.effects.commands; cost = always.cost + own.cost })

  evaluation_alike : (p : Position) → IsPositionOf image p → evaluation a p ≡ evaluation b p
  evaluation_alike p at =
      let always = answers AlwaysBody image.always.body.0 p.facts refl at.facts in
      let own = body_alike p.current.0 p.facts at.current at.facts in
      let x = paid b AlwaysBody p.facts in
      let y = paid b (Body p.current.0) p.facts in
      ap (λ z. event_by p a z (paid a (Body p.current.0) p.facts)) always
      ∙ ap (λ z. event_by p a x z) own
      ∙ change_alike (change_of p.current (later_wish x.effects.wish y.effects.wish)) (record { position = record p { owed = false }; commands = x.effects.commands ++ y.effects.commands; cost = x.cost + y.cost })
      (paid_stays image p at) (entered_within ends unique image accepted b is_b p at)

  module _ (s : CoreState) (is : IsStateOf image s) where
    changing_alike : (step : Step) (p : Position) → IsPositionOf image p → changing a image.budgets.commands step p s ≡ changing b image.budgets.commands step p s
    changing_alike step p at =
        let turned : Event → Turn = λ e. if lacks_room image.budgets.commands s then unchanged Busy s else done step e s in
        ap turned (evaluation_alike p at)

    link_alike : (seen : LinkSeen) (o : Option LinkState) → link_turn a image.budgets.commands seen o s ≡ link_turn b image.budgets.commands seen o s
    link_alike seen None = refl
    link_alike seen (Some before) =
        let step = Link seen.interface seen.link in
        ap (λ (t : Turn). if is_link before seen.link then same step s else t)
        (changing_alike step (with_link seen.interface.0 seen.link s.position) (link_stays image seen.interface.0 seen.link s.position is.position))

    finished_alike : (ended : RunEnded) (o : Option (Option Bool)) → finished_turn a image.budgets.commands ended o s ≡ finished_turn b image.budgets.commands ended o s
    finished_alike ended None = refl
    finished_alike ended (Some before) =
        let step = Finished ended.test ended.run ended.value in
        let p = with_run_over ended.test.0 ended.run s.position in
        let over = run_over_stays image ended.test.0 ended.run s.position is.position in
        ap (λ (t : Turn). if not (is_running ended.test.0 ended.run s.position.schedule) then unchanged Stale s else
        if has_value ended.value before then same step (at_position p s) else t)
        (changing_alike step (with_value ended.test.0 ended.value p) (value_stays image ended.test.0 ended.value p over))

    tick_alike : (now : ℕ) → tick_turn a image.budgets.commands now s ≡ tick_turn b image.budgets.commands now s
    tick_alike now =
        let turned : Event → Turn = λ e. if nat_lt now s.position.schedule.present then unchanged Backwards s else
        if s.position.owed then (if lacks_room image.budgets.commands s then unchanged Busy s else ticked_after now true e s) else
        ticked_after now false (no_event s.position) s in
        ap turned (evaluation_alike s.position is.position)

    pub turn_alike : (step : Step) → turn a image.budgets.commands step s ≡ turn b image.budgets.commands step s
    turn_alike (Link interface link) = link_alike (record { interface = interface; link = link }) (slice_get s.position.facts.links interface.0)
    turn_alike (Finished test run value) = finished_alike (record { test = test; run = run; value = value }) (slice_get s.position.facts.tests test.0)
    turn_alike (Tick now) = tick_alike now
    turn_alike Take = refl

  -- One more step.
  next_is : (step : Step) (s : CoreState) → IsStateOf image s → IsStateOf image (turn b image.budgets.commands step s).next
  next_is step s is = (step_holds ends unique image accepted b is_b s is step).turn.state

  replies_alike : (steps : List Step) (s : CoreState) → IsStateOf image s → replies a image.budgets.commands steps s ≡ replies b image.budgets.commands steps s
  replies_alike [] s is = refl
  replies_alike (step ∷ steps) s is =
      ap (λ (t : Turn). t.reply ∷ replies a image.budgets.commands steps t.next) (turn_alike s is step)
      ∙ ap (λ l. (turn b image.budgets.commands step s).reply ∷ l) (replies_alike steps (turn b image.budgets.commands step s).next (next_is step s is))

  states_alike : (steps : List Step) (s : CoreState) → IsStateOf image s → after_steps a image.budgets.commands steps s ≡ after_steps b image.budgets.commands steps s
  states_alike [] s is = refl
  states_alike (step ∷ steps) s is =
      ap (λ (t : Turn). after_steps a image.budgets.commands steps t.next) (turn_alike s is step)
      ∙ states_alike steps (turn b image.budgets.commands step s).next (next_is step s is)

  -- The opening.
  module _ (known : Known) (links : IsKnownOf image known) where
    abbrev opened_at : ℕ → ℕ → Position
    opened_at always active = record {
      facts = (opening_of b image known).position.facts;
      current = image.initial;
      owed = true;
      schedule = entered always active 0 (all_off (periods_in image) known.first_run);
    }

    pub opening_alike : opening_of a image known ≡ opening_of b image known
    opening_alike =
        let facts = (opening_of b image known).position.facts in
        let at = first_at ends unique image accepted b is_b known links in
        let joined : Position → Paid → Paid → Event = λ p x y. record { position = p; commands = x.effects.commands ++ y.effects.commands; cost = x.cost + y.cost } in
        let always = answers AlwaysInit image.always.init.0 facts refl at.facts in
        let own = init_alike image.initial.0 facts at.current at.facts in
        ap (λ always. joined (opened_at always (a.active image.initial.0)) (paid a AlwaysInit facts) (paid a (Init image.initial.0) facts)) always_alike
        ∙ ap (λ active. joined (opened_at b.always active) (paid a AlwaysInit facts) (paid a (Init image.initial.0) facts)) (active_alike image.initial.0 at.current)
        ∙ ap (λ x. joined (opened_at b.always (b.active image.initial.0)) x (paid a (Init image.initial.0) facts)) always
        ∙ ap (λ y. joined (opened_at b.always (b.active image.initial.0)) (paid b AlwaysInit facts) y) own

    abbrev opened_by : Event → CoreState
    opened_by e = record { position = e.position; queue = e.commands; trace = [] }

    pub run_alike : Fits image → (steps : List Step) → RunAlike image known a b steps
    run_alike fits steps =
        let start : opened a image known ≡ opened b image known = ap opened_by opening_alike in
        let is = (opening_holds ends unique image accepted b is_b known links fits).state in
        record {
          opening = opening_alike;
          replies = ap (λ s. replies a image.budgets.commands steps s) start ∙ replies_alike steps (opened b image known) is;
          state = ap (λ s. after_steps a image.budgets.commands steps s) start ∙ states_alike steps (opened b image known) is;
        }
