-- Two behaviours that differ only in costs make the same run, apart from costs.
use Rattle.std.proofs.Common.{◌≡◌, ℕ, ◌+◌, ◌-◌, Bool, true, false, not, List, [], ◌∷◌, ◌++◌}
use Rattle.std.proofs.Common.{length, map, drop, Option, Some, None, refl, sym, ap, ◌∙◌}
use Rattle.std.specs.Prelude.{slice_get, nat_lt, if◌then◌else◌}
use Rattle.std.proofs.lemmas.List.{length-map, drop-map, map-append}
use Rattle.ifs_base.specs.Facts.{is_link}
use Rattle.ifs_base.specs.Effects.{later_wish}
use Rattle.ifs_base.specs.declared.ids.CommandId.{CommandId}
use Rattle.ifs_base.specs.declared.ids.StateId.{StateId}
use Rattle.ifs_base.specs.declared.op.LinkState.{LinkState}
use Rattle.ifs_sched.specs.Schedule.{ticked, starts, is_exhausted, is_running}
use Rattle.ifs_core.specs.declared.step.Step.{Step}
use Rattle.ifs_core.specs.declared.step.Step.TheVariants.{Link, Finished, Tick, Take}
use Rattle.ifs_core.specs.declared.step.Reply.{Reply}
use Rattle.ifs_core.specs.declared.step.Reply.TheVariants.{Done, Same, Ticked, Taken, Busy, Stale, Backwards}
use Rattle.ifs_core.specs.declared.step.Answer.{Answer}
use Rattle.ifs_core.specs.declared.step.Answer.TheVariants as answers
use Rattle.ifs_core.specs.declared.step.Record.{Record}
use Rattle.ifs_core.specs.Event.{AlwaysBody, Body, Behaviour, Position, Event, change_of, with_change, evaluation}
use Rattle.ifs_core.specs.Steps.{CoreState, Turn, traced, settled, at_position, unchanged, same}
use Rattle.ifs_core.specs.Steps.{done, ticked_after, no_event, lacks_room, with_link, with_value}
use Rattle.ifs_core.specs.Steps.{with_run_over, has_value, changing, LinkSeen, RunEnded, link_turn}
use Rattle.ifs_core.specs.Steps.{finished_turn, tick_turn, take_turn, turn, replies, after_steps}
use Rattle.ifs_gen.specs.Events.{reply_without_cost, record_without_cost, state_without_costs}

-- A turn and an event, apart from costs.
abbrev turn_without_costs : Turn → Turn
turn_without_costs t = record { reply = reply_without_cost t.reply; next = state_without_costs t.next }

abbrev free : Event → Event
free e = record e { cost = 0 }

-- A behaviour without costs.
abbrev pub without_costs : Behaviour → Behaviour
without_costs b = record b { cost = λ handler facts. 0 }

traced_free : (r : Record) (trace : List Record) → traced (record_without_cost r) (map record_without_cost trace) ≡ map record_without_cost (traced r trace)
traced_free r trace =
    let all = trace ++ r ∷ [] in
    let joined : map record_without_cost trace ++ record_without_cost r ∷ [] ≡ map record_without_cost all = sym (map-append record_without_cost trace (r ∷ [])) in
    ap (λ xs. drop (length xs - 256) xs) joined
    ∙ ap (λ n. drop (n - 256) (map record_without_cost all)) (length-map all record_without_cost)
    ∙ drop-map record_without_cost (length all - 256) all

state_is : (p : Position) (queue : List CommandId) (t u : List Record) → t ≡ u
    → (let x : CoreState = record { position = p; queue = queue; trace = t } in let y : CoreState = record { position = p; queue = queue; trace = u } in x ≡ y)
state_is p queue t u e = ap (λ trace. let made : CoreState = record { position = p; queue = queue; trace = trace } in made) e

settled_free : (step : Step) (answer : Answer) (commands : List CommandId) (cost : ℕ) (s : CoreState)
    → settled step answer commands 0 (state_without_costs s) ≡ state_without_costs (settled step answer commands cost s)
settled_free step answer commands cost s =
    state_is s.position (s.queue ++ commands) _ _ (traced_free (record { step = step; answer = answer; state = s.position.current; queued = length commands; cost = cost }) s.trace)

abbrev made : Reply → CoreState → Turn
made reply next = record { reply = reply; next = next }

module _ (b : Behaviour) (room : ℕ) where
  change_free : (o : Option StateId) (e : Event) → with_change (without_costs b) o (free e) ≡ free (with_change b o e)
  change_free None e = refl
  change_free (Some next) e = refl

  evaluation_free : (p : Position) → evaluation (without_costs b) p ≡ free (evaluation b p)
  evaluation_free p =
      let always = b.answer AlwaysBody p.facts in
      let own = b.answer (Body p.current.0) p.facts in
      change_free (change_of p.current (later_wish always.wish own.wish))
      (record { position = record p { owed = false }; commands = always.commands ++ own.commands; cost = b.cost AlwaysBody p.facts + b.cost (Body p.current.0) p.facts })

  either : (c : Bool) (x y v w : Turn) → v ≡ turn_without_costs x → w ≡ turn_without_costs y → (if c then v else w) ≡ turn_without_costs (if c then x else y)
  either true x y v w e f = e
  either false x y v w e f = f

  same_free : (step : Step) (s : CoreState) → same step (state_without_costs s) ≡ turn_without_costs (same step s)
  same_free step s = ap (made Same) (settled_free step answers.Same [] 0 s)

  done_free : (step : Step) (e : Event) (s : CoreState) → done step (free e) (state_without_costs s) ≡ turn_without_costs (done step e s)
  done_free step e s = ap (made (Done e.position.current (record { items = e.commands }) 0)) (settled_free step answers.Done e.commands e.cost (at_position e.position s))

  ticked_free : (now : ℕ) (evaluated : Bool) (e : Event) (s : CoreState) → ticked_after now evaluated (free e) (state_without_costs s) ≡ turn_without_costs (ticked_after now evaluated e s)
  ticked_free now evaluated e s =
      ap (made (Ticked evaluated e.position.current (record { items = e.commands }) 0 (record { items = starts now e.position.schedule }) (is_exhausted now e.position.schedule)))
      (settled_free (Tick now) answers.Ticked e.commands e.cost (at_position (record e.position { schedule = ticked now e.position.schedule }) s))

  changing_free : (step : Step) (p : Position) (s : CoreState) → changing (without_costs b) room step p (state_without_costs s) ≡ turn_without_costs (changing b room step p s)
  changing_free step p s =
      either (lacks_room room s) (unchanged Busy s) (done step (evaluation b p) s) _ _ refl
      (ap (λ e. done step e (state_without_costs s)) (evaluation_free p) ∙ done_free step (evaluation b p) s)

  link_free : (seen : LinkSeen) (o : Option LinkState) (s : CoreState) → link_turn (without_costs b) room seen o (state_without_costs s) ≡ turn_without_costs (link_turn b room seen o s)
  link_free seen None s = refl
  link_free seen (Some before) s =
      let step = Link seen.interface seen.link in
      let p = with_link seen.interface.0 seen.link s.position in
      either (is_link before seen.link) (same step s) (changing b room step p s) _ _ (same_free step s) (changing_free step p s)

  finished_free : (ended : RunEnded) (o : Option (Option Bool)) (s : CoreState) → finished_turn (without_costs b) room ended o (state_without_costs s) ≡ turn_without_costs (finished_turn b room ended o s)
  finished_free ended None s = refl
  finished_free ended (Some before) s =
      let step = Finished ended.test ended.run ended.value in
      let over = with_run_over ended.test.0 ended.run s.position in
      let p = with_value ended.test.0 ended.value over in
      let late = same step (at_position over s) in
      let change = changing b room step p s in
      either (not (is_running ended.test.0 ended.run s.position.schedule)) (unchanged Stale s) (if has_value ended.value before then late else change) _ _ refl
      (either (has_value ended.value before) late change _ _ (same_free step (at_position over s)) (changing_free step p s))

  tick_free : (now : ℕ) (s : CoreState) → tick_turn (without_costs b) room now (state_without_costs s) ≡ turn_without_costs (tick_turn b room now s)
  tick_free now s =
      let p = s.position in
      let full = ticked_after now true (evaluation b p) s in
      let plain = ticked_after now false (no_event p) s in
      either (nat_lt now p.schedule.present) (unchanged Backwards s) (if p.owed then (if lacks_room room s then unchanged Busy s else full) else plain) _ _ refl
      (either p.owed (if lacks_room room s then unchanged Busy s else full) plain _ _
      (either (lacks_room room s) (unchanged Busy s) full _ _ refl (ap (λ e. ticked_after now true e (state_without_costs s)) (evaluation_free p) ∙ ticked_free now true (evaluation b p) s))
      (ticked_free now false (no_event p) s))

  take_free : (queue : List CommandId) (s : CoreState) → take_turn queue (state_without_costs s) ≡ turn_without_costs (take_turn queue s)
  take_free [] s = refl
  take_free (command ∷ commands) s =
      let left : CoreState = record { position = s.position; queue = commands; trace = s.trace } in
      ap (made (Taken command)) (settled_free Take answers.Taken [] 0 left)

  turn_free : (step : Step) (s : CoreState) → turn (without_costs b) room step (state_without_costs s) ≡ turn_without_costs (turn b room step s)
  turn_free (Link interface link) s = link_free (record { interface = interface; link = link }) (slice_get s.position.facts.links interface.0) s
  turn_free (Finished test run value) s = finished_free (record { test = test; run = run; value = value }) (slice_get s.position.facts.tests test.0) s
  turn_free (Tick now) s = tick_free now s
  turn_free Take s = take_free s.queue s

  pub replies_free : (steps : List Step) (s : CoreState) → replies (without_costs b) room steps (state_without_costs s) ≡ map reply_without_cost (replies b room steps s)
  replies_free [] s = refl
  replies_free (step ∷ steps) s =
      ap (λ (t : Turn). t.reply ∷ replies (without_costs b) room steps t.next) (turn_free step s)
      ∙ ap (λ l. reply_without_cost (turn b room step s).reply ∷ l) (replies_free steps (turn b room step s).next)

  pub states_free : (steps : List Step) (s : CoreState) → after_steps (without_costs b) room steps (state_without_costs s) ≡ state_without_costs (after_steps b room steps s)
  states_free [] s = refl
  states_free (step ∷ steps) s =
      ap (λ (t : Turn). after_steps (without_costs b) room steps t.next) (turn_free step s)
      ∙ states_free steps (turn b room step s).next
