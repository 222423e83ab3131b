-- Facts of each step of a run.
use Rattle.std.proofs.Common.{◌≡◌, ℕ, ◌+◌, ◌-◌, ◌≤◌, ◌<◌, Bool, true, false, not, List}
use Rattle.std.proofs.Common.{[], ◌∷◌, length, Option, Some, None, refl, ap, subst, arith}
use Rattle.std.specs.Prelude.{All, IfSome, slice_get, nat_lt, if◌then◌else◌}
use Rattle.std.proofs.lemmas.Bool.{ltb-true, ltb-false}
use Rattle.std.proofs.lemmas.List.Elements.{All-nil, All-head, All-tail}
use Rattle.ifs_base.specs.declared.ids.CommandId.{CommandId}
use Rattle.ifs_base.specs.Facts.{is_link}
use Rattle.ifs_base.specs.declared.op.LinkState.{LinkState}
use Rattle.ifs_image.specs.declared.parts.ImageParts.{ImageParts}
use Rattle.ifs_sched.specs.Schedule.{ticked, is_running}
use Rattle.ifs_verify.specs.Accepted.{IsAccepted}
use Rattle.ifs_machine.specs.Run.{IsCommand, HandlersEnd, RunsAreUnique}
use Rattle.ifs_core.specs.declared.step.Step.{Step}
use Rattle.ifs_core.specs.declared.step.Step.TheVariants.{Link, Finished, Tick, Take}
use Rattle.ifs_core.specs.declared.step.Answer.TheVariants as answers
use Rattle.ifs_core.specs.declared.step.Reply.TheVariants.{Busy, Stale, Backwards, NoSuch}
use Rattle.ifs_core.specs.Event.{Behaviour, Position, Event, evaluation}
use Rattle.ifs_core.specs.Machine.{IsBehaviour, KeepsBudgets}
use Rattle.ifs_core.specs.Gateway.{IsReplyOf, IsPositionOf, IsStateOf}
use Rattle.ifs_core.specs.Steps.{CoreState, Turn, at_position, unchanged, same, done, ticked_after, no_event}
use Rattle.ifs_core.specs.Steps.{lacks_room, with_link, with_value, with_run_over, has_value, changing}
use Rattle.ifs_core.specs.Steps.{LinkSeen, RunEnded, link_turn, finished_turn, tick_turn, take_turn, turn}
use Rattle.ifs_core.specs.Steps.{after_steps, cost_told, commands_told, state_told, ChangesNothing}
use Rattle.ifs_core.specs.HeadlineParts.{IsRun, EachRun, changed_by}
use Rattle.ifs_core.proofs.Places.{link_stays, value_stays, run_over_stays, ticked_stays, settled_stays}
use Rattle.ifs_core.proofs.Evaluating.{evaluation_keeps, evaluation_runs}

-- The facts of a turn from a state.
pub record TurnHolds (image : ImageParts) (s : CoreState) (t : Turn) : Type 0 where
  pub budgets : KeepsBudgets image (commands_told t.reply) (cost_told t.reply)
  pub told : IfSome (state_told t.reply) (λ state. state ≡ t.next.position.current)
  pub named : IsReplyOf image t.reply
  pub state : IsStateOf image t.next
  pub busy : t.reply ≡ Busy → 64 - length s.queue < image.budgets.commands
  pub nothing : ChangesNothing t.reply → t.next ≡ s

-- The same, and each handler that the step evaluates ends without a trap.
pub record StepHolds (image : ImageParts) (b : Behaviour) (step : Step) (s : CoreState) : Type 0 where
  pub runs : EachRun (IsRun image b) b (changed_by step s.position)
  pub turn : TurnHolds image s (turn b image.budgets.commands step s)

-- No commands keep every budget.
none : (image : ImageParts) → KeepsBudgets image [] 0
none image = record { cost = omega arith; count = omega arith; known = All-nil (IsCommand image) }

-- A choice of one of two turns.
by_test : (image : ImageParts) (s : CoreState) (test : Bool) (t u : Turn) → (test ≡ true → TurnHolds image s t) → (test ≡ false → TurnHolds image s u)
    → TurnHolds image s (if test then t else u)
by_test image s true t u first second = first refl
by_test image s false t u first second = second refl

module _ (image : ImageParts) (s : CoreState) (is : IsStateOf image s) where
  no_such : TurnHolds image s (unchanged NoSuch s)
  no_such = record { budgets = none image; told = tt; named = record { state = tt; command = tt }; state = is; busy = λ e. cc; nothing = λ h. refl }

  stale : TurnHolds image s (unchanged Stale s)
  stale = record { budgets = none image; told = tt; named = record { state = tt; command = tt }; state = is; busy = λ e. cc; nothing = λ h. refl }

  backwards : TurnHolds image s (unchanged Backwards s)
  backwards = record { budgets = none image; told = tt; named = record { state = tt; command = tt }; state = is; busy = λ e. cc; nothing = λ h. refl }

  busy : lacks_room image.budgets.commands s ≡ true → TurnHolds image s (unchanged Busy s)
  busy lacks = record { budgets = none image; told = tt; named = record { state = tt; command = tt }; state = is; busy = λ e. ltb-true (64 - length s.queue) image.budgets.commands lacks; nothing = λ h. refl }

  nothing_new : (step : Step) (p : Position) → IsPositionOf image p → TurnHolds image s (same step (at_position p s))
  nothing_new step p at = record {
    budgets = none image;
    told = tt;
    named = record { state = tt; command = tt };
    state = settled_stays image step answers.Same [] 0 p s is at (omega (arith, is.queue)) (All-nil (IsCommand image));
    busy = λ e. cc;
    nothing = λ h. absurd h;
  }

  room : (count : ℕ) → lacks_room image.budgets.commands s ≡ false → count ≤ image.budgets.commands → length s.queue + count ≤ 64
  room count has few = let enough = ltb-false (64 - length s.queue) image.budgets.commands has in omega (arith, enough, few, is.queue)

  came_to : (step : Step) (e : Event) → KeepsBudgets image e.commands e.cost → IsPositionOf image e.position → lacks_room image.budgets.commands s ≡ false
      → TurnHolds image s (done step e s)
  came_to step e budgets at has = record {
    budgets = budgets;
    told = refl;
    named = record { state = at.current; command = tt };
    state = settled_stays image step answers.Done e.commands e.cost e.position s is at (room (length e.commands) has budgets.count) budgets.known;
    busy = λ same. cc;
    nothing = λ h. absurd h;
  }

  ticks : (now : ℕ) (evaluated : Bool) (e : Event) → KeepsBudgets image e.commands e.cost → IsPositionOf image e.position → length s.queue + length e.commands ≤ 64
      → TurnHolds image s (ticked_after now evaluated e s)
  ticks now evaluated e budgets at fits = record {
    budgets = budgets;
    told = refl;
    named = record { state = at.current; command = tt };
    state = settled_stays image (Tick now) answers.Ticked e.commands e.cost (record e.position { schedule = ticked now e.position.schedule }) s is (ticked_stays image now e.position at) fits budgets.known;
    busy = λ same. cc;
    nothing = λ h. absurd h;
  }

  takes : (queue : List CommandId) → s.queue ≡ queue → TurnHolds image s (take_turn queue s)
  takes [] e = record { budgets = none image; told = tt; named = record { state = tt; command = tt }; state = is; busy = λ e. cc; nothing = λ h. refl }
  takes (command ∷ commands) e =
      let known = subst (All (IsCommand image)) e is.commands in
      let long = ap length e in
      let left : CoreState = record { position = s.position; queue = commands; trace = s.trace } in
      let at : IsStateOf image left = record { position = is.position; queue = omega (arith, long, is.queue); commands = All-tail (IsCommand image) command commands known; trace = is.trace } in
      record {
        budgets = none image;
        told = tt;
        named = record { state = tt; command = All-head (IsCommand image) command commands known };
        state = settled_stays image Take answers.Taken [] 0 s.position left at is.position (omega (arith, at.queue)) (All-nil (IsCommand image));
        busy = λ same. cc;
        nothing = λ h. absurd h;
      }

module _ (ends : HandlersEnd) (unique : RunsAreUnique) (image : ImageParts) (accepted : IsAccepted image) (b : Behaviour) (is_b : IsBehaviour image b) where
  module _ (s : CoreState) (is : IsStateOf image s) where
    evaluated : (step : Step) (p : Position) → IsPositionOf image p → lacks_room image.budgets.commands s ≡ false → TurnHolds image s (done step (evaluation b p) s)
    evaluated step p at has =
        let kept = evaluation_keeps ends unique image accepted b is_b p at in
        came_to image s is step (evaluation b p) kept.budgets kept.position has

    if_room : (step : Step) (p : Position) → IsPositionOf image p
        → TurnHolds image s (changing b image.budgets.commands step p s)
    if_room step p at = by_test image s (lacks_room image.budgets.commands s) _ _ (busy image s is) (evaluated step p at)

    link_holds : (seen : LinkSeen) (o : Option LinkState) → TurnHolds image s (link_turn b image.budgets.commands seen o s)
    link_holds seen None = no_such image s is
    link_holds seen (Some before) =
        let step = Link seen.interface seen.link in
        by_test image s (is_link before seen.link) _ _ (λ e. nothing_new image s is step s.position is.position)
        (λ e. if_room step (with_link seen.interface.0 seen.link s.position) (link_stays image seen.interface.0 seen.link s.position is.position))

    finished_holds : (ended : RunEnded) (o : Option (Option Bool)) → TurnHolds image s (finished_turn b image.budgets.commands ended o s)
    finished_holds ended None = no_such image s is
    finished_holds ended (Some before) =
        let step = Finished ended.test ended.run ended.value in
        let p = with_run_over ended.test.0 ended.run s.position in
        let over = run_over_stays image ended.test.0 ended.run s.position is.position in
        by_test image s (not (is_running ended.test.0 ended.run s.position.schedule)) _ _ (λ e. stale image s is)
        (λ e. by_test image s (has_value ended.value before) _ _ (λ e. nothing_new image s is step p over)
        (λ e. if_room step (with_value ended.test.0 ended.value p) (value_stays image ended.test.0 ended.value p over)))

    tick_holds : (now : ℕ) → TurnHolds image s (tick_turn b image.budgets.commands now s)
    tick_holds now =
        let kept = evaluation_keeps ends unique image accepted b is_b s.position is.position in
        by_test image s (nat_lt now s.position.schedule.present) _ _ (λ e. backwards image s is)
        (λ e. by_test image s s.position.owed _ _
        (λ e. by_test image s (lacks_room image.budgets.commands s) _ _ (busy image s is)
        (λ has. ticks image s is now true (evaluation b s.position) kept.budgets kept.position (room image s is (length (evaluation b s.position).commands) has kept.budgets.count)))
        (λ e. ticks image s is now false (no_event s.position) (none image) is.position (omega (arith, is.queue))))

    turn_holds : (step : Step) → TurnHolds image s (turn b image.budgets.commands step s)
    turn_holds (Link interface link) = link_holds (record { interface = interface; link = link }) (slice_get s.position.facts.links interface.0)
    turn_holds (Finished test run value) = finished_holds (record { test = test; run = run; value = value }) (slice_get s.position.facts.tests test.0)
    turn_holds (Tick now) = tick_holds now
    turn_holds Take = takes image s is s.queue refl

    pub changed_at : (step : Step) → IsPositionOf image (changed_by step s.position)
    changed_at (Link interface link) = link_stays image interface.0 link s.position is.position
    changed_at (Finished test run value) = value_stays image test.0 value (with_run_over test.0 run s.position) (run_over_stays image test.0 run s.position is.position)
    changed_at (Tick now) = is.position
    changed_at Take = is.position

    pub step_holds : (step : Step) → StepHolds image b step s
    step_holds step = record { runs = evaluation_runs ends unique image accepted b is_b (changed_by step s.position) (changed_at step); turn = turn_holds step }

  pub state_after : (steps : List Step) (s : CoreState) → IsStateOf image s → IsStateOf image (after_steps b image.budgets.commands steps s)
  state_after [] s is = is
  state_after (step ∷ steps) s is = state_after steps (turn b image.budgets.commands step s).next (step_holds s is step).turn.state
