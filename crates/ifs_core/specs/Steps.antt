-- Steps: each has one reply and one next state of the core.
use Rattle.std.specs.Prelude.{ℕ, ◌≡◌, ◌-◌, Bool, true, false, not, nat_lt, if◌then◌else◌, List}
use Rattle.std.specs.Prelude.{[], ◌∷◌, ◌++◌, length, slice_get, slice_set, Option, Some, None}
use Rattle.circular_buffer.specs.Buffer.{keep_last}
use Rattle.ifs_base.specs.declared.ids.CommandId.{CommandId}
use Rattle.ifs_base.specs.declared.ids.IfaceId.{IfaceId}
use Rattle.ifs_base.specs.declared.ids.StateId.{StateId}
use Rattle.ifs_base.specs.declared.ids.TestId.{TestId}
use Rattle.ifs_base.specs.declared.op.LinkState.{LinkState}
use Rattle.ifs_base.specs.Facts.{is_link}
use Rattle.ifs_sched.specs.Schedule.{ticked, starts, is_exhausted, is_running, finished}
use Rattle.ifs_core.specs.declared.step.Step.{Step}
use Rattle.ifs_core.specs.declared.step.Step.TheVariants.{Link, Finished, Tick, Take}
use Rattle.ifs_core.specs.declared.step.Reply.{Reply}
use Rattle.ifs_core.specs.declared.step.Reply.TheVariants.{Done, Same, Ticked, Taken, Empty}
use Rattle.ifs_core.specs.declared.step.Reply.TheVariants.{Busy, Stale, Backwards, NoSuch}
use Rattle.ifs_core.specs.declared.step.Outcome.{Outcome}
use Rattle.ifs_core.specs.declared.step.Outcome.TheVariants as outcomes
use Rattle.ifs_core.specs.declared.step.Lists.{Lists}
use Rattle.ifs_core.specs.declared.step.Answer.{Answer}
use Rattle.ifs_core.specs.declared.step.Answer.TheVariants as answers
use Rattle.ifs_core.specs.declared.step.Record.{Record}
use Rattle.ifs_core.specs.Event.{Behaviour, Position, Event, evaluation}

-- The state of a core: its position, its queue of commands, and the records of its last steps.
pub record CoreState : Type 0 where
  pub position : Position
  pub queue : List CommandId
  pub trace : List Record

-- A turn: the reply to a step, and the state afterwards.
pub record Turn : Type 0 where
  pub reply : Reply
  pub next : CoreState

-- A reply and a state are those of a turn.
pub record Makes (t : Turn) (reply : Reply) (state : CoreState) : Type 0 where
  pub replied : reply ≡ t.reply
  pub came_to : state ≡ t.next

-- The number of executed instructions in a reply; 0 if it reports no evaluation.
abbrev pub cost_told : Reply → ℕ
cost_told (Done state queued cost) = cost
cost_told (Ticked evaluated state queued cost starts exhausted) = cost
cost_told _ = 0

-- The queued commands in a reply, in order.
abbrev pub commands_told : Reply → List CommandId
commands_told (Done state queued cost) = queued.items
commands_told (Ticked evaluated state queued cost starts exhausted) = queued.items
commands_told _ = []

-- The current state in a reply.
abbrev pub state_told : Reply → Option StateId
state_told (Done state queued cost) = Some state
state_told (Ticked evaluated state queued cost starts exhausted) = Some state
state_told _ = None

-- The taken command in a reply.
abbrev pub command_taken : Reply → Option CommandId
command_taken (Taken command) = Some command
command_taken _ = None

-- A reply changes nothing.
abbrev pub ChangesNothing : Reply → Type 0
ChangesNothing Empty = Unit {0}
ChangesNothing Busy = Unit {0}
ChangesNothing Stale = Unit {0}
ChangesNothing Backwards = Unit {0}
ChangesNothing NoSuch = Unit {0}
ChangesNothing _ = ⊥

-- The trace with one more record: it keeps the last 256.
abbrev pub traced : Record → List Record → List Record
traced r trace = keep_last 256 (trace ++ r ∷ [])

-- The first 256 records are all kept, and then the oldest one makes room.
pub record TraceKeeps256 : Type 0 where
  pub room : (r : Record) (trace : List Record) → length trace ≡ 255 → traced r trace ≡ trace ++ r ∷ []
  pub full : (r oldest : Record) (trace : List Record) → length trace ≡ 255 → traced r (oldest ∷ trace) ≡ trace ++ r ∷ []

-- The state after the commands of a step are appended to the queue and the step is recorded in the trace.
abbrev pub settled : Step → Answer → List CommandId → ℕ → CoreState → CoreState
settled step answer commands cost s = record {
  position = s.position;
  queue = s.queue ++ commands;
  trace = traced (record { step = step; answer = answer; state = s.position.current; queued = length commands; cost = cost }) s.trace;
}

-- The state at another position.
abbrev pub at_position : Position → CoreState → CoreState
at_position p s = record { position = p; queue = s.queue; trace = s.trace }

-- A turn that changes nothing.
abbrev pub unchanged : Reply → CoreState → Turn
unchanged reply s = record { reply = reply; next = s }

-- A turn that changes no fact.
abbrev pub same : Step → CoreState → Turn
same step s = record { reply = Same; next = settled step answers.Same [] 0 s }

-- A turn with an event.
abbrev pub done : Step → Event → CoreState → Turn
done step e s = record {
  reply = Done e.position.current (record { items = e.commands }) e.cost;
  next = settled step answers.Done e.commands e.cost (at_position e.position s);
}

-- A turn of a tick: an event if one was owed, and then the tick of the schedule.
abbrev pub ticked_after : ℕ → Bool → Event → CoreState → Turn
ticked_after now evaluated e s = record {
  reply = Ticked evaluated e.position.current (record { items = e.commands }) e.cost (record { items = starts now e.position.schedule }) (is_exhausted now e.position.schedule);
  next = settled (Tick now) answers.Ticked e.commands e.cost (at_position (record e.position { schedule = ticked now e.position.schedule }) s);
}

-- The event of a tick that evaluates nothing.
abbrev pub no_event : Position → Event
no_event p = record { position = p; commands = []; cost = 0 }

-- Whether the queue lacks room: of its 64 places fewer are free than the stated commands of an event.
abbrev pub lacks_room : ℕ → CoreState → Bool
lacks_room room s = nat_lt (64 - length s.queue) room

-- The position with another link state of an interface.
abbrev pub with_link : ℕ → LinkState → Position → Position
with_link interface link p = record p { facts = record { links = slice_set p.facts.links interface link; tests = p.facts.tests } }

-- The position with a value of a test.
abbrev pub with_value : ℕ → Bool → Position → Position
with_value test value p = record p { facts = record { links = p.facts.links; tests = slice_set p.facts.tests test (Some value) } }

-- The position after the end of a test's run.
abbrev pub with_run_over : ℕ → ℕ → Position → Position
with_run_over test run p = record p { schedule = finished test run p.schedule }

-- A turn that changes a fact: it evaluates from this position, if the queue has room.
abbrev pub changing : Behaviour → ℕ → Step → Position → CoreState → Turn
changing b room step p s = if lacks_room room s then unchanged Busy s else done step (evaluation b p) s

-- The step `Link`: an interface and its link state.
pub record LinkSeen : Type 0 where
  pub interface : IfaceId
  pub link : LinkState

-- The turn of `Link`, by the present link state of the interface.
abbrev pub link_turn : Behaviour → ℕ → LinkSeen → Option LinkState → CoreState → Turn
link_turn b room seen None s = unchanged NoSuch s
link_turn b room seen (Some before) s =
    let step = Link seen.interface seen.link in
    if is_link before seen.link then same step s else
    changing b room step (with_link seen.interface.0 seen.link s.position) s

-- Whether a test has this value.
abbrev pub has_value : Bool → Option Bool → Bool
has_value value None = false
has_value true (Some before) = before
has_value false (Some before) = not before

-- The step `Finished`: a test, the number of its run, and the value.
pub record RunEnded : Type 0 where
  pub test : TestId
  pub run : ℕ
  pub value : Bool

-- The turn of `Finished`, by the present value of the test. The run is over, unless the reply changes nothing.
abbrev pub finished_turn : Behaviour → ℕ → RunEnded → Option (Option Bool) → CoreState → Turn
finished_turn b room ended None s = unchanged NoSuch s
finished_turn b room ended (Some before) s =
    let step = Finished ended.test ended.run ended.value in
    let over = with_run_over ended.test.0 ended.run s.position in
    if not (is_running ended.test.0 ended.run s.position.schedule) then unchanged Stale s else
    if has_value ended.value before then same step (at_position over s) else
    changing b room step (with_value ended.test.0 ended.value over) s

-- The turn of `Tick`: an owed evaluation comes before the starts.
abbrev pub tick_turn : Behaviour → ℕ → ℕ → CoreState → Turn
tick_turn b room now s =
    let p = s.position in
    if nat_lt now p.schedule.present then unchanged Backwards s else
    if p.owed then (if lacks_room room s then unchanged Busy s else ticked_after now true (evaluation b p) s) else
    ticked_after now false (no_event p) s

-- The turn of `Take`, by the queue.
abbrev pub take_turn : List CommandId → CoreState → Turn
take_turn [] s = unchanged Empty s
take_turn (command ∷ commands) s = record {
  reply = Taken command;
  next = settled Take answers.Taken [] 0 (record { position = s.position; queue = commands; trace = s.trace });
}

-- The turn of a step, if one event may queue `room` commands.
abbrev pub turn : Behaviour → ℕ → Step → CoreState → Turn
turn b room (Link interface link) s = link_turn b room (record { interface = interface; link = link }) (slice_get s.position.facts.links interface.0) s
turn b room (Finished test run value) s = finished_turn b room (record { test = test; run = run; value = value }) (slice_get s.position.facts.tests test.0) s
turn b room (Tick now) s = tick_turn b room now s
turn b room Take s = take_turn s.queue s

-- The replies to a list of steps.
abbrev pub replies : Behaviour → ℕ → List Step → CoreState → List Reply
replies b room [] s = []
replies b room (step ∷ steps) s = (turn b room step s).reply ∷ replies b room steps (turn b room step s).next

-- The state after a list of steps.
abbrev pub after_steps : Behaviour → ℕ → List Step → CoreState → CoreState
after_steps b room [] s = s
after_steps b room (step ∷ steps) s = after_steps b room steps (turn b room step s).next

-- The reply of an outcome and the lists of its step.
abbrev pub reply_of : Outcome → Lists → Reply
reply_of (outcomes.Done state cost) lists = Done state lists.effects.queued cost
reply_of outcomes.Same lists = Same
reply_of (outcomes.Ticked evaluated state cost exhausted) lists = Ticked evaluated state lists.effects.queued cost lists.starts exhausted
reply_of (outcomes.Taken command) lists = Taken command
reply_of outcomes.Empty lists = Empty
reply_of outcomes.Busy lists = Busy
reply_of outcomes.Stale lists = Stale
reply_of outcomes.Backwards lists = Backwards
reply_of outcomes.NoSuch lists = NoSuch

-- The reply to `Take`, by the returned command.
abbrev pub taken_reply : Option CommandId → Reply
taken_reply None = Empty
taken_reply (Some command) = Taken command
