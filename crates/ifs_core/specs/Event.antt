-- Events: what handlers do to a core, given the effects of each handler.
use Rattle.std.specs.Prelude.{ℕ, ◌≡◌, ◌+◌, Bool, true, false, ◌==◌, if◌then◌else◌, List, ◌++◌, map, Option, Some, None}
use Rattle.std.specs.List.{enumerate_from}
use Rattle.ifs_base.specs.declared.ids.CommandId.{CommandId}
use Rattle.ifs_base.specs.declared.ids.StateId.{StateId}
use Rattle.ifs_base.specs.declared.op.LinkState.{LinkState}
use Rattle.ifs_base.specs.Facts.{Facts}
use Rattle.ifs_sched.specs.Schedule.{Timetable, all_off, entered, has_test}
use Rattle.ifs_base.specs.Effects.{Effects, later_wish}

-- A handler: an init or a body, of the always part or of a state.
pub data Handler : Type 0 where
  AlwaysInit : Handler
  AlwaysBody : Handler
  Init : (state : ℕ) → Handler
  Body : (state : ℕ) → Handler

-- A behaviour: the effects and the cost of each handler under some facts, and the masks of active tests of the always part and of each state.
pub record Behaviour : Type 0 where
  pub answer : Handler → Facts → Effects
  pub cost : Handler → Facts → ℕ
  pub always : ℕ
  pub active : ℕ → ℕ

-- The position of a core: its known facts, the current state, whether an evaluation is owed, and the schedule of tests.
pub record Position : Type 0 where
  pub facts : Facts
  pub current : StateId
  pub owed : Bool
  pub schedule : Timetable

-- An event: the position afterwards, the queued commands in order, and the cost.
pub record Event : Type 0 where
  pub position : Position
  pub commands : List CommandId
  pub cost : ℕ

-- The position of the opening, from given link states and a first run number: no test has a value, and the initial state is entered at moment 0.
abbrev pub opening_position : Behaviour → List LinkState → List ℕ → ℕ → StateId → Position
opening_position b links periods first_run initial = record {
  facts = record { links = links; tests = map (λ _. None) periods };
  current = initial;
  owed = true;
  schedule = entered b.always (b.active initial.0) 0 (all_off periods first_run);
}

-- The event of the opening: the always init and then the initial state's init run, and their wishes are dropped.
abbrev pub opening : Behaviour → List LinkState → List ℕ → ℕ → StateId → Event
opening b links periods first_run initial =
    let position = opening_position b links periods first_run initial in
    let always = b.answer AlwaysInit position.facts in
    let own = b.answer (Init initial.0) position.facts in
    record { position = position; commands = always.commands ++ own.commands; cost = b.cost AlwaysInit position.facts + b.cost (Init initial.0) position.facts }

-- The value of a test after an entry: it is lost if the test is outside the always set.
abbrev pub kept_value : ℕ → ℕ → Option Bool → Option Bool
kept_value always test value = if has_test always test then value else None

-- The values of all tests after an entry.
abbrev pub kept_values : ℕ → List (Option Bool) → List (Option Bool)
kept_values always values = map (λ entry. kept_value always entry.0 entry.1) (enumerate_from 0 values)

-- The position after the entry of a state at the present moment: its tests are reset, and an evaluation is owed.
abbrev pub entering : Behaviour → StateId → Position → Position
entering b next p = record {
  facts = record { links = p.facts.links; tests = kept_values b.always p.facts.tests };
  current = next;
  owed = true;
  schedule = entered b.always (b.active next.0) p.schedule.present p.schedule;
}

-- The state that a wish leads to, if it is not the current one.
abbrev pub change_of : StateId → Option StateId → Option StateId
change_of current None = None
change_of current (Some next) = if next.0 == current.0 then None else Some next

-- The event of the bodies, and if a change follows, the entry of the next state with its init, whose wish is dropped.
abbrev pub with_change : Behaviour → Option StateId → Event → Event
with_change b None bodies = bodies
with_change b (Some next) bodies =
    let position = entering b next bodies.position in
    let init = b.answer (Init next.0) position.facts in
    record { position = position; commands = bodies.commands ++ init.commands; cost = bodies.cost + b.cost (Init next.0) position.facts }

-- An evaluation: the always body, the current state's body, and the change that the last wish of both leads to.
abbrev pub evaluation : Behaviour → Position → Event
evaluation b p =
    let always = b.answer AlwaysBody p.facts in
    let own = b.answer (Body p.current.0) p.facts in
    with_change b (change_of p.current (later_wish always.wish own.wish))
    (record { position = record p { owed = false }; commands = always.commands ++ own.commands; cost = b.cost AlwaysBody p.facts + b.cost (Body p.current.0) p.facts })

-- An event, made of its parts.
abbrev pub event_with : Position → List CommandId → ℕ → Event
event_with position commands cost = record { position = position; commands = commands; cost = cost }

-- Values are the parts of an event.
pub record IsEvent (e : Event) (position : Position) (commands : List CommandId) (cost : ℕ) : Type 0 where
  pub stands : position ≡ e.position
  pub queues : commands ≡ e.commands
  pub costs : cost ≡ e.cost
