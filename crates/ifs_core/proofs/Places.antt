-- Changes of a position or a state of an image's run leave one.
use Rattle.std.proofs.Common.{◌≡◌, ℕ, ◌+◌, ◌-◌, ◌≤◌, ◌<◌, Bool, false, List, [], ◌∷◌}
use Rattle.std.proofs.Common.{◌++◌, Some, length, ◌∙◌, arith, length-append, length-set}
use Rattle.std.specs.Prelude.{All}
use Rattle.std.proofs.lemmas.List.Elements.{All-append, All-push, All-drop}
use Rattle.ifs_base.specs.declared.ids.CommandId.{CommandId}
use Rattle.ifs_base.specs.declared.ids.StateId.{StateId}
use Rattle.ifs_base.specs.declared.op.LinkState.{LinkState}
use Rattle.ifs_image.specs.declared.parts.ImageParts.{ImageParts}
use Rattle.ifs_sched.specs.Schedule.{Timetable, entered, entered_test, ticked, ticked_test, finished}
use Rattle.ifs_sched.proofs.ByIndex.{as_many_by_index}
use Rattle.ifs_machine.specs.Run.{IsCommand}
use Rattle.ifs_core.specs.declared.step.Step.{Step}
use Rattle.ifs_core.specs.declared.step.Answer.{Answer}
use Rattle.ifs_core.specs.declared.step.Record.{Record}
use Rattle.ifs_core.specs.Event.{Behaviour, Position, entering}
use Rattle.ifs_core.specs.Gateway.{IsListed, IsPositionOf, IsStateOf}
use Rattle.ifs_core.specs.Steps.{CoreState, at_position, settled, traced, with_link, with_value, with_run_over}
use Rattle.ifs_core.proofs.Kept.{length-kept_values}

pub length-entered : (always own now : ℕ) (s : Timetable) → length (entered always own now s).tests ≡ length s.tests
unfolding entered
length-entered always own now s = as_many_by_index (entered_test always own now) s.tests

length-ticked : (now : ℕ) (s : Timetable) → length (ticked now s).tests ≡ length s.tests
unfolding ticked
length-ticked now s = as_many_by_index (ticked_test now s.next_run s.tests) s.tests

length-finished : (test run : ℕ) (s : Timetable) → length (finished test run s).tests ≡ length s.tests
unfolding finished
length-finished test run s = as_many_by_index _ s.tests

module _ (image : ImageParts) where
  pub entering_stays : (b : Behaviour) (next : StateId) (p : Position) → IsPositionOf image p → next.0 < length image.states → IsPositionOf image (entering b next p)
  entering_stays b next p is within = record {
    facts = record { links = is.facts.links; tests = length-kept_values b.always p.facts.tests ∙ is.facts.tests };
    current = within;
    tests = length-entered b.always (b.active next.0) p.schedule.present p.schedule ∙ is.tests;
  }

  pub paid_stays : (p : Position) → IsPositionOf image p → IsPositionOf image (record p { owed = false })
  paid_stays p is = record { facts = is.facts; current = is.current; tests = is.tests }

  pub link_stays : (interface : ℕ) (link : LinkState) (p : Position) → IsPositionOf image p → IsPositionOf image (with_link interface link p)
  link_stays interface link p is = record {
    facts = record { links = length-set p.facts.links interface link ∙ is.facts.links; tests = is.facts.tests };
    current = is.current;
    tests = is.tests;
  }

  pub value_stays : (test : ℕ) (value : Bool) (p : Position) → IsPositionOf image p → IsPositionOf image (with_value test value p)
  value_stays test value p is = record {
    facts = record { links = is.facts.links; tests = length-set p.facts.tests test (Some value) ∙ is.facts.tests };
    current = is.current;
    tests = is.tests;
  }

  pub run_over_stays : (test run : ℕ) (p : Position) → IsPositionOf image p → IsPositionOf image (with_run_over test run p)
  run_over_stays test run p is = record { facts = is.facts; current = is.current; tests = length-finished test run p.schedule ∙ is.tests }

  pub ticked_stays : (now : ℕ) (p : Position) → IsPositionOf image p → IsPositionOf image (record p { schedule = ticked now p.schedule })
  ticked_stays now p is = record { facts = is.facts; current = is.current; tests = length-ticked now p.schedule ∙ is.tests }

  -- One more record has a state of the list.
  traced_stays : (r : Record) (trace : List Record) → IsListed image r.state → All (λ r. IsListed image r.state) trace → All (λ r. IsListed image r.state) (traced r trace)
  traced_stays r trace here before =
      let P : Record → Type 0 = λ r. IsListed image r.state in
      All-drop P (length (trace ++ r ∷ []) - 256) (trace ++ r ∷ []) (All-push P trace r before here)

  -- Commands of the table are appended to a queue that has room for them.
  pub settled_stays : (step : Step) (answer : Answer) (commands : List CommandId) (cost : ℕ) (p : Position) (s : CoreState) → IsStateOf image s → IsPositionOf image p
      → length s.queue + length commands ≤ 64 → All (IsCommand image) commands → IsStateOf image (settled step answer commands cost (at_position p s))
  settled_stays step answer commands cost p s is at room known = record {
    position = at;
    queue = omega (arith, room, length-append s.queue commands);
    commands = All-append (IsCommand image) s.queue commands is.commands known;
    trace = traced_stays (record { step = step; answer = answer; state = p.current; queued = length commands; cost = cost }) s.trace at.current is.trace;
  }
