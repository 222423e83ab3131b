use Rattle.std.proofs.Common.{ap, length, ◌∙◌}
use Rattle.ifs_sched.specs.Schedule.{Timetable, entered}
use Rattle.ifs_core.proofs.Kept.{length-kept_values}
use Rattle.ifs_core.proofs.event.enter.Goals as goal

pub returns-clause-position : goal.returns-clause-position
returns-clause-position c = record {
  facts = record {
    links = c.requires.position.facts.links;
    tests = ap length c.values_after_entry-position.ensures ∙ length-kept_values c.always_of-always.result.mask c.as_slice.result.now ∙ ap length c.as_slice.ensures.value ∙ c.requires.position.facts.tests;
  };
  current = c.requires.next;
  tests = c.enter.ensures.same_number ∙ c.requires.position.tests;
}

pub returns-clause-moment : goal.returns-clause-moment
unfolding entered
returns-clause-moment c = ap (λ (s : Timetable). s.present) c.enter.ensures.after
