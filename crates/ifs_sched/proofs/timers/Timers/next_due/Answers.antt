-- The first entry has the least moment, and without one no test waits.
use Rattle.ifs_sched.proofs.Entries.{nobody}
use Rattle.ifs_sched.proofs.Waiting.{next_from_first, next_from_none}
use Rattle.ifs_sched.proofs.timers.Timers.next_due.Goals as goal

pub returns-in-len1-up : goal.returns-in-len1-up
returns-in-len1-up c =
    rw (← c.self.view_is, c.as_slice.ensures.value)
    (next_from_first c.self.inside.tests.items c.self.inside.idle.items nobody c.self.invariant.1 (rw (← c.as_slice.ensures.value) c.in-len1-up.len_at_least))

pub returns-in-empty : goal.returns-in-empty
returns-in-empty c =
    rw (← c.self.view_is)
    (next_from_none c.self.inside.tests.items c.self.inside.idle.items c.self.invariant.1 (rw (← c.as_slice.ensures.value) c.in-empty.len_below))
