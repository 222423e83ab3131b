-- The entry is after those that come before it, and before all others.
use Rattle.ifs_sched.proofs.Entries.{ascending-put, put-contains}
use Rattle.ifs_sched.proofs.order.put.Goals as goal

pub returns-clause-ascending : goal.returns-clause-ascending
returns-clause-ascending c =
    rw (c.insert.ensures.items, c.place_of-place.ensures.value, c.as_slice.ensures.value)
    (ascending-put c.args.entries.now.items (c.args.due, c.args.test) c.requires.ascending c.requires.other)

pub returns-clause-added : goal.returns-clause-added
returns-clause-added c = λ e. rw (c.insert.ensures.items) (put-contains c.args.entries.now.items c.place_of-place.result (c.args.due, c.args.test) e)
