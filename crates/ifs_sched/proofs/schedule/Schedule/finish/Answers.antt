-- A test that does not run under that number stays as it is.
use Rattle.std.proofs.Common.{sym, ◌∙◌, refl}
use Rattle.ifs_sched.proofs.Finishing.{finished_same}
use Rattle.ifs_sched.proofs.schedule.Schedule.finish.Goals as goal

pub returns-then-not-finish-clause-err : goal.returns-then-not-finish-clause-err
returns-then-not-finish-clause-err c =
    let same = finished_same c.self.inside.timers c.args.test.0 c.args.run (sym c.finish.ensures.value ∙ c.if-not-finish.true) in
    rw (← c.self.view_is, c.finish.ensures.after, same) refl
