-- Tests that are off have no entries.
use Rattle.std.proofs.Common.{◌≡◌, map, ap, ◌∙◌, arith}
use Rattle.std.proofs.lemmas.List.{length-map, take_all}
use Rattle.ifs_sched.specs.Timer.{inactive}
use Rattle.ifs_sched.proofs.Waiting.{nobody_waits, off_waits}
use Rattle.ifs_sched.proofs.timers.Timers.new.Goals as goal

pub invariant_of-result : goal.invariant_of-result
invariant_of-result c =
    let all : c.loop-period.tests.items ≡ map inactive c.args.periods.now =
    c.loop-period.invariant ∙ ap (map inactive) (take_all c.loop-period.period-index c.args.periods.now c.loop-period-test.false) in
    rw (c.new.ensures, all) ((let n = length-map c.args.periods.now inactive in omega (arith, c.requires)), nobody_waits (map inactive c.args.periods.now) (off_waits c.args.periods.now))
