-- One more place.
use Rattle.ifs_lint.specs.Naming.{on_places, places_named}
use Rattle.ifs_lint.proofs.Telling.{one_more}
use Rattle.ifs_lint.proofs.linting.said_of_places.Goals as goal

pub loop-place-preserved : goal.loop-place-preserved
loop-place-preserved c =
    one_more places_named c.args.answers.now c.loop-place.place _ (on_places c.loop-place.findings.items) (on_places c.put_place.new.findings.items) c.loop-place-test.true c.loop-place.invariant c.in_ok-put_place.ensures
