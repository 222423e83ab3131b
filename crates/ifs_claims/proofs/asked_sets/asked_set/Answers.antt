-- One more domain.
use Rattle.ifs_claims.proofs.AskedFor.{asked_more}
use Rattle.ifs_claims.proofs.asked_sets.asked_set.Goals as goal

pub loop-test-preserved : goal.loop-test-preserved
loop-test-preserved c =
    asked_more c.always.result.now.body c.args.own.now c.loop-test.test c.loop-test.tests.items c.push.new.self.items c.domain_of-domain.result c.loop-test.invariant c.in_ok-push.ensures.items c.domain_of-domain.ensures
