use Rattle.ifs_session.proofs.Quoting.{run_goes_on}
use Rattle.ifs_session.proofs.words.plain_length.Goals as goal

pub loop-index-preserved : goal.loop-index-preserved
loop-index-preserved c = run_goes_on c.args.text.now c.loop-index.index c.loop-index-test.true c.loop-index.invariant c.if-not-is_plain.ensures
