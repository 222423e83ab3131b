-- One more round.
use Rattle.ifs_lint.proofs.Adding.{one_more_round}
use Rattle.ifs_lint.proofs.flaps.Flaps.keep.Goals as goal

pub returns : goal.returns
returns c = λ policy round all. one_more_round policy c.args.self.now.found.items c.push.new.self.items _ c.in_ok-push.ensures.items round all
