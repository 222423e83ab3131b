-- The contract of a step.
use Rattle.ifs_play.proofs.Made.{made_one}
use Rattle.ifs_play.proofs.making.make_step.Goals as goal

pub returns : goal.returns
returns c = λ policy known begun h. made_one policy known begun c.args.core.now c.args.step c.step.result c.step.new.self c.step.ensures.image c.step.ensures.run h
