-- What is seen of both yields.
use Rattle.ifs_solver.specs.FactSets.{fact_set_of}
use Rattle.ifs_solver.specs.Reaching.{yield_by}
use Rattle.ifs_compare.proofs.Searched.{looked}
use Rattle.ifs_compare.proofs.searching.look_whole.Goals as goal

pub returns : goal.returns
returns c = looked (fact_set_of c.args.range.now) (yield_by c.args.pair.old) (yield_by c.args.pair.new) c.in_ok-old.old c.in_ok-new.new c.look_of.result c.in_ok-old.ensures c.in_ok-new.ensures c.look_of.ensures
