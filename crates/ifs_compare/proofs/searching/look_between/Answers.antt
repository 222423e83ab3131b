-- What is seen of both yields.
use Rattle.ifs_solver.specs.FactSets.{fact_set_of}
use Rattle.ifs_compare.specs.inner.Comparing.{middle_yield}
use Rattle.ifs_compare.proofs.Searched.{looked}
use Rattle.ifs_compare.proofs.searching.look_between.Goals as goal

pub returns : goal.returns
returns c =
    looked (fact_set_of c.args.range.now) (middle_yield c.args.pair.middles.old.now) (middle_yield c.args.pair.middles.new.now) c.in_ok-old.old c.in_ok-new.new c.look_of.result c.in_ok-old.ensures c.in_ok-new.ensures c.look_of.ensures
