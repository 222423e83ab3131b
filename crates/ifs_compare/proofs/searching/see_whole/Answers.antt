-- They differ on all facts of a range that has some.
use Rattle.std.proofs.Common.{subst}
use Rattle.ifs_solver.specs.FactSets.{fact_set_of}
use Rattle.ifs_solver.specs.Reaching.{yield_by}
use Rattle.ifs_compare.specs.inner.Comparing.{IsLook}
use Rattle.ifs_compare.proofs.Searched.{differ_in}
use Rattle.ifs_compare.proofs.searching.see_whole.Goals as goal

pub returns-in-Different : goal.returns-in-Different
returns-in-Different c =
    let range = fact_set_of c.args.range.now in
    let old = yield_by c.args.pair.old in
    let new = yield_by c.args.pair.new in
    differ_in range old new c.requires (subst (IsLook range old new) c.in-Different.is c.in_ok-look_whole.ensures)
