-- They differ on single facts of the range.
use Rattle.std.proofs.Common.{subst}
use Rattle.ifs_base.specs.declared.op.LinkState.TheVariants.{Down}
use Rattle.ifs_solver.specs.FactSets.{fact_set_of}
use Rattle.ifs_solver.specs.Reaching.{yield_by}
use Rattle.ifs_compare.specs.inner.Comparing.{IsLook}
use Rattle.ifs_compare.proofs.Searched.{differ_at}
use Rattle.ifs_compare.proofs.searching.see_apart.Goals as goal

pub returns-in-Different : goal.returns-in-Different
returns-in-Different c =
    let point = fact_set_of c.in_ok-point.point in
    let old = yield_by c.args.pair.old in
    let new = yield_by c.args.pair.new in
    differ_at Down (fact_set_of c.args.range.now) point old new c.in_ok-point.ensures c.requires.facts (subst (IsLook point old new) c.in-Different.is c.in_ok-look_whole.ensures)
