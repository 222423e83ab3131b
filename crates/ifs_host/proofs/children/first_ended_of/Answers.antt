use Rattle.std.proofs.Common.{◌∙◌, ap, sym, get_or}
use Rattle.std.proofs.Math.Seq.{map-set_same}
use Rattle.ifs_host.proofs.Waiting.{first_found, one_more_runs}
use Rattle.ifs_host.proofs.children.first_ended_of.Goals as goal

pub returns-in-Some-clause-same : goal.returns-in-Some-clause-same
returns-in-Some-clause-same g c =
    map-set_same (λ it. (it.start, g.Q.Runner.number it.child)) _ _ _ _
    (ap (λ n. ((get_or c.loop-index.running c.loop-index.index c.index-running-index.result).start, n))
    c.try_wait-status.ensures.number)
    ∙ c.loop-index.invariant.same

pub returns-in-Some-clause-ends : goal.returns-in-Some-clause-ends
returns-in-Some-clause-ends g c =
    first_found (λ it. (it.start, g.Q.Runner.number it.child)) c.args.running.now c.loop-index.running c.loop-index.index
    c.index-running-index.result c.in-Some.value c.try_wait-status.result _ _ _ c.loop-index.invariant.same
    c.loop-index-test.true (sym c.value.ensures ∙ c.in-Some.is) c.loop-index.invariant.log c.try_wait-status.ensures.log

pub loop-index-preserved : goal.loop-index-preserved
loop-index-preserved g c = record {
  same =
      map-set_same (λ it. (it.start, g.Q.Runner.number it.child)) _ _ _ _
      (ap (λ n. ((get_or c.loop-index.running c.loop-index.index c.index-running-index.result).start, n))
      c.try_wait-status.ensures.number)
      ∙ c.loop-index.invariant.same;
  log =
      one_more_runs (λ it. (it.start, g.Q.Runner.number it.child)) c.args.running.now c.loop-index.running c.loop-index.index
      c.index-running-index.result c.try_wait-status.result _ _ _ c.loop-index.invariant.same c.loop-index-test.true
      (sym c.value.ensures ∙ c.in_default.is) c.loop-index.invariant.log c.try_wait-status.ensures.log;
}
