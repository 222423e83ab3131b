-- One step after the other.
use Rattle.std.proofs.Common.{◌++◌, ap, take, ◌∙◌, arith}
use Rattle.ifs_solver.specs.Situations.{situation_after}
use Rattle.ifs_prove.proofs.Changing.{same_counted, other_counted}
use Rattle.ifs_play.proofs.Made.{more_made}
use Rattle.ifs_prove.proofs.Made.{state_is}
use Rattle.ifs_prove.proofs.making.count_changes.Goals as goal
use Rattle.ifs_prove.proofs.making.count_changes.Goals.{then-state-before, else-state-before}

pub loop-step-preserved : goal.loop-step-preserved
loop-step-preserved c =
    let law = c.cores_are_in_situations.ensures in
    let steps = c.args.steps.now in
    let i = c.loop-step.step-index in
    let lt = c.loop-step-test.true in
    let h = c.loop-step.invariant in
    let within = h.within in
    elim c.if-state-before.branch [
      | then-state-before w ↦ record {
        within = omega (arith, within, w.count-is);
        made = λ policy known begun opened. more_made policy known begun steps i _ c.make_step.new.core lt (c.make_step.ensures policy known (begun ++ take i steps) (h.made policy known begun opened));
        counts = λ policy known begun opened.
            let before = h.made policy known begun opened in
            let after = c.make_step.ensures policy known (begun ++ take i steps) before in
            w.count-is
            ∙ other_counted (situation_after policy known) begun steps i _ lt c.loop-step.count c.state-before.result.0 c.state.result.0 (h.counts policy known begun opened)
            (ap (λ x. x.0) (state_is policy known (begun ++ take i steps) law c.loop-step.core before c.state-before.result c.state-before.ensures.value))
            (ap (λ x. x.0) (state_is policy known _ law c.make_step.new.core after c.state.result c.state.ensures.value)) w.if-state-before.true;
      }
      | else-state-before w ↦ record {
        within = omega (arith, within, w.count-is);
        made = λ policy known begun opened. more_made policy known begun steps i _ c.make_step.new.core lt (c.make_step.ensures policy known (begun ++ take i steps) (h.made policy known begun opened));
        counts = λ policy known begun opened.
            let before = h.made policy known begun opened in
            let after = c.make_step.ensures policy known (begun ++ take i steps) before in
            w.count-is
            ∙ same_counted (situation_after policy known) begun steps i _ lt c.loop-step.count c.state-before.result.0 c.state.result.0 (h.counts policy known begun opened)
            (ap (λ x. x.0) (state_is policy known (begun ++ take i steps) law c.loop-step.core before c.state-before.result c.state-before.ensures.value))
            (ap (λ x. x.0) (state_is policy known _ law c.make_step.new.core after c.state.result c.state.ensures.value)) w.if-state-before.false;
      }
    ]
