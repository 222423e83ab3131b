-- One step after the other.
use Rattle.std.proofs.Common.{◌++◌, ap, take, ◌∙◌}
use Rattle.ifs_play.proofs.Made.{more_made}
use Rattle.ifs_solver.specs.Situations.{situation_after}
use Rattle.ifs_lint.proofs.Entered.{same_entered, other_entered, all_entered}
use Rattle.ifs_lint.proofs.Twice.{state_is}
use Rattle.ifs_lint.proofs.going.entered_by.Goals as goal
use Rattle.ifs_lint.proofs.going.entered_by.Goals.{then-after-before+in_ok-push, else-after-before}

pub loop-step-preserved : goal.loop-step-preserved
loop-step-preserved c =
    let law = c.cores_are_in_situations.ensures in
    let steps = c.args.steps.now in
    let i = c.loop-step.step-index in
    let lt = c.loop-step-test.true in
    let h = c.loop-step.invariant in
    record {
      made = λ policy known begun opened. more_made policy known begun steps i _ c.make_step.new.core lt (c.make_step.ensures policy known (begun ++ take i steps) (h.made policy known begun opened));
      entered = λ policy known begun opened.
          let made = h.made policy known begun opened in
          let was = state_is policy known (begun ++ take i steps) law c.loop-step.core made c.state-before.result c.state-before.ensures.value in
          let is = state_is policy known _ law c.make_step.new.core (c.make_step.ensures policy known (begun ++ take i steps) made) c.state-after.result c.state-after.ensures.value in
          elim c.if-after-before.branch [
            | then-after-before+in_ok-push w ↦
                ap (λ states. states.items) w.states-is ∙ w.in_ok-push.ensures.items
                ∙ other_entered (situation_after policy known) begun steps i _ lt c.loop-step.states.items c.state-before.result c.state-after.result (h.entered policy known begun opened) was is w.if-after-before.true
            | else-after-before w ↦
                ap (λ states. states.items) w.states-is
                ∙ same_entered (situation_after policy known) begun steps i _ lt c.loop-step.states.items c.state-before.result c.state-after.result (h.entered policy known begun opened) was is w.if-after-before.false
          ];
    }

pub returns : goal.returns
returns c = λ policy known begun opened.
    all_entered (situation_after policy known) begun c.args.steps.now c.loop-step.step-index c.loop-step.states.items c.loop-step-test.false (c.loop-step.invariant.entered policy known begun opened)
