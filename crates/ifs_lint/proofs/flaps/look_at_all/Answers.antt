-- From each state that is entered, and from no other one.
use Rattle.std.proofs.Common.{subst, sym}
use Rattle.ifs_lint.specs.inner.Going.{AreRounds}
use Rattle.ifs_lint.proofs.flaps.look_at_all.Goals as goal
use Rattle.ifs_lint.proofs.flaps.look_at_all.Goals.{then-eq+in_ok-look, else-eq}

pub loop-number-preserved : goal.loop-number-preserved
loop-number-preserved c =
    let policy = c.args.compiled.policy.now in
    elim c.if-eq.branch [
      | then-eq+in_ok-look w ↦ subst (λ flaps. AreRounds policy flaps.found.items) (sym w.flaps-is) w.in_ok-look.ensures
      | else-eq w ↦ subst (λ flaps. AreRounds policy flaps.found.items) (sym w.flaps-is) c.loop-number.invariant
    ]
