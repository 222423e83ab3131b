use Rattle.std.proofs.Common.{ℕ, ◌<◌, length, arith, below_more}
use Rattle.ifs_image.specs.Code.{code_of}
use Rattle.ifs_verify.specs.Rules.{IsReached}
use Rattle.ifs_verify.proofs.Reaching.{code_of-routine}
use Rattle.ifs_verify.proofs.reach.check_reached.Goals as goal

pub loop-routine-preserved : goal.loop-routine-preserved
loop-routine-preserved c =
    below_more (λ (routine : ℕ). (to : ℕ) → 0 < to → to < length (code_of c.args.image.now routine) → IsReached c.args.image.now routine to)
    c.loop-routine.routine c.loop-routine.invariant c.in_ok-check_reached_in.ensures.kept

pub returns-clause-kept : goal.returns-clause-kept
returns-clause-kept c = λ routine to positive within.
    let is_routine = code_of-routine c.args.image.now routine (omega arith) in
    c.loop-routine.invariant routine (omega (arith, is_routine)) to positive within
