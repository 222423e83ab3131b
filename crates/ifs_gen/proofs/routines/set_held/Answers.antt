-- One more jump, and all jumps.
use Rattle.std.proofs.Common.{◌∙◌, ◌+◌, ◌*◌, ◌<◌, ap, subst, length}
use Rattle.std.specs.Prelude.{slice_set}
use Rattle.std.proofs.Math.ListN.{length-set}
use Rattle.ifs_base.specs.declared.op.Op.TheVariants.{JumpFalse}
use Rattle.ifs_gen.proofs.Chains.{set_next}
use Rattle.ifs_gen.proofs.routines.set_held.Goals as goal

pub loop-index-preserved : goal.loop-index-preserved
loop-index-preserved c =
    let now = c.loop-index.code.items in
    let next = c.set_jump.new.code.items in
    let long = c.loop-index.invariant.long in
    record {
      long = ap length c.set_jump.ensures ∙ length-set now (2 * c.loop-index.index + 1) (JumpFalse (length now)) ∙ long;
      set = λ tests rest count_is code_is.
          set_next (length c.args.code.now.items) tests c.loop-index.index rest now next (subst (λ n. c.loop-index.index < n) count_is c.loop-index-test.true)
          (c.loop-index.invariant.set tests rest count_is code_is) (c.set_jump.ensures ∙ ap (λ n. slice_set now (2 * c.loop-index.index + 1) (JumpFalse n)) long);
    }
