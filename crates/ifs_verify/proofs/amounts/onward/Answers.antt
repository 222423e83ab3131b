use Rattle.std.proofs.Common.{ℕ, ◌≡◌, ◌+◌, ◌⊎◌, inl, inr, ap, arith}
use Rattle.ifs_base.specs.declared.op.Op.{Op}
use Rattle.ifs_base.specs.declared.op.Op.TheVariants.{JumpFalse, JumpTrue}
use Rattle.ifs_image.specs.Code.{target_of, IsSuccessor}
use Rattle.ifs_verify.specs.inner.Passes.{next_of}
use Rattle.ifs_verify.proofs.Flow.{next_successor, target_successor, onward_next}
use Rattle.ifs_verify.proofs.amounts.onward.Goals as goal

jumps_to : (op : Op) (place target : ℕ) → (op ≡ JumpFalse target) ⊎ (op ≡ JumpTrue target) → IsSuccessor op place target
jumps_to op place target (inl is) = target_successor op place target (ap target_of is)
jumps_to op place target (inr is) = target_successor op place target (ap target_of is)

goes_on : (op : Op) (place target : ℕ) → (op ≡ JumpFalse target) ⊎ (op ≡ JumpTrue target) → IsSuccessor op place (place + 1)
goes_on op place target (inl is) = next_successor op place (place + 1) (ap (λ (o : Op). next_of o place) is)
goes_on op place target (inr is) = next_successor op place (place + 1) (ap (λ (o : Op). next_of o place) is)

pub entry-requires : goal.entry-requires
entry-requires c = omega (arith, c.from.ensures, c.requires.within c.in-Jump.target (target_successor c.args.op c.args.place c.in-Jump.target (ap target_of c.in-Jump.is)))

pub entry-requires-in_default : goal.entry-requires-in_default
entry-requires-in_default c = c.requires.within (c.args.place + 1) (onward_next c.args.op c.args.place c.in_default.not-Ret c.in_default.not-Jump)

pub entry-requires-in-JumpFalse : goal.entry-requires-in-JumpFalse
entry-requires-in-JumpFalse c = omega (arith, c.from-in-JumpFalse.ensures, c.requires.within c.in-JumpFalse.target (jumps_to c.args.op c.args.place c.in-JumpFalse.target c.in-JumpFalse.is))

pub entry-requires-in-JumpFalse-2 : goal.entry-requires-in-JumpFalse-2
entry-requires-in-JumpFalse-2 c = c.requires.within (c.args.place + 1) (goes_on c.args.op c.args.place c.in-JumpFalse.target c.in-JumpFalse.is)
