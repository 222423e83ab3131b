use Rattle.std.proofs.Common.{length, arith, inl, inr}
use Rattle.std.proofs.lemmas.Bool.{cases_lt}
use Rattle.ifs_image.specs.Code.{code_of}
use Rattle.ifs_verify.proofs.Reaching.{code_of-routine}
use Rattle.ifs_verify.proofs.places.room.Goals as goal

pub returns : goal.returns
returns c = λ routine.
    elim (cases_lt 0 (length (code_of c.args.image.now routine))) [
      | inl some ↦ omega (arith, c.loop-routine.invariant.longest routine (omega (arith, code_of-routine c.args.image.now routine some, c.loop-routine-test.false)))
      | inr none ↦ omega arith
    ]
