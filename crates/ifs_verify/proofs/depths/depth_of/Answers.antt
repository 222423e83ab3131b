use Rattle.std.proofs.Common.{ℕ, ◌≡◌, ◌<◌, List, length, Some, arith, ap, sym, ◌∙◌, subst, inl, inr}
use Rattle.std.specs.List.{slice_get}
use Rattle.std.proofs.lemmas.Bool.{cases_eq}
use Rattle.std.proofs.lemmas.Option.{slice_get_within, same_Some}
use Rattle.ifs_base.specs.declared.op.Op.{Op}
use Rattle.ifs_base.specs.declared.op.Op.TheVariants.{Call}
use Rattle.ifs_image.specs.Code.{op_at, code_of}
use Rattle.ifs_verify.proofs.Existing.{frames_over}
use Rattle.ifs_verify.proofs.depths.depth_of.Goals as goal

pub deepened-depth-requires-clause-callee : goal.deepened-depth-requires-clause-callee
deepened-depth-requires-clause-callee c = λ callee is.
    let here : op_at c.args.image.now c.args.routine c.loop-place.place ≡ Some c.op_at.result = subst (λ (code : List Op). slice_get code c.loop-place.place ≡ Some c.op_at.result) c.code-code.ensures c.op_at.ensures in
    let lower = c.requires.plain.calls c.args.routine c.loop-place.place callee (here ∙ ap (λ (o : Op). Some o) is) in
    omega (arith, lower, c.requires.lower.long)

pub loop-place-preserved : goal.loop-place-preserved
loop-place-preserved c =
    let here : op_at c.args.image.now c.args.routine c.loop-place.place ≡ Some c.op_at.result = subst (λ (code : List Op). slice_get code c.loop-place.place ≡ Some c.op_at.result) c.code-code.ensures c.op_at.ensures in
    record {
      own = omega (arith, c.loop-place.invariant.own, c.deepened-depth.ensures.more);
      calls = λ place callee below is.
          elim (cases_eq place c.loop-place.place) [
            | inl e ↦
                let same : c.op_at.result ≡ Call callee =
                same_Some c.op_at.result (Call callee) (sym here ∙ subst (λ (n : ℕ). op_at c.args.image.now c.args.routine n ≡ Some (Call callee)) e is) in
                c.deepened-depth.ensures.call callee same
            | inr ne ↦ omega (arith, c.loop-place.invariant.calls place callee (omega arith) is, c.deepened-depth.ensures.more)
          ];
      least = λ bound holds.
          c.deepened-depth.ensures.least bound (c.loop-place.invariant.least bound holds)
          (λ callee is. holds.calls c.loop-place.place callee (here ∙ ap (λ (o : Op). Some o) is));
    }

pub returns-clause-holds : goal.returns-clause-holds
returns-clause-holds c = record {
  own = c.loop-place.invariant.own;
  calls = λ place callee is.
      let within : place < length (code_of c.args.image.now c.args.routine) = slice_get_within (code_of c.args.image.now c.args.routine) place (Call callee) is in
      let below : place < length c.code-code.result = subst (λ (code : List Op). place < length code) (sym c.code-code.ensures) within in
      c.loop-place.invariant.calls place callee (omega arith) is;
}

pub returns-clause-over : goal.returns-clause-over
returns-clause-over c = λ over.
    frames_over c.args.image.now c.args.depths.now c.args.routine c.loop-place.depth c.requires.plain c.requires.lower c.requires.routine c.loop-place.invariant.least over
