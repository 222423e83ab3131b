use Rattle.std.proofs.Common.{◌∙◌, ◌<◌, ◌++◌, ◌∷◌, [], List, sym, ap, length, take, arith}
use Rattle.std.proofs.lemmas.List.{take_more}
use Rattle.std.proofs.lemmas.Option.{get_or_from_slice_get}
use Rattle.ifs_base.specs.declared.op.Op.{Op}
use Rattle.ifs_image.proofs.copying.code_copied.Goals as goal

pub loop-place-preserved : goal.loop-place-preserved
loop-place-preserved c =
    let code = c.args.code.now in
    let place = c.loop-place.place in
    let op = c.op.result in
    let inside : place < length code = omega (arith, c.loop-place-test.true, c.len-place-end.ensures) in
    let at = get_or_from_slice_get code place op op c.op.ensures.op in
    c.in_ok-push.ensures.items ∙ ap (λ (before : List Op). before ++ op ∷ []) c.loop-place.invariant
    ∙ ap (λ (next : Op). take place code ++ next ∷ []) (sym at) ∙ sym (take_more code place op inside)
