use Rattle.std.proofs.Common.{◌≡◌, Some, refl, ap, ◌∙◌, Bool, true, false, not}
use Rattle.ifs_base.specs.declared.op.Op.{Op}
use Rattle.ifs_base.specs.declared.op.Op.TheVariants.{Ret}
use Rattle.std.proofs.lemmas.Bool.{OnTrue_from}
use Rattle.ifs_verify.specs.Refused.{ReturnsOthers}
use Rattle.ifs_image.specs.Code.{op_at, results_of}
use Rattle.ifs_verify.proofs.typing.returns_others.Goals as goal

is_ret : (op : Op) (P : Type 0) → ¬ (op ≡ Ret → P) → op ≡ Ret
is_ret Ret P broken = refl
is_ret op P broken = absurd (broken (λ e. cc))

both : (b : Bool) → b ≡ true → not b ≡ true → ⊥
both true first second = cc
both false first second = cc

pub returns-clause-others : goal.returns-clause-others
returns-clause-others c = OnTrue_from (not c.keeps_results.result) (ReturnsOthers c.args.here.now.image.now c.args.here.now.routine c.args.here.now.place) (λ yes.
    let broken : ¬ (c.args.here.now.op ≡ Ret → c.args.before.now ≡ results_of c.args.here.now.image.now c.args.here.now.routine) =
    λ kept. let held = c.keeps_results.ensures.1 kept in both c.keeps_results.result held yes in
    let at_ret : op_at c.args.here.now.image.now c.args.here.now.routine c.args.here.now.place ≡ Some Ret =
    c.requires.op ∙ ap (λ (o : Op). Some o) (is_ret c.args.here.now.op (c.args.before.now ≡ results_of c.args.here.now.image.now c.args.here.now.routine) broken) in
    (c.args.before.now, at_ret, c.requires.leads, λ same. broken (λ e. same)))
