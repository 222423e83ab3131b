use Rattle.std.proofs.Common.{◌<◌, ◌++◌, ◌∷◌, [], Bool, List, Option, None, length, sym, ap, ◌∙◌, arith}
use Rattle.ifs_image.specs.declared.parts.TestSpec.{TestSpec}
use Rattle.ifs_core.proofs.Tables.{constants_more}
use Rattle.ifs_core.proofs.event.no_values.Goals as goal

pub loop-test-preserved : goal.loop-test-preserved
loop-test-preserved c =
    let inside : c.loop-test._test < length c.args.image.now.tests = omega (arith, c.loop-test-test.true, c.tests-test-end.ensures) in
    c.push.ensures.items ∙ ap (λ (values : List (Option Bool)). values ++ None ∷ []) c.loop-test.invariant ∙ sym (constants_more None (λ (t : TestSpec). t.period) c.args.image.now.tests c.loop-test._test inside)
