use Rattle.std.proofs.Common.{ℕ, ◌++◌, ◌∷◌, [], List, sym, ap, ◌∙◌}
use Rattle.ifs_image.specs.declared.parts.TestSpec.{TestSpec}
use Rattle.ifs_core.proofs.Tables.{entry_more}
use Rattle.ifs_core.proofs.event.periods_of.Goals as goal

pub loop-test-preserved : goal.loop-test-preserved
loop-test-preserved c =
    c.push.ensures.items ∙ ap (λ (periods : List ℕ). periods ++ c.test_period.result ∷ []) c.loop-test.invariant
    ∙ sym (entry_more (λ (t : TestSpec). t.period) c.args.image.now.tests c.loop-test.test c.test_period.result c.test_period.ensures)
