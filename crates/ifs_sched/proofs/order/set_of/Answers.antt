-- The test of one more entry is added.
use Rattle.std.proofs.Common.{◌||◌, ◌==◌, get_or, ap, sym, ◌∙◌}
use Rattle.ifs_sched.proofs.Entries.{nobody}
use Rattle.ifs_sched.proofs.Masks.{has_test-added, list_any-more}
use Rattle.ifs_sched.proofs.order.set_of.Goals as goal

pub loop-test-preserved : goal.loop-test-preserved
loop-test-preserved c = λ test h.
    let entries = c.args.entries.now in
    let at = c.loop-test.test-index in
    let entry = get_or entries at nobody in
    has_test-added c.loop-test.mask entry.1.0 test (c.requires at nobody c.loop-test-test.true)
    ∙ ap (λ b. b || (entry.1.0 == test)) (c.loop-test.invariant test h)
    ∙ sym (list_any-more (λ e. e.1.0 == test) entries at nobody c.loop-test-test.true)
