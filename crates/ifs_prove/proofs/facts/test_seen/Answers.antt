-- The value of the step, or that of the core.
use Rattle.std.proofs.Common.{sym, ap, ◌∙◌}
use Rattle.ifs_prove.specs.inner.Facts.{value_over}
use Rattle.ifs_prove.proofs.Seen.{value_is_seen}
use Rattle.ifs_prove.proofs.facts.test_seen.Goals as goal

pub returns : goal.returns
returns c =
    c.value_over.ensures ∙ ap (value_over c.args.step c.args.test.0) c.test_value.ensures.value ∙ sym (value_is_seen c.args.step c.args.core.now.state.position.facts c.args.test.0)
