-- The link state of the step, or that of the core.
use Rattle.std.proofs.Common.{sym, ap, ◌∙◌}
use Rattle.ifs_prove.specs.inner.Facts.{link_over}
use Rattle.ifs_prove.proofs.Seen.{link_is_seen}
use Rattle.ifs_prove.proofs.facts.link_seen.Goals as goal

pub returns : goal.returns
returns c =
    c.link_over.ensures ∙ ap (link_over c.args.step c.args.interface.0) c.link.ensures.value ∙ sym (link_is_seen c.args.step c.args.core.now.state.position.facts c.args.interface.0)
