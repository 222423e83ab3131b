use Rattle.std.proofs.Common.{sym, ◌∙◌}
use Rattle.ifs_session.proofs.Spaces.{before_first-some, after_first-some, before_first-none, after_first-none}
use Rattle.ifs_session.proofs.request.split_at_space.Goals as goal

pub returns-in-Some-clause-before : goal.returns-in-Some-clause-before
returns-in-Some-clause-before c = before_first-some c.args.text.now c.in-Some.space (sym c.first_space.ensures ∙ c.in-Some.is)

pub returns-in-Some-clause-after : goal.returns-in-Some-clause-after
returns-in-Some-clause-after c = after_first-some c.args.text.now c.in-Some.space (sym c.first_space.ensures ∙ c.in-Some.is)

pub returns-in-None-clause-before : goal.returns-in-None-clause-before
returns-in-None-clause-before c = before_first-none c.args.text.now (sym c.first_space.ensures ∙ c.in-None.is)

pub returns-in-None-clause-after : goal.returns-in-None-clause-after
returns-in-None-clause-after c = after_first-none c.args.text.now (sym c.first_space.ensures ∙ c.in-None.is)
