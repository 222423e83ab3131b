use Rattle.std.proofs.Common.{sym, ◌∙◌}
use Rattle.ifs_session.proofs.Answering.{no_step}
use Rattle.ifs_session.proofs.service.answer.Goals as goal

pub returns-in-Some-clause-acts : goal.returns-in-Some-clause-acts
returns-in-Some-clause-acts g c = λ b h. rw (sym c.step_of.ensures ∙ c.in-Some.is) (c.answer_step.ensures.acts b h)

pub returns-in-Some-clause-replies : goal.returns-in-Some-clause-replies
returns-in-Some-clause-replies g c = λ b h. rw (sym c.step_of.ensures ∙ c.in-Some.is) (c.answer_step.ensures.replies b h)

pub returns-in-Some-clause-quiet : goal.returns-in-Some-clause-quiet
returns-in-Some-clause-quiet g c = λ is. let none = sym c.in-Some.is ∙ c.step_of.ensures ∙ no_step c.args.core.now.image _ is in cc
