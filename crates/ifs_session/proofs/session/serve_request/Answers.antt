use Rattle.ifs_session.proofs.session.serve_request.Goals as goal

pub returns-in-Link-clause-served : goal.returns-in-Link-clause-served
returns-in-Link-clause-served g c = λ b h. rw c.in-Link.is (c.serve_link.ensures.served b h)

pub returns-in-Result-clause-served : goal.returns-in-Result-clause-served
returns-in-Result-clause-served g c = λ b h. rw c.in-Result.is (c.make_step.ensures.served b h)

pub returns-in-Tick-clause-served : goal.returns-in-Tick-clause-served
returns-in-Tick-clause-served g c = λ b h. rw c.in-Tick.is (c.make_step-in-Tick.ensures.served b h)

pub returns-in-Take-clause-served : goal.returns-in-Take-clause-served
returns-in-Take-clause-served g c = λ b h. rw c.in-Take.is (c.make_step-in-Take.ensures.served b h)
