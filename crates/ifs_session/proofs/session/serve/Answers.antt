use Rattle.ifs_session.proofs.session.serve.Goals as goal

pub returns-in-Ok-clause-served : goal.returns-in-Ok-clause-served
returns-in-Ok-clause-served g c = λ b h. rw c.in-Ok.is (c.serve_request.ensures.served b h)
