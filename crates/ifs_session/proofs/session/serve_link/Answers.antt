use Rattle.ifs_session.proofs.session.serve_link.Goals as goal

pub returns-in-Some-clause-served : goal.returns-in-Some-clause-served
returns-in-Some-clause-served g c = λ b h. rw (← c.iface_of.ensures, c.in-Some.is) (c.make_step.ensures.served b h)
