use Rattle.ifs_session.proofs.Accounting.{followed}
use Rattle.ifs_session.proofs.making.make.Goals as goal

pub returns-clause-follows : goal.returns-clause-follows
returns-clause-follows g c = followed _ _ _ _ _ _ _ c.empty_queue.ensures.image c.tell_host.ensures c.empty_queue.ensures.told
