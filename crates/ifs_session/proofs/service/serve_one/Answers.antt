use Rattle.ifs_session.proofs.Exchanges.{was_attended}
use Rattle.ifs_session.proofs.service.serve_one.Goals as goal

pub returns-clause-made : goal.returns-clause-made
returns-clause-made g c = λ b h. (was_attended c.serve_lines-close.result.end c.serve_lines-close.result.stopped (c.serve_lines-close.ensures.connection b h)).keeps.made

pub returns-clause-never_busy : goal.returns-clause-never_busy
returns-clause-never_busy g c = λ b h. (was_attended c.serve_lines-close.result.end c.serve_lines-close.result.stopped (c.serve_lines-close.ensures.connection b h)).keeps.never_busy
