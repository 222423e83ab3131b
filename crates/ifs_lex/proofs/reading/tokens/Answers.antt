use Rattle.std.proofs.Common.{ap, Err}
use Rattle.ifs_lex.proofs.Endings.{spelled_ends_once, spelled_once, spelled_none}
use Rattle.ifs_lex.proofs.Numbers.{spelled_numbered}
use Rattle.ifs_lex.proofs.Telling.{told_stuck}
use Rattle.ifs_lex.proofs.reading.tokens.Goals as goal

pub returns-in-Ok-clause-ended : goal.returns-in-Ok-clause-ended
returns-in-Ok-clause-ended c = spelled_ends_once _ _ _ c.in-Ok.ensures.wanted

pub returns-in-Ok-clause-numbered : goal.returns-in-Ok-clause-numbered
returns-in-Ok-clause-numbered c = spelled_numbered _ _ _ c.in-Ok.ensures.wanted

pub returns-in-Ok-clause-only : goal.returns-in-Ok-clause-only
returns-in-Ok-clause-only c = λ spelled h other. spelled_once _ _ _ spelled c.in-Ok.ensures.wanted h

pub returns-in-Err-clause-only : goal.returns-in-Err-clause-only
returns-in-Err-clause-only c = λ spelled h other. absurd (spelled_none _ _ spelled _ h (c.in-Err.ensures.wanted (λ e. other (ap (λ f. Err f) e))))

pub returns-in-Err-clause-stuck : goal.returns-in-Err-clause-stuck
returns-in-Err-clause-stuck c = told_stuck _ _ c.in-Err.fault c.in-Err.ensures.wanted
