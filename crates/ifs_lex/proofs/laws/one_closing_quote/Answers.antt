use Rattle.std.proofs.Common.{false}
use Rattle.ifs_lex.proofs.Spelt.{closes, closed}
use Rattle.ifs_lex.proofs.laws.one_closing_quote.Goals as goal

pub returns-clause-some : goal.returns-clause-some
returns-clause-some c = λ q bs n h. closes q false bs n h

pub returns-clause-only : goal.returns-clause-only
returns-clause-only c = λ q bs n h. closed q false bs n h
