use Rattle.ifs_lex.proofs.Spelt.{prefix_longest, longest_once}
use Rattle.ifs_lex.proofs.laws.longest_runs.Goals as goal

pub returns-clause-some : goal.returns-clause-some
returns-clause-some c = prefix_longest

pub returns-clause-only : goal.returns-clause-only
returns-clause-only c = λ p bs n h. longest_once p bs n _ h (prefix_longest p bs)
