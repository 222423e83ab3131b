use Rattle.ifs_expected_tokens.proofs.Values.{here_first, later_first}
use Rattle.ifs_expected_tokens.proofs.placing.is_in_value.Goals as goal

pub returns-then-holds : goal.returns-then-holds
returns-then-holds c = λ _. c.lexemes.invariant (here_first c.lexemes.left.now _ c.args.part c.in-len1-up.len_at_least (c.holds.ensures c.if-holds.true))

pub lexemes-preserved : goal.lexemes-preserved
lexemes-preserved c = λ found. c.lexemes.invariant (later_first c.lexemes.left.now c.args.part c.in-len1-up.len_at_least found)
