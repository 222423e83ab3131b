-- The word, if there is one, and the condition behind it.
use Rattle.ifs_claim_parse.proofs.Asked.{is_premise}
use Rattle.ifs_claim_parse.proofs.premises.read_premise.Goals as goal

pub returns : goal.returns
returns c =
    is_premise c.args.line.tables.now c.next_values-values.result.0 c.args.tokens.now c.next_values-values.result.1.now c.in_ok-condition.condition
    c.next_values-values.ensures c.in_ok-condition.ensures c.if-not-is_askable.ensures
