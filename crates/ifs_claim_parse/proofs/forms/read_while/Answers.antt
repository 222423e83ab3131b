-- The tokens that were read, one after the other.
use Rattle.ifs_claim_parse.proofs.Said.{are_while}
use Rattle.ifs_claim_parse.proofs.forms.read_while.Goals as goal

pub returns : goal.returns
returns c =
    are_while c.args.line.tables.now c.args.tokens.now c.in_ok-names.names.now c.in_ok-states.rest.now c.in_ok-rest.rest.now c.in_ok-states.states.items c.in_ok-premise.premise
    c.in_ok-names.ensures c.in_ok-states.ensures.named c.in_ok-states.ensures.some c.in_ok-rest.ensures c.in_ok-premise.ensures
