-- The claim behind both words.
use Rattle.ifs_claim_parse.proofs.Said as forms
use Rattle.ifs_claim_parse.proofs.forms.never_enters.Goals as goal

pub returns-then-is_end : goal.returns-then-is_end
returns-then-is_end c =
    forms.never_enters c.args.line.tables.now c.args.tokens.now c.in_ok-states.rest.now c.in_ok-states.states
    c.in_ok-states.ensures.named c.in_ok-states.ensures.some c.if-is_end.ensures

pub returns : goal.returns
returns c =
    forms.never_enters_while c.args.line.tables.now c.args.tokens.now c.in_ok-states.rest.now c.in_ok-rest.rest.now c.in_ok-states.states c.in_ok-premise.premise
    c.in_ok-states.ensures.named c.in_ok-states.ensures.some c.in_ok-rest.ensures c.in_ok-premise.ensures
