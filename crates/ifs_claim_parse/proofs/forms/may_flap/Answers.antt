-- The claim behind the word.
use Rattle.ifs_claim_parse.proofs.Said as forms
use Rattle.ifs_claim_parse.proofs.forms.may_flap.Goals as goal

pub returns : goal.returns
returns c =
    forms.may_flap c.args.line.tables.now c.args.tokens.now c.in_ok-names.names.now c.in_ok-states.rest.now c.in_ok-states.states
    c.in_ok-names.ensures c.in_ok-states.ensures.named c.in_ok-states.ensures.some c.in_ok-expect_end.ensures
