-- The claim behind the word.
use Rattle.ifs_claim_parse.proofs.Said as forms
use Rattle.ifs_claim_parse.proofs.forms.never_in.Goals as goal

pub returns : goal.returns
returns c =
    forms.never_in c.args.line.tables.now c.args.tokens.now c.in_ok-rest.rest.now c.in_ok-rest-2.rest.now c.in_ok-rest-3.rest.now c.in_ok-states.states c.in_ok-states.premise
    c.in_ok-rest.ensures c.in_ok-rest-2.ensures c.in_ok-rest-3.ensures c.in_ok-states.ensures
