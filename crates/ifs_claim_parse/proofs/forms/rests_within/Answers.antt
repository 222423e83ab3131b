-- The claim behind both words.
use Rattle.ifs_claim_parse.proofs.Said as forms
use Rattle.ifs_claim_parse.proofs.forms.rests_within.Goals as goal

pub returns : goal.returns
returns c =
    forms.rests_within c.args.line.tables.now c.args.tokens.now c.in_ok-number.rest.now c.in_ok-rest.rest.now c.in_ok-number.number c.in_ok-number.ensures c.in_ok-rest.ensures c.in_ok-expect_end.ensures
