-- The claim behind both words.
use Rattle.ifs_claim_parse.proofs.Said as forms
use Rattle.ifs_claim_parse.proofs.forms.never_rests.Goals as goal

pub returns : goal.returns
returns c = forms.never_rests c.args.line.tables.now c.args.tokens.now c.in_ok-states.states c.in_ok-states.premise c.in_ok-states.ensures
