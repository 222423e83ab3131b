-- The claim behind both words.
use Rattle.ifs_claim_parse.proofs.Said as forms
use Rattle.ifs_claim_parse.proofs.forms.never_runs.Goals as goal

pub returns : goal.returns
returns c =
    forms.never_runs c.args.line.tables.now c.args.tokens.now c.in_ok-commands.rest.now c.in_ok-rest.rest.now c.in_ok-commands.commands c.in_ok-premise.premise
    c.in_ok-commands.ensures.named c.in_ok-commands.ensures.some c.in_ok-rest.ensures c.in_ok-premise.ensures
