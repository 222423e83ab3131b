-- The claim behind both words.
use Rattle.ifs_claim_parse.proofs.Said as forms
use Rattle.ifs_claim_parse.proofs.forms.never_from.Goals as goal

pub returns : goal.returns
returns c =
    forms.never_from c.args.line.tables.now c.args.tokens.now c.in_ok-from.rest.now c.in_ok-names.names.now c.in_ok-to.rest.now c.in_ok-from.from c.in_ok-to.to
    c.in_ok-from.ensures.named c.in_ok-from.ensures.some c.in_ok-names.ensures c.in_ok-to.ensures.named c.in_ok-to.ensures.some
    (rw c.as_slice-2.ensures.value at rw c.as_slice.ensures.value at c.in_ok-expect_apart.ensures) c.in_ok-expect_end.ensures
