-- The entry at the place of a text is this text.
use Rattle.ifs_claim_parse.proofs.Entries.{there}
use Rattle.ifs_claim_parse.proofs.names.command_named.Goals as goal

pub returns : goal.returns
returns c = there c.args.text.now c.args.tables.now.commands c.in_ok-place.place c.in_ok-number.number c.in_ok-place.ensures.place c.in_ok-number.ensures
