-- The place of an entry, where there is one.
use Rattle.ifs_policy.specs.Tables.{text_eq}
use Rattle.ifs_claim_parse.proofs.Entries.{is_place}
use Rattle.ifs_claim_parse.proofs.names.interface_named.Goals as goal

pub returns-clause-place : goal.returns-clause-place
returns-clause-place c =
    is_place (text_eq c.args.name.now) c.args.tables.now.interfaces c.in_ok-place.place c.in_ok-number.number c.in_ok-place.ensures.place c.in_ok-number.ensures
