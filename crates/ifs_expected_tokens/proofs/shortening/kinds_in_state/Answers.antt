use Rattle.ifs_expected_tokens.proofs.Parted.{endless_first}
use Rattle.ifs_expected_tokens.proofs.shortening.kinds_in_state.Goals as goal

pub begins_state-requires : goal.begins_state-requires
begins_state-requires c = endless_first c.args.number c.args.state.now.items c.args.rest.now.items c.requires.front
