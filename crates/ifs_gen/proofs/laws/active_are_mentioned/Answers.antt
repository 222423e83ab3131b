use Rattle.ifs_gen.proofs.Masks as masks
use Rattle.ifs_gen.proofs.laws.active_are_mentioned.Goals as goal

pub returns : goal.returns
returns c = masks.active_are_mentioned c.mentioned_are_mentions.ensures
