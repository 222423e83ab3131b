use Rattle.ifs_gen.proofs.laws.means_the_policy.Goals as goal
use Rattle.ifs_gen.proofs.Texts as texts

pub returns : goal.returns
returns c = texts.texts_mean c.instructions_are_read_back.ensures c.one_list.ensures c.one_tree.ensures c.one_policy.ensures c.policies_fit.ensures c.one_image.ensures c.accepted_is_kept.ensures
