use Rattle.ifs_solver.proofs.Situated.{holds_of_images}
use Rattle.ifs_solver.proofs.laws.holds_of_images.Goals as goal

pub returns : goal.returns
returns c = holds_of_images c.image_means_policy.ensures
