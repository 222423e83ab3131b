use Rattle.std.proofs.Common.{length}
use Rattle.ifs_image_reports.proofs.quoting.length_of.Given as goal

abbrev pub decreases-loop-rest : goal.decreases-loop-rest
decreases-loop-rest l = length l.left
