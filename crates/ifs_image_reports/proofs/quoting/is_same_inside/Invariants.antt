use Rattle.std.proofs.Common.{length}
use Rattle.ifs_image_reports.proofs.quoting.is_same_inside.Given as goal

abbrev pub decreases-loop-byte : goal.decreases-loop-byte
decreases-loop-byte l = length l.left
