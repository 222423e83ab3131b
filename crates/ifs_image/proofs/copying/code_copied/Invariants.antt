use Rattle.std.proofs.Common.{◌≡◌, take}
use Rattle.ifs_image.proofs.copying.code_copied.Given as goal

abbrev pub invariant-loop-place : goal.invariant-loop-place
invariant-loop-place l = l.copied.items ≡ take l.place l.code
