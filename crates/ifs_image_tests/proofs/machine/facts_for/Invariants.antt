use Rattle.std.proofs.Common.{◌≡◌, length}
use Rattle.ifs_image_tests.proofs.machine.facts_for.Given as goal

abbrev pub invariant-loop-i : goal.invariant-loop-i
invariant-loop-i l = length l.known_links.items ≡ l.i

abbrev pub invariant-loop-i-2 : goal.invariant-loop-i-2
invariant-loop-i-2 l = length l.known_tests.items ≡ l.i
