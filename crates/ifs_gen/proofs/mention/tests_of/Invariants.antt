-- The tests below the index are found.
use Rattle.std.proofs.Common.{◌≡◌}
use Rattle.ifs_policy.specs.Meaning.{mentioned}
use Rattle.ifs_gen.specs.PlainCode.{tests_below}
use Rattle.ifs_gen.proofs.mention.tests_of.Given as goal

abbrev pub invariant-loop-index : goal.invariant-loop-index
invariant-loop-index l = l.tests.items ≡ tests_below l.index (mentioned l.body)
