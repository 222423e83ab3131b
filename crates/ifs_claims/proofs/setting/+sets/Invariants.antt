-- What was found so far, or is in the rest, is in the whole.
use Rattle.std.proofs.Common.{◌≡◌, ◌||◌, drop}
use Rattle.ifs_parse.specs.Views.{block_of}
use Rattle.ifs_claims.specs.inner.Setting.{sets}
use Rattle.ifs_claims.proofs.setting.+sets.Given as goal

abbrev pub invariant-sets-loop-statement : goal.invariant-sets-loop-statement
invariant-sets-loop-statement l = (l.is_found || sets l.state.0 (block_of (drop l.statement-index l.statement-items))) ≡ sets l.state.0 (block_of l.statement-items)
