-- What the rest of the statements makes of the marks is what all make of the first ones.
use Rattle.std.proofs.Common.{◌≡◌, drop}
use Rattle.ifs_parse.specs.Views.{block_of}
use Rattle.ifs_claims.specs.inner.Setting.{marked}
use Rattle.ifs_claims.proofs.setting.+mark.Given as goal

abbrev pub invariant-mark-loop-statement : goal.invariant-mark-loop-statement
invariant-mark-loop-statement l = marked l.marks.items (block_of (drop l.statement-index l.statement-items)) ≡ marked l.initial.marks.items (block_of l.statement-items)
