-- The answers so far, and what is kept.
use Rattle.std.proofs.Common.{take}
use Rattle.ifs_prove.specs.Verdicts.{AreVerdicts}
use Rattle.ifs_prove.specs.inner.Keeping.{IsKept}
use Rattle.ifs_prove.proofs.proving.answer_each.Given as goal

abbrev pub invariant-loop-stated : goal.invariant-loop-stated
invariant-loop-stated l = AreVerdicts l.entered (take l.stated-index l.claims) l.verdicts.items × IsKept l.entered l.kept
