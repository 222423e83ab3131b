-- The steps so far.
use Rattle.std.proofs.Common.{List, take}
use Rattle.ifs_base.specs.declared.op.LinkState.{LinkState}
use Rattle.ifs_claims.specs.Changes.{AllKeepTo}
use Rattle.ifs_lint.proofs.results.keep.Given as goal

abbrev pub invariant-loop-step : goal.invariant-loop-step
invariant-loop-step l = (links : List LinkState) → AllKeepTo (record { links = links; results = l.results }) (take l.step-index l.steps)
