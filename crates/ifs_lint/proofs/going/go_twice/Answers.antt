-- The states that the steps enter are the round, twice.
use Rattle.std.proofs.Common.{subst, arith}
use Rattle.std.proofs.lemmas.Bool.{OnTrue_at, OnTrue_from}
use Rattle.ifs_lint.specs.inner.Results.{AreResults}
use Rattle.ifs_lint.proofs.Twice.{goes_twice}
use Rattle.ifs_lint.proofs.going.go_twice.Goals as goal

pub returns : goal.returns
returns c = λ known begun h.
    let policy = c.args.policy.now in
    let results = c.as_slice-results.result.now in
    let states = c.as_slice-states.result.now in
    let told = c.in_ok-entered.entered.items in
    let twice = rw c.as_slice.ensures.value at c.are_twice.ensures in
    OnTrue_from c.are_twice.result _ (λ e.
    let goes =
    goes_twice policy known begun c.facts_stay.ensures c.cores_are_in_situations.ensures c.as_slice-steps.result.now results states told c.args.core.now h (omega (arith, c.if-results-from.false, c.from.ensures, c.counts-count.ensures.tests))
    (subst (AreResults c.args.core.now.state.position.facts.tests results) c.counts-count.ensures.tests c.if-not-agrees.ensures) c.if-not-keep.ensures (rw c.state.ensures.value at c.if-not-lead_back.ensures)
    (c.in_ok-entered.ensures policy known begun h) (OnTrue_at e twice) in
    rw c.as_slice-steps.ensures.value at rw c.as_slice-results.ensures.value at rw c.as_slice-states.ensures.value at goes)
