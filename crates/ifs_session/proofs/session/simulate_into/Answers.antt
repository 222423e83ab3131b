use Rattle.std.proofs.Common.{◌++◌, ◌∷◌, [], inl, inr, sym, subst, arith}
use Rattle.std.proofs.lemmas.Result.{err_from_is_err_and}
use Rattle.ifs_core.specs.Machine.{IsBehaviour}
use Rattle.ifs_session.proofs.Serving.{underway_start, not_served, nothing_left, replied_to, session_closes}
use Rattle.ifs_session.proofs.Serving.{session_goes_on, line_total, line_steps, out_flushed, out_fails}
use Rattle.ifs_session.proofs.session.simulate_into.Goals as goal
use Rattle.ifs_session.proofs.session.simulate_into.Goals.{then-summary-via-then-summary}
use Rattle.ifs_session.proofs.session.simulate_into.Goals.{then-summary-via-else-summary+then-not-served}

pub lines-init : goal.lines-init
lines-init g c = record { within = omega arith; fewer = omega arith; underway = λ b h. ([], underway_start b _) }

pub returns-in_err-served-clause-session : goal.returns-in_err-served-clause-session
returns-in_err-served-clause-session g c = λ b h.
    let u = c.lines.invariant.underway b h in
    let p = err_from_is_err_and c.from_residual.result c.from_residual.ensures.1 in
    rw (p.1, p.2) (not_served c.in_err-served.field-0.0 _ c.serve_next.new.budget u.1 (c.in_err-served.ensures.next b (subst (λ i. IsBehaviour i b) (sym u.1.image) h)))

pub returns-in_default-clause-session : goal.returns-in_default-clause-session
returns-in_default-clause-session g c = λ b h.
    let u = c.lines.invariant.underway b h in
    (_, nothing_left _ c.serve_next.new.budget u.1 (rw c.in_default.is at (c.in_ok-served.ensures.next b (subst (λ i. IsBehaviour i b) (sym u.1.image) h))))

pub returns-in_default-flush-clause-session : goal.returns-in_default-flush-clause-session
returns-in_default-flush-clause-session g c = λ b h.
    let u = c.lines.invariant.underway b h in
    let n = rw c.in-Some.is at (c.in_ok-served.ensures.next b (subst (λ i. IsBehaviour i b) (sym u.1.image) h)) in
    let replied = replied_to c.count.new.summary u.1 n.2 c.count.ensures in
    elim c.then-summary.branch [
      | then-summary-via-then-summary w ↦ out_fails _ _ (_, session_closes u.1 n.1 replied (inl w.if-summary.true)) c.in_default-flush.ensures.puts
      | then-summary-via-else-summary+then-not-served w ↦ out_fails _ _ (_, session_closes u.1 n.1 replied (inr (w.if-summary.false, w.if-not-served.true))) c.in_default-flush.ensures.puts
    ]

pub returns-then-summary-clause-session : goal.returns-then-summary-clause-session
returns-then-summary-clause-session g c = λ b h.
    let u = c.lines.invariant.underway b h in
    let n = rw c.in-Some.is at (c.in_ok-served.ensures.next b (subst (λ i. IsBehaviour i b) (sym u.1.image) h)) in
    let replied = replied_to c.count.new.summary u.1 n.2 c.count.ensures in
    elim c.then-summary.branch [
      | then-summary-via-then-summary w ↦ out_flushed _ _ (_, session_closes u.1 n.1 replied (inl w.if-summary.true)) c.in-Ok.ensures.puts
      | then-summary-via-else-summary+then-not-served w ↦ out_flushed _ _ (_, session_closes u.1 n.1 replied (inr (w.if-summary.false, w.if-not-served.true))) c.in-Ok.ensures.puts
    ]

pub lines-preserved : goal.lines-preserved
lines-preserved g c =
    let counts = rw c.in-Some.is at c.in_ok-served.ensures.counts in
    let total = line_total c.in-Some.served.kind c.lines.summary c.count.new.summary c.count.ensures in
    record {
      within = omega (arith, c.lines.invariant.within, counts, total);
      fewer = omega (arith, c.lines.invariant.fewer, total, line_steps c.in-Some.served.kind c.lines.summary c.count.new.summary c.count.ensures);
      underway = λ b h.
          let u = c.lines.invariant.underway b h in
          let n = rw c.in-Some.is at (c.in_ok-served.ensures.next b (subst (λ i. IsBehaviour i b) (sym u.1.image) h)) in
          (u.0 ++ n.0 ∷ [], session_goes_on u.1 n.1 (replied_to c.count.new.summary u.1 n.2 c.count.ensures) c.if-summary.false c.if-not-served.false);
    }
