-- One more test is idle and has an entry, or it is not idle.
use Rattle.std.proofs.Common.{◌≡◌, ◌+◌, ℕ, false, eqb, [], take, slice_get, ap, sym, ◌∙◌, arith, refl}
use Rattle.ifs_sched.specs.Idle.{is_due_from, waits_until}
use Rattle.ifs_sched.specs.Timer.{inactive}
use Rattle.ifs_sched.proofs.Waiting.{alike, at_each, nobody_waits, not_idle, not_listed, one_more_waits, take_alike, take_at, take_past}
use Rattle.ifs_sched.proofs.order.put_all.Goals as goal
use Rattle.ifs_sched.proofs.order.put_all.Goals.{in-Idle, in_default}

pub put-requires-clause-other : goal.put-requires-clause-other
put-requires-clause-other c =
    let past = take_past c.args.tests.now c.loop-index.index c.loop-index-test.true in
    not_listed (take c.loop-index.index c.args.tests.now) c.loop-index.entries.items c.loop-index.invariant.0 c.loop-index.index (λ m. ap (waits_until m) past)

pub loop-index-init : goal.loop-index-init
loop-index-init c = rw (c.clear.ensures) (nobody_waits [] (λ t m. refl), omega arith)

pub loop-index-preserved : goal.loop-index-preserved
loop-index-preserved c =
    let before = take c.loop-index.index c.args.tests.now in
    let after = take (c.loop-index.index + 1) c.args.tests.now in
    let at = take_at c.args.tests.now c.loop-index.index c.loop-index-test.true (inactive 0) in
    let past = take_past c.args.tests.now c.loop-index.index c.loop-index-test.true in
    let others : (t m : ℕ) → (t ≡ c.loop-index.index → ⊥) → waits_until m (slice_get after t) ≡ waits_until m (slice_get before t) =
    λ t m ne. ap (waits_until m) (take_alike c.args.tests.now c.loop-index.index c.loop-index-test.true t ne) in
    elim c.match-timer.branch [
      | in-Idle w ↦
          let written : (m : ℕ) → waits_until m (slice_get after c.loop-index.index) ≡ eqb w.in-Idle.due m =
          λ m. ap (waits_until m) at ∙ ap (is_due_from m) w.in-Idle.is in
          rw (w.entries-is)
          (one_more_waits before after c.loop-index.entries.items w.put.new.entries.items c.loop-index.index w.in-Idle.due others (λ m. ap (waits_until m) past) written w.put.ensures.ascending w.put.ensures.added c.loop-index.invariant.0, (let n = w.put.ensures.one_more in omega (arith, c.loop-index.invariant.1)))
      | in_default w ↦
          let none : (m : ℕ) → waits_until m (slice_get after c.loop-index.index) ≡ false =
          λ m. ap (waits_until m) at ∙ not_idle _ w.in_default.not-Idle m in
          rw (w.entries-is)
          (alike before after c.loop-index.entries.items (at_each before after c.loop-index.index others (λ m. none m ∙ sym (ap (waits_until m) past))) c.loop-index.invariant.0, omega (arith, c.loop-index.invariant.1))
    ]
