-- One state after the other.
use Rattle.std.proofs.Common.{◌≡◌, ◌-◌, false, Some, refl, sym, ap, subst, ◌∙◌, arith}
use Rattle.std.specs.Prelude.{slice_get}
use Rattle.std.proofs.lemmas.Option.{slice_get-get_or, slice_get_past}
use Rattle.ifs_base.specs.declared.ids.StateId.{StateId}
use Rattle.ifs_parse.specs.Views.{block_of}
use Rattle.ifs_solver.specs.Asking.{meets_all}
use Rattle.ifs_claims.specs.inner.Widening.{Widens}
use Rattle.ifs_claims.proofs.Goes.{goes_last, over_goes, own_goes, own_nothing, each_goes, unless_goes, always_unless, always_tested, always_nowhere, below_more, below_unmarked, below_all, over_unset, always_unset, same_again}
use Rattle.ifs_claims.proofs.changing.Goings.+go.Goals as goal
use Rattle.ifs_claims.proofs.changing.Goings.+go.Goals.{go-then-is_marked+in_ok-extent, go-else-is_marked}

pub each-returns-clause-goes : goal.each-returns-clause-goes
each-returns-clause-goes t c =
    each_goes c.args.self.now c.own.new.self c.args.left c.args.next c.args.state c.args.before c.in_ok-by_own.by_own c.in_ok-after.after c.if-next-state.false c.in_ok-by_own.ensures.stays c.in_ok-by_own.ensures.goes
    c.in_ok-after.ensures.goes

pub go-returns-then-left-eq0-clause-goes : goal.go-returns-then-left-eq0-clause-goes
go-returns-then-left-eq0-clause-goes t c =
    goes_last c.args.self.now c.args.left c.args.state c.args.before c.in_ok-after.after c.if-left-eq0.true
    (subst (λ xs. Widens c.args.self.now.scope (meets_all xs) c.args.before c.in_ok-after.after) c.as_slice-context.ensures.value c.in_ok-after.ensures)

pub go-loop-next-preserved : goal.go-loop-next-preserved
go-loop-next-preserved t c =
    let back = c.loop-next.invariant.back in
    let below = c.loop-next.invariant.below in
    elim c.if-is_marked.branch [
      | go-then-is_marked+in_ok-extent w ↦
          rw (w.extent-is)
          (rw (w.self-is)
          (record {
            below =
                below_more c.args.self.now c.loop-next.self (c.args.left - 1) c.loop-next.next c.args.state c.args.before c.loop-next.extent w.in_ok-extent.extent back below w.in_ok-extent.ensures.goes;
            back = same_again c.args.self.now c.loop-next.self w.each.new.self back w.in_ok-extent.ensures.stays;
          }))
      | go-else-is_marked w ↦
          rw (w.extent-is)
          (rw (w.self-is)
          (record {
            below =
                below_unmarked c.args.self.now (c.args.left - 1) c.loop-next.next c.args.state c.args.before c.loop-next.extent c.in_ok-marks.marks.items c.in_ok-marks.ensures (omega (arith, c.loop-next-test.true, c.loop-next.auto.next-end))
                (subst (λ xs. slice_get xs c.loop-next.next ≡ Some false) c.as_slice.ensures.value w.if-is_marked.ensures) below;
            back = back;
          }))
    ]

pub go-returns-clause-goes : goal.go-returns-clause-goes
go-returns-clause-goes t c =
    below_all c.args.self.now c.args.left (c.args.left - 1) c.loop-next.next c.args.state c.args.before c.loop-next.extent c.if-left-eq0.false refl (omega (arith, c.loop-next-test.false, c.loop-next.auto.next-end))
    c.loop-next.invariant.below

pub over-returns-then-not-sets-clause-goes : goal.over-returns-then-not-sets-clause-goes
over-returns-then-not-sets-clause-goes t c = over_unset c.args.self.now c.args.left c.args.next c.args.body.now c.args.before (sym c.sets.ensures ∙ c.if-not-sets.true)

pub over-returns-clause-goes : goal.over-returns-clause-goes
over-returns-clause-goes t c =
    let state : StateId = record { 0 = c.args.next } in
    over_goes c.args.self.now c.args.left c.args.next c.args.body state c.push.new.self.items c.args.before c.in_ok-after.after refl c.in_ok-push.ensures.items c.in_ok-after.ensures.goes

pub own-returns-in_ok-after-in-Some-clause-goes : goal.own-returns-in_ok-after-in-Some-clause-goes
own-returns-in_ok-after-in-Some-clause-goes t c =
    let found = c.in-Some.ensures.lookup in
    let states = c.args.self.now.states.now in
    own_goes c.args.self.now c.args.left c.args.next c.args.state c.in-Some.part.now c.args.before c.in_ok-after-in-Some.after
    (ap (λ n. slice_get states n) (sym c.from.ensures) ∙ slice_get-get_or states c.from.result c.in-Some.part.now found.3.0 ∙ ap (λ x. Some x) (sym found.1)) c.in_ok-after-in-Some.ensures.goes

pub own-returns-in-None-clause-goes : goal.own-returns-in-None-clause-goes
own-returns-in-None-clause-goes t c =
    let found = c.in-None.ensures.lookup in
    own_nothing c.args.self.now c.args.left c.args.next c.args.state c.args.before
    (ap (λ n. slice_get c.args.self.now.states.now n) (sym c.from.ensures) ∙ slice_get_past c.args.self.now.states.now c.from.result found.3)

pub by_always-returns-then-not-sets-clause-goes : goal.by_always-returns-then-not-sets-clause-goes
by_always-returns-then-not-sets-clause-goes t c = always_unset c.args.self.now c.args.left c.args.next c.args.state c.args.before (sym c.sets.ensures ∙ c.if-not-sets.true)

pub by_always-returns-in_ok-after-in-Some-clause-goes : goal.by_always-returns-in_ok-after-in-Some-clause-goes
by_always-returns-in_ok-after-in-Some-clause-goes t c =
    let found = c.in-Some.ensures.lookup in
    let states = c.args.self.now.states.now in
    always_unless c.args.self.now c.args.left c.args.next c.args.state c.in-Some.part.now (block_of c.statements.result.now) c.args.before c.in_ok-after-in-Some.after
    (ap (λ n. slice_get states n) (sym c.from.ensures) ∙ slice_get-get_or states c.from.result c.in-Some.part.now found.3.0 ∙ ap (λ x. Some x) (sym found.1)) (sym c.shares.ensures ∙ c.if-shares.true)
    c.statements.ensures.value c.in_ok-after-in-Some.ensures.goes

pub by_always-returns-in_ok-after-in-Some-2-clause-goes : goal.by_always-returns-in_ok-after-in-Some-2-clause-goes
by_always-returns-in_ok-after-in-Some-2-clause-goes t c =
    let found = c.in-Some.ensures.lookup in
    let states = c.args.self.now.states.now in
    always_tested c.args.self.now c.args.left c.args.next c.args.state c.in-Some.part.now c.args.before c.in_ok-after-in-Some-2.after
    (ap (λ n. slice_get states n) (sym c.from.ensures) ∙ slice_get-get_or states c.from.result c.in-Some.part.now found.3.0 ∙ ap (λ x. Some x) (sym found.1)) (sym c.shares.ensures ∙ c.if-shares.false)
    c.in_ok-after-in-Some-2.ensures.goes

pub by_always-returns-in_ok-after-in-None-clause-goes : goal.by_always-returns-in_ok-after-in-None-clause-goes
by_always-returns-in_ok-after-in-None-clause-goes t c =
    let found = c.in-None.ensures.lookup in
    always_nowhere c.args.self.now c.args.left c.args.next c.args.state c.args.before c.in_ok-after-in-None.after
    (ap (λ n. slice_get c.args.self.now.states.now n) (sym c.from.ensures) ∙ slice_get_past c.args.self.now.states.now c.from.result found.3) c.in_ok-after-in-None.ensures.goes

pub unless-returns-clause-goes : goal.unless-returns-clause-goes
unless-returns-clause-goes t c =
    unless_goes c.args.self.now c.args.left c.args.next c.args.statements c.push.new.self.items c.args.before c.in_ok-after.after c.in_ok-push.ensures.items c.in_ok-after.ensures.goes
