-- The due tests are those of the entries at the front, and the later entries are left.
use Rattle.std.proofs.Common.{◌≡◌, ◌≤◌, ◌==◌, List, length, take, drop, nat_le, ap, sym, ◌∙◌, subst, arith}
use Rattle.std.specs.List.{list_any, prefix_len, refill}
use Rattle.ifs_sched.specs.declared.timer.Timer.{Timer}
use Rattle.ifs_sched.specs.Schedule.{any_by_index, is_left_over, map_by_index, run_as_number, ticked_test}
use Rattle.ifs_sched.specs.Idle.{AreIdle}
use Rattle.ifs_sched.proofs.ByIndex.{as_many_by_index, refilled}
use Rattle.ifs_sched.proofs.Fronts.{due_set, front_within, settled_entries}
use Rattle.ifs_sched.proofs.timers.Timers.start.Goals as goal

pub set_of-due-requires : goal.set_of-due-requires
set_of-due-requires c =
    rw (c.as_slice-2.ensures.value)
    (front_within c.self.inside.tests.items c.self.inside.idle.items c.due_count-count.result 64 c.self.invariant.1 (rw (← c.as_slice.ensures.value) c.due_count-count.ensures.within) c.self.invariant.0)

pub start_due-exhausted-requires-clause-due : goal.start_due-exhausted-requires-clause-due
start_due-exhausted-requires-clause-due c =
    let idle = c.self.inside.idle.items in
    let counted : c.due_count-count.result ≡ prefix_len (λ e. nat_le e.0 c.args.now) idle =
    c.due_count-count.ensures.value ∙ ap (prefix_len (λ e. nat_le e.0 c.args.now)) c.as_slice.ensures.value in
    let front = ap (take c.due_count-count.result) c.as_slice-2.ensures.value ∙ ap (λ n. take n idle) counted in
    rw (c.as_mut_slice-tests.ensures.value)
    (due_set c.self.inside.tests.items idle c.self.invariant.1 c.args.now c.set_of-due.result
    (λ t h. c.set_of-due.ensures t h ∙ ap (list_any (λ e. e.1.0 == t)) front))

pub invariant_of-self : goal.invariant_of-self
invariant_of-self c =
    let tests = c.self.inside.tests.items in
    let idle = c.self.inside.idle.items in
    let next = run_as_number c.args.next_run.now in
    let made = c.start_due-exhausted.new.tests in
    let settled = c.settle.new.entries.items in
    let counted : c.due_count-count.result ≡ prefix_len (λ e. nat_le e.0 c.args.now) idle =
    c.due_count-count.ensures.value ∙ ap (prefix_len (λ e. nat_le e.0 c.args.now)) c.as_slice.ensures.value in
    let e : made ≡ map_by_index (ticked_test c.args.now next tests) tests = rw c.as_mut_slice-tests.ensures.value at c.start_due-exhausted.ensures.tests_are in
    let f : c.start_due-exhausted.result ≡ any_by_index (is_left_over c.args.now next tests) tests =
    rw c.as_mut_slice-tests.ensures.value at c.start_due-exhausted.ensures.exhausted_is in
    let many : length made ≡ length tests = ap length e ∙ as_many_by_index (ticked_test c.args.now next tests) tests in
    let whole : refill (length tests) tests made ≡ made = refilled tests made many in
    let lent = c.as_slice-3.ensures.value ∙ whole in
    let P : List Timer → Type 0 = λ xs. (length xs ≤ 64) × AreIdle xs settled in
    let Q : List Timer → Type 0 = λ xs. AreIdle xs settled in
    subst P (sym whole) (
      (let room = c.self.invariant.0 in omega arith),
      settled_entries c.args.now next tests made idle settled c.start_due-exhausted.result c.self.invariant.1 e f (λ h. subst Q lent (c.settle.ensures.left h)) (λ h. c.settle.ensures.started h ∙ ap (λ n. drop n idle) counted),
    )
