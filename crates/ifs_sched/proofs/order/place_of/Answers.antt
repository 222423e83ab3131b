-- The entries before the first one that does not come before this one do.
use Rattle.std.proofs.Common.{sym, ◌∙◌, arith}
use Rattle.std.proofs.lemmas.List.Sums.{prefix_len_is}
use Rattle.ifs_sched.specs.Idle.{comes_before}
use Rattle.ifs_sched.proofs.Entries.{nobody}
use Rattle.ifs_sched.proofs.order.place_of.Goals as goal

pub returns-then-not-comes_before-clause-value : goal.returns-then-not-comes_before-clause-value
returns-then-not-comes_before-clause-value c =
    sym
    (prefix_len_is (λ other. comes_before other c.args.entry.now) c.args.entries.now c.loop-place.place nobody (omega arith)
    (λ k h. c.loop-place.invariant k nobody h)
    (λ h. sym c.comes_before.ensures ∙ c.if-not-comes_before.true))

pub returns-clause-value : goal.returns-clause-value
returns-clause-value c =
    sym
    (prefix_len_is (λ other. comes_before other c.args.entry.now) c.args.entries.now _ nobody (omega arith)
    (λ k h. c.loop-place.invariant k nobody (omega arith))
    (λ h. absurd (omega arith)))
