-- The entries before the first one that is late are counted.
use Rattle.std.proofs.Common.{nat_le, sym, arith}
use Rattle.std.proofs.lemmas.Bool.Decides.{nat_tests}
use Rattle.std.proofs.lemmas.List.Sums.{prefix_len_is}
use Rattle.ifs_sched.proofs.Entries.{nobody}
use Rattle.ifs_sched.proofs.order.due_count.Goals as goal

pub returns-then-entry-now-clause-value : goal.returns-then-entry-now-clause-value
returns-then-entry-now-clause-value c =
    sym
    (prefix_len_is (λ entry. nat_le entry.0 c.args.now) c.args.entries.now c.loop-count.count nobody (omega arith)
    (λ k h. c.loop-count.invariant k nobody h)
    (λ h. grind (arith, nat_tests)))

pub returns-clause-value : goal.returns-clause-value
returns-clause-value c =
    sym
    (prefix_len_is (λ entry. nat_le entry.0 c.args.now) c.args.entries.now _ nobody (omega arith)
    (λ k h. c.loop-count.invariant k nobody (omega arith))
    (λ h. absurd (omega arith)))
