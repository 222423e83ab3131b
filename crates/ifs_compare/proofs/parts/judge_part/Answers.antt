-- One handler after the other.
use Rattle.ifs_compare.specs.inner.Comparing.{is_undecided}
use Rattle.ifs_compare.proofs.Spending.{spent_twice}
use Rattle.ifs_compare.proofs.parts.judge_part.Goals as goal

pub returns-clause-spent : goal.returns-clause-spent
returns-clause-spent c =
    spent_twice c.args.effort.now c.compare_handlers.new.effort c.compare_handlers-2.new.effort (is_undecided c.in_ok-init.init) (is_undecided c.in_ok-body.body) c.in_ok-init.ensures.spent c.in_ok-body.ensures.spent
