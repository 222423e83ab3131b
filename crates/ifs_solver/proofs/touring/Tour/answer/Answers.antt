-- Both answers.
use Rattle.std.proofs.Common.{⊎_elim}
use Rattle.ifs_solver.proofs.Paying.{still_used}
use Rattle.ifs_solver.proofs.Tours.{exit_paid, exit_said}
use Rattle.ifs_solver.proofs.touring.Tour.answer.Goals as goal

pub returns-clause-says : goal.returns-clause-says
returns-clause-says c = λ policy given fits toured. record {
  entered = c.entry-entered.ensures.says policy given fits toured;
  left = exit_said policy given c.args.self.now c.args.state c.in_ok-left.left toured c.in_ok-left.ensures.wished;
}

pub returns-clause-paid : goal.returns-clause-paid
returns-clause-paid c = λ policy given toured none_pending lt.
    ⊎_elim (λ e. still_used given c.args.self.now.budget c.ask.new.self.budget c.in_ok-left.ensures.asked.spent (c.entry-entered.ensures.paid policy given toured none_pending lt e))
    (λ e. exit_paid policy given c.args.self.now c.ask.new.self c.args.state c.in_ok-left.left toured lt c.in_ok-left.ensures.paid e)
