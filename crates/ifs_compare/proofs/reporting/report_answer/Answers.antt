-- What is not the same is left, if nothing is said of it.
use Rattle.std.proofs.Common.{inl, inr, ap}
use Rattle.ifs_compare.specs.inner.Comparing.{is_same}
use Rattle.ifs_compare.proofs.reporting.report_answer.Goals as goal

pub show-requires : goal.show-requires
show-requires c = c.requires (ap is_same c.in-Different.is)

pub returns-in_ok-leave-in-Undecided : goal.returns-in_ok-leave-in-Undecided
returns-in_ok-leave-in-Undecided c = record { differences = inl; undecided = λ lt. inr (c.requires (ap is_same c.in-Undecided.is)) }
