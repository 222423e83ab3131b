-- A difference without facts is left.
use Rattle.std.proofs.Common.{inl, inr}
use Rattle.ifs_compare.proofs.reporting.show.Goals as goal

pub returns-in_ok-leave-in-None : goal.returns-in_ok-leave-in-None
returns-in_ok-leave-in-None c = record { differences = inl; undecided = λ lt. inr c.requires }
