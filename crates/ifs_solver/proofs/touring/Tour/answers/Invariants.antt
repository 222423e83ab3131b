-- The answers so far are about the tour as it began, and it only asks.
use Rattle.ifs_solver.specs.inner.Touring.{HasAskedOnly}
use Rattle.ifs_solver.proofs.Tours.{PaysFirst, SaysFirst}
use Rattle.ifs_solver.proofs.touring.Tour.answers.Given as goal

abbrev pub invariant-loop-state : goal.invariant-loop-state
invariant-loop-state l = record {
  asked : HasAskedOnly l.fn.self l.self;
  says : SaysFirst l.fn.self l.state l.answers.items;
  pays : PaysFirst l.fn.self l.self l.state l.answers.items;
}
