-- The steps so far are kept.
use Rattle.ifs_play.specs.Played.{GoesOn}
use Rattle.ifs_play.proofs.simulation.Simulation.take_all.Given as goal

abbrev pub invariant-loop : goal.invariant-loop
invariant-loop l = GoesOn l.fn.self l.self
