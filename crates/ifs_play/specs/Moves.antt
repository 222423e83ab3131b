-- Moves that can be made.
use Rattle.std.specs.Prelude.{ℕ, ◌<◌, List, Contains}
use Rattle.ifs_sched.specs.declared.start.Start.{Start}
use Rattle.ifs_play.specs.declared.moves.Move.{Move}
use Rattle.ifs_play.specs.declared.moves.Move.TheVariants.{Link, Wait, End}

-- A move is of one of so many links, or lets time pass, or ends a test that runs.
abbrev pub CanHappen : ℕ → List Start → Move → Type 0
CanHappen links runs (Link interface state) = interface.0 < links
CanHappen links runs (Wait seconds) = 0 < seconds
CanHappen links runs (End test value) = (run : ℕ) × Contains runs (record { test = test; run = run })
