-- The findings so far.
use Rattle.std.proofs.Common.{◌≡◌, take}
use Rattle.ifs_lint.specs.Naming.{numbered, on_states, states_named}
use Rattle.ifs_lint.proofs.linting.said_of_states.Given as goal

abbrev pub invariant-loop-number : goal.invariant-loop-number
invariant-loop-number l = on_states l.findings.items ≡ numbered states_named 0 (take l.number l.answers)
