-- The tokens up to the number have theirs.
use Rattle.std.proofs.Common.{◌≡◌}
use Rattle.ifs_lex.proofs.Numbers.{numbered_below}
use Rattle.ifs_lex.proofs.reading.number_all.Given as goal

abbrev pub invariant-loop-number : goal.invariant-loop-number
invariant-loop-number l = l.tokens ≡ numbered_below l.number l.fn.tokens
