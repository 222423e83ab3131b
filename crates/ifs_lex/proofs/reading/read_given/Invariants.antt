use Rattle.std.proofs.Common.{◌≡◌, length}
use Rattle.ifs_lex.specs.Expansion.{given_from, defined_by}
use Rattle.ifs_lex.specs.inner.Known.{macros_of}
use Rattle.ifs_lex.proofs.reading.read_given.Given as goal

abbrev pub invariant-loop-left : goal.invariant-loop-left
invariant-loop-left l =
    given_from (macros_of l.macros) (defined_by l.left) ≡ given_from (macros_of l.initial.macros) (defined_by l.defs)

abbrev pub decreases-loop-left : goal.decreases-loop-left
decreases-loop-left l = length l.left
