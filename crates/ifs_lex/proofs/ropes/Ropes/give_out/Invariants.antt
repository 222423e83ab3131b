use Rattle.std.proofs.Common.{◌≡◌, ◌<◌, ◌++◌, map, length}
use Rattle.std.specs.List.{All}
use Rattle.ifs_lex.specs.Expansion.{token}
use Rattle.ifs_lex.specs.inner.Ropes.{whats_at, stacked, weights}
use Rattle.ifs_lex.proofs.ropes.Ropes.give_out.Given as goal

abbrev pub invariant-loop-number : goal.invariant-loop-number
invariant-loop-number l =
    All (λ n. n < length l.self) l.left.items
    × (l.tokens.items ++ map (token l.span) (stacked l.self l.left.items) ≡ l.initial.tokens.items ++ map (token l.span) (whats_at l.self l.root))

abbrev pub decreases-loop-number : goal.decreases-loop-number
decreases-loop-number l = weights l.left.items
