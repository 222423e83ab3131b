use Rattle.std.proofs.Common.{◌≡◌, ◌+◌, length}
use Rattle.ifs_lex.specs.Expansion.{Endless}
use Rattle.ifs_lex.specs.Numbered.{HaveNumbers}
use Rattle.ifs_expected_tokens.specs.Expected.{IsFront}
use Rattle.ifs_expected_tokens.proofs.expecting.is_front.Given as goal

abbrev pub invariant-tokens : goal.invariant-tokens
invariant-tokens l = record {
  count : l.number + length l.left ≡ length l.tokens;
  front : HaveNumbers l.number l.left → Endless l.left → IsFront l.tokens;
  left : IsFront l.tokens → HaveNumbers l.number l.left × Endless l.left;
}

abbrev pub decreases-tokens : goal.decreases-tokens
decreases-tokens l = length l.left
