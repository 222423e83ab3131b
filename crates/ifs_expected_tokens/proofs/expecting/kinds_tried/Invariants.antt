use Rattle.std.proofs.Common.{◌≡◌, ◌⊎◌, length}
use Rattle.std.specs.List.{AllByRecursion}
use Rattle.ifs_parse.specs.Grammar.{GoesOn}
use Rattle.ifs_parse.specs.Words.{fits_period}
use Rattle.ifs_expected_tokens.specs.declared.kind.Kind.{Kind}
use Rattle.ifs_expected_tokens.specs.Expected.{HasKind, token_of}
use Rattle.ifs_expected_tokens.proofs.expecting.kinds_tried.Given as goal

abbrev pub invariant-kinds : goal.invariant-kinds
invariant-kinds l = record {
  same : l.front.items ≡ l.fn.front.items;
  listed : AllByRecursion (λ k. GoesOn fits_period 32 l.fn.front.items (token_of l.number k)) l.kinds.items;
  all : (k : Kind) → GoesOn fits_period 32 l.fn.front.items (token_of l.number k) → HasKind k l.left ⊎ HasKind k l.kinds.items;
}

abbrev pub decreases-kinds : goal.decreases-kinds
decreases-kinds l = length l.left
