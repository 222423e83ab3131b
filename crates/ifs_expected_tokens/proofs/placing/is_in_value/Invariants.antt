use Rattle.std.proofs.Common.{length, map}
use Rattle.ifs_lex.specs.inner.Pieces.{spanned_of}
use Rattle.ifs_expected_tokens.specs.Places.{IsInValue}
use Rattle.ifs_expected_tokens.proofs.placing.is_in_value.Given as goal

abbrev pub invariant-lexemes : goal.invariant-lexemes
invariant-lexemes l = IsInValue (map spanned_of l.left) l.part → IsInValue (map spanned_of l.lexemes) l.part

abbrev pub decreases-lexemes : goal.decreases-lexemes
decreases-lexemes l = length l.left
