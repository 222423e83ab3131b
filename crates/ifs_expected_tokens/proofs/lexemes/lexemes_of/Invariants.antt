use Rattle.std.proofs.Common.{◌≡◌, ◌++◌, map}
use Rattle.ifs_lex.specs.Lexemes.{lexemes_from, lexemes_of}
use Rattle.ifs_lex.specs.inner.Pieces.{spanned_of}
use Rattle.ifs_expected_tokens.proofs.lexemes.lexemes_of.Given as goal

abbrev pub invariant-lexemes : goal.invariant-lexemes
invariant-lexemes l = lexemes_of l.text ≡ map spanned_of l.lexemes.items ++ lexemes_from l.left l.cursor

abbrev pub decreases-lexemes : goal.decreases-lexemes
decreases-lexemes l = l.left
