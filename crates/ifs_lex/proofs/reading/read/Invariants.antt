use Rattle.std.proofs.Common.{◌≡◌, [], length}
use Rattle.ifs_lex.specs.Lexemes.{lexemes_at, lexemes_of}
use Rattle.ifs_lex.specs.Expansion.{expanded, tokens_after, segments_from}
use Rattle.ifs_lex.specs.inner.Known.{macros_of}
use Rattle.ifs_lex.specs.inner.Turns.{expanded_of}
use Rattle.ifs_lex.proofs.reading.read.Given as goal

abbrev pub invariant-lexemes : goal.invariant-lexemes
invariant-lexemes l =
    tokens_after (expanded_of l.reading) (segments_from 0 (lexemes_at l.cursor)) ≡ tokens_after (expanded [] (macros_of l.fn.macros)) (segments_from 0 (lexemes_of l.text))

abbrev pub decreases-lexemes : goal.decreases-lexemes
decreases-lexemes l = length l.cursor.left
