-- The definitions so far.
use Rattle.std.proofs.Common.{◌≡◌, ◌++◌, map, length, string_bytes}
use Rattle.ifs_lex.specs.inner.Pieces.{spanned_of}
use Rattle.ifs_claim_parse.specs.Macros.{definitions_from}
use Rattle.ifs_claim_parse.proofs.macros.put_definitions.Given as goal

abbrev pub invariant-lexemes : goal.invariant-lexemes
invariant-lexemes l = string_bytes l.made ++ definitions_from l.text l.left_out (map spanned_of l.left) ≡ string_bytes l.initial.made ++ definitions_from l.text 0 (map spanned_of l.lexemes)

abbrev pub decreases-lexemes : goal.decreases-lexemes
decreases-lexemes l = length l.left
