-- What follows the first `||` of a condition.
use Rattle.std.proofs.Common.{◌≡◌, Ok, ℕ, length, ◌||◌, []}
use Rattle.ifs_lex.specs.declared.token.TokenPlace.{TokenPlace}
use Rattle.ifs_parse.specs.declared.tree.Test.{Test}
use Rattle.ifs_parse.specs.declared.mark.Mark.TheVariants as mark
use Rattle.ifs_parse.specs.declared.parser.Operand.{Operand}
use Rattle.ifs_parse.specs.Trees as tree
use Rattle.ifs_parse.specs.Views.{any_of}
use Rattle.ifs_parse.specs.inner.Combined.{Progress, Parse, many}
use Rattle.ifs_parse.specs.inner.Reading.{Others, others, next_operand, with_operand, noted, noted_alternatives}

pub alternatives_are : (all : Parse Operand) (first second : Operand) (place : TokenPlace) (index : ℕ) (s s1 s2 s3 : Progress) (begun more : Others) (c : tree.Condition Test)
    → all s ≡ Ok (second, s1)
    → begun ≡ others [] (first.is_chain || second.is_chain)
    → many (next_operand mark.Or all) with_operand begun s1 ≡ Ok (more, s2)
    → index ≡ length s.notes
    → s3 ≡ noted index place.span.line more.is_mixed s2
    → c ≡ any_of (tree.Or first.condition second.condition) more.rest
    → noted_alternatives all first place s ≡ Ok (c, s3)
alternatives_are all first second place index s s1 s2 s3 begun more c reads begins goes at_index is_noted is_any =
    rw (reads, ← begins, goes, ← at_index, is_noted, is_any)
