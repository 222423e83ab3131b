-- The lexemes of the line.
use Rattle.std.proofs.Common.{arith}
use Rattle.ifs_lex.specs.Lexemes.{lexemes_of}
use Rattle.ifs_claim_parse.proofs.Defining.{same_equals}
use Rattle.ifs_claim_parse.proofs.reading.defines_macros.Goals as goal

pub returns : goal.returns
returns c =
    same_equals (lexemes_of c.args.line.now) c.in_ok-lexemes.lexemes.items c.as_slice.result.now c.has_equals.result (c.in_ok-lexemes.ensures (omega arith)) c.as_slice.ensures.value
    c.has_equals.ensures
