-- The token at the number has its number.
use Rattle.ifs_lex.proofs.Numbers.{numbered_more}
use Rattle.ifs_lex.proofs.reading.number_all.Goals as goal

pub loop-number-preserved : goal.loop-number-preserved
loop-number-preserved c =
    numbered_more c.args.tokens.now c.loop-number.tokens c.loop-number.number c.index-tokens-number.result c.loop-number.invariant c.loop-number-test.true
