-- A line without tokens, and a line with a claim.
use Rattle.std.proofs.Common.{refl}
use Rattle.ifs_claim_parse.proofs.Lines.{nothing_stated, one_stated}
use Rattle.ifs_claim_parse.proofs.reading.read_stated.Goals as goal

pub returns-then-is_empty-clause-stated : goal.returns-then-is_empty-clause-stated
returns-then-is_empty-clause-stated c = nothing_stated c.args.context.tables.now _ _ c.args.tokens.now c.is_empty.result c.is_empty.ensures c.if-is_empty.true refl

pub returns-clause-stated : goal.returns-clause-stated
returns-clause-stated c =
    one_stated c.args.context.tables.now _ _ c.args.tokens.now _ c.is_empty.result c.is_empty.ensures c.if-is_empty.false refl
    (record { says = c.in_ok-claim.ensures; numbered = refl; starts = c.part_of.ensures.starts; ends = c.part_of.ensures.ends })
