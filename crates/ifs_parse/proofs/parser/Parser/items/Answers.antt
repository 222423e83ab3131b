use Rattle.ifs_parse.proofs.Turns.{turn_goes, turn_ends, turn_fails}
use Rattle.ifs_parse.proofs.parser.Parser.items.Goals as goal

pub returns-in-Ok-None : goal.returns-in-Ok-None
returns-in-Ok-None c = turn_ends _ _ _ _ _ _ _ _ c.loop-turn-test.true (rw c.in-Ok-None.field-0-is at c.in-Ok-None.ensures) c.loop-turn.invariant

pub returns-in-Err : goal.returns-in-Err
returns-in-Err c = λ other. turn_fails _ _ _ _ _ _ _ _ c.loop-turn-test.true (c.in-Err.ensures other) c.loop-turn.invariant

pub loop-turn-preserved : goal.loop-turn-preserved
loop-turn-preserved c =
    rw c.in_ok-push-in-Ok-Some.ensures.items
    (turn_goes _ _ _ _ _ _ _ _ _ c.loop-turn-test.true (rw c.in-Ok-Some.field-0-is at c.in-Ok-Some.ensures) c.loop-turn.invariant)
