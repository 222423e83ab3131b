use Rattle.ifs_parse.proofs.Turns.{turn_goes, turn_ends, turn_fails}
use Rattle.ifs_parse.proofs.parser.Parser.+statements.Goals as goal

pub statements-returns-in-Ok-None : goal.statements-returns-in-Ok-None
statements-returns-in-Ok-None t c = turn_ends _ _ _ _ _ _ _ _ c.loop-turn-test.true (rw c.in-Ok-None.field-0-is at c.in-Ok-None.ensures) c.loop-turn.invariant

pub statements-returns-in-Err : goal.statements-returns-in-Err
statements-returns-in-Err t c = λ other. turn_fails _ _ _ _ _ _ _ _ c.loop-turn-test.true (c.in-Err.ensures other) c.loop-turn.invariant

pub statements-loop-turn-preserved : goal.statements-loop-turn-preserved
statements-loop-turn-preserved t c =
    rw c.in_ok-push-in-Ok-Some.ensures.items
    (turn_goes _ _ _ _ _ _ _ _ _ c.loop-turn-test.true (rw c.in-Ok-Some.field-0-is at c.in-Ok-Some.ensures) c.loop-turn.invariant)
