use Rattle.std.proofs.Common.{◌≤◌, ◌∙◌, sym, subst, length}
use Rattle.ifs_parse.proofs.Read.{notes_stay}
use Rattle.ifs_parse.specs.inner.Parsers.{progress_of, others_of}
use Rattle.ifs_parse.specs.inner.Reading as reading
use Rattle.ifs_parse.specs.Words as words
use Rattle.ifs_parse.proofs.Alternatives.{alternatives_are}
use Rattle.ifs_parse.proofs.Turns.{turn_goes, turn_ends, turn_fails}
use Rattle.ifs_parse.proofs.parser.Parser.+conditions.Goals as goal

pub ones-returns-in-Ok-None : goal.ones-returns-in-Ok-None
ones-returns-in-Ok-None t c = turn_ends _ _ _ _ _ _ _ _ c.loop-turn-test.true (rw c.in-Ok-None.field-0-is at c.in-Ok-None.ensures) c.loop-turn.invariant

pub ones-returns-in-Err : goal.ones-returns-in-Err
ones-returns-in-Err t c = λ other. turn_fails _ _ _ _ _ _ _ _ c.loop-turn-test.true (c.in-Err.ensures other) c.loop-turn.invariant

pub ones-loop-turn-preserved : goal.ones-loop-turn-preserved
ones-loop-turn-preserved t c =
    rw c.in_ok-push-in-Ok-Some.ensures.items
    (turn_goes _ _ _ _ _ _ _ _ _ c.loop-turn-test.true (rw c.in-Ok-Some.field-0-is at c.in-Ok-Some.ensures) c.loop-turn.invariant)

pub alls-returns-in-Ok-None : goal.alls-returns-in-Ok-None
alls-returns-in-Ok-None t c = turn_ends _ _ _ _ _ _ _ _ c.loop-turn-test.true (rw c.in-Ok-None.field-0-is at c.in-Ok-None.ensures) c.loop-turn.invariant

pub alls-returns-in-Err : goal.alls-returns-in-Err
alls-returns-in-Err t c = λ other. turn_fails _ _ _ _ _ _ _ _ c.loop-turn-test.true (c.in-Err.ensures other) c.loop-turn.invariant

pub alls-loop-turn-preserved : goal.alls-loop-turn-preserved
alls-loop-turn-preserved t c =
    rw c.in_ok-add-in-Ok-Some.ensures
    (turn_goes _ _ _ _ _ _ _ _ _ c.loop-turn-test.true (rw c.in-Ok-Some.field-0-is at c.in-Ok-Some.ensures) c.loop-turn.invariant)

pub alternatives-note-requires : goal.alternatives-note-requires
alternatives-note-requires t c =
    subst (λ n. n ≤ length c.alls.new.self.notes.items) (sym (c.len-index.ensures ∙ c.args.self.now.notes.ok.0))
    (notes_stay words.fits_period c.args.room (others_of c.after.result) (others_of c.in_ok-others.others) c.in_ok-second.second
    (progress_of c.args.self.now) (progress_of c.all.new.self) (progress_of c.alls.new.self) c.in_ok-second.ensures c.in_ok-others.ensures)

pub alternatives-returns : goal.alternatives-returns
alternatives-returns t c =
    alternatives_are (reading.all (reading.one words.fits_period c.args.room)) c.args.first c.in_ok-second.second c.args.place c.len-index.result
    (progress_of c.args.self.now) (progress_of c.all.new.self) (progress_of c.alls.new.self) (progress_of c.note.new.self)
    (others_of c.after.result) (others_of c.in_ok-others.others) c.in_ok-condition.condition
    c.in_ok-second.ensures c.after.ensures c.in_ok-others.ensures (c.len-index.ensures ∙ c.args.self.now.notes.ok.0) c.in_ok-note.ensures
    c.in_ok-condition.ensures
