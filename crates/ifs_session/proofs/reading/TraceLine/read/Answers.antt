use Rattle.std.proofs.Common.{◌≡◌, true, false}
use Rattle.ifs_session.proofs.ReadBack.{record_read}
use Rattle.ifs_session.proofs.reading.TraceLine.read.Goals as goal

pub returns-then-not-is_at_end : goal.returns-then-not-is_at_end
returns-then-not-is_at_end c = λ image r range e.
    let read = record_read image r c.args.line.now _ _ _ _ _ _ _ _ _ _ _ _ _ _ _ range e c.new-reader.ensures c.step-step.ensures c.word.ensures c.answer-answer.ensures.said c.answer-answer.ensures.left
    c.word-2.ensures c.quoted-state.ensures c.word-3.ensures c.number-cost.ensures.reads c.word-4.ensures c.number-queued.ensures.reads in
    let no : false ≡ true = rw c.if-not-is_at_end.true at (c.is_at_end.ensures read.5) in
    absurd cc

pub returns : goal.returns
returns c = λ image r range e.
    let read = record_read image r c.args.line.now _ _ _ _ _ _ _ _ _ _ _ _ _ _ _ range e c.new-reader.ensures c.step-step.ensures c.word.ensures c.answer-answer.ensures.said c.answer-answer.ensures.left
    c.word-2.ensures c.quoted-state.ensures c.word-3.ensures c.number-cost.ensures.reads c.word-4.ensures c.number-queued.ensures.reads in
    record { step = read.0; answer = read.1; state = read.2; cost = read.3; queued = read.4 }
