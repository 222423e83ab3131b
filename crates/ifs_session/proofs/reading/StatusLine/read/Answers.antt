use Rattle.std.proofs.Common.{◌≡◌, true, false}
use Rattle.ifs_session.proofs.ReadBack.{status_read}
use Rattle.ifs_session.proofs.reading.StatusLine.read.Goals as goal

pub returns-then-not-is_at_end : goal.returns-then-not-is_at_end
returns-then-not-is_at_end c = λ image s range e.
    let read = status_read image s c.args.line.now _ _ _ _ _ _ _ _ _ _ _ _ _ _ _ _ range e c.new-reader.ensures c.word.ensures c.quoted-state.ensures c.word-2.ensures c.yes_or_no-is_owed.ensures.said c.yes_or_no-is_owed.ensures.left
    c.word-3.ensures c.number-queue.ensures.reads c.word-4.ensures c.number-running.ensures.reads c.word-5.ensures c.number-present.ensures.reads in
    let no : false ≡ true = rw c.if-not-is_at_end.true at (c.is_at_end.ensures read.5) in
    absurd cc

pub returns : goal.returns
returns c = λ image s range e.
    let read = status_read image s c.args.line.now _ _ _ _ _ _ _ _ _ _ _ _ _ _ _ _ range e c.new-reader.ensures c.word.ensures c.quoted-state.ensures c.word-2.ensures c.yes_or_no-is_owed.ensures.said c.yes_or_no-is_owed.ensures.left
    c.word-3.ensures c.number-queue.ensures.reads c.word-4.ensures c.number-running.ensures.reads c.word-5.ensures c.number-present.ensures.reads in
    record { state = read.0; owed = read.1; queue = read.2; running = read.3; present = read.4 }
