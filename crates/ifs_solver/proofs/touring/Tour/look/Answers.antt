-- A state that is not marked.
use Rattle.ifs_solver.proofs.Tours.{as_far_ahead, looked}
use Rattle.ifs_solver.proofs.touring.Tour.look.Goals as goal

pub returns-in_ok-note-clause-looks : goal.returns-in_ok-note-clause-looks
returns-in_ok-note-clause-looks c =
    looked c.args.state c.args.next c.args.self.now c.ask.new.self c.note.new.self c.in_ok-extent.extent c.in_ok-extent.ensures.asked c.if-is_unmarked.ensures c.in_ok-extent.ensures.wished c.in_ok-extent.ensures.paid
    c.in_ok-note.ensures

pub returns-in_ok-note-clause-ahead : goal.returns-in_ok-note-clause-ahead
returns-in_ok-note-clause-ahead c =
    as_far_ahead c.args.next c.args.self.now c.ask.new.self c.note.new.self c.in_ok-extent.extent c.in_ok-extent.ensures.asked c.if-is_unmarked.ensures c.in_ok-note.ensures
