-- The initial state, the parts outside any state, and the states.
use Rattle.std.proofs.Common.{inl}
use Rattle.ifs_compare.specs.declared.answers.Compared.{Compared}
use Rattle.ifs_compare.proofs.Told.{told_twice}
use Rattle.ifs_compare.proofs.reporting.report.Goals as goal

pub returns : goal.returns
returns c =
    let case = c.args.case.now in
    let start = c.args.found.now in
    let initial : Compared = record { differences = c.report_initial.new.differences; undecided = start.undecided } in
    told_twice case start initial c.report_states.new.found (record { differences = c.in_ok-report_initial.ensures; undecided = inl })
    (told_twice case initial c.report_always.new.found c.report_states.new.found c.in_ok-report_always.ensures c.in_ok-report_states.ensures)
