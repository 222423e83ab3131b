-- Active tests, the opening and the bodies.
use Rattle.std.proofs.Common.{inl}
use Rattle.ifs_compare.specs.declared.answers.Compared.{Compared}
use Rattle.ifs_compare.specs.Differing.{by_tests}
use Rattle.ifs_compare.proofs.Told.{told_twice, left_opening}
use Rattle.ifs_compare.proofs.reporting.report_always.Goals as goal

pub report_active-requires-clause-other : goal.report_active-requires-clause-other
report_active-requires-clause-other c = λ other. inl (by_tests other)

pub report_answer-requires : goal.report_answer-requires
report_answer-requires c = left_opening c.args.case.now c.requires.judged

pub returns : goal.returns
returns c =
    let case = c.args.case.now in
    let start = c.args.found.now in
    let active : Compared = record { differences = c.report_active.new.differences; undecided = start.undecided } in
    told_twice case start active c.report_always_bodies.new.found (record { differences = c.in_ok-report_active.ensures; undecided = inl })
    (told_twice case active c.report_answer.new.found c.report_always_bodies.new.found c.in_ok-report_answer.ensures c.in_ok-report_always_bodies.ensures)
