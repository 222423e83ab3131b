-- Active tests, the init and evaluations.
use Rattle.std.proofs.Common.{inl}
use Rattle.ifs_compare.specs.declared.answers.Compared.{Compared}
use Rattle.ifs_compare.specs.Differing.{by_tests_in}
use Rattle.ifs_compare.proofs.Told.{told_twice, left_init, left_evaluation}
use Rattle.ifs_compare.proofs.reporting.report_state.Goals as goal

pub report_active-requires-clause-other : goal.report_active-requires-clause-other
report_active-requires-clause-other c = λ other. inl (by_tests_in c.args.state c.in-Some.old.now c.in-Some.new.now c.in-Some.ensures other)

pub report_answer-requires : goal.report_answer-requires
report_answer-requires c = left_init c.args.case.now c.requires.judged c.args.state c.args.answer.now c.requires.state c.in-Some.old.now c.in-Some.new.now c.in-Some.ensures

pub report_evaluation-requires : goal.report_evaluation-requires
report_evaluation-requires c = left_evaluation c.args.case.now c.requires.judged c.args.state c.args.answer.now c.requires.state c.in-Some.old.now c.in-Some.new.now c.in-Some.ensures

pub returns-else-not-finder : goal.returns-else-not-finder
returns-else-not-finder c =
    let case = c.args.case.now in
    let start = c.args.found.now in
    let active : Compared = record { differences = c.report_active.new.differences; undecided = start.undecided } in
    told_twice case start active c.report_answer.new.found (record { differences = c.in_ok-report_active.ensures; undecided = inl }) c.in_ok-report_answer.ensures

pub returns-in_ok-report_evaluation : goal.returns-in_ok-report_evaluation
returns-in_ok-report_evaluation c =
    let case = c.args.case.now in
    let start = c.args.found.now in
    let active : Compared = record { differences = c.report_active.new.differences; undecided = start.undecided } in
    told_twice case start active c.report_evaluation.new.found (record { differences = c.in_ok-report_active.ensures; undecided = inl })
    (told_twice case active c.report_answer.new.found c.report_evaluation.new.found c.in_ok-report_answer.ensures c.in_ok-report_evaluation.ensures)
