-- All facts are within the full range.
use Rattle.std.proofs.Common.{true, sym, subst, ◌∙◌, arith}
use Rattle.std.proofs.lemmas.Bool.{false≢true}
use Rattle.ifs_solver.specs.FactSets.{fact_set_of}
use Rattle.ifs_solver.specs.declared.searching.Extent.TheVariants.{Somewhere, Nowhere, Undecided}
use Rattle.ifs_solver.specs.Reaching.{yield_by}
use Rattle.ifs_compare.specs.inner.Comparing.{AgreeWithin, IsCompared, IsAnswer, is_undecided}
use Rattle.ifs_compare.specs.Spent.{IsSpent}
use Rattle.ifs_compare.proofs.Searched.{agree_on_all, found_in, full_range}
use Rattle.ifs_compare.proofs.Spending.{spent_by, used_by}
use Rattle.ifs_compare.proofs.answering.compare_pair.Goals as goal
use Rattle.ifs_compare.proofs.answering.compare_pair.Goals.{in-Nowhere, in-Somewhere, in-Undecided}

pub returns-clause-answer : goal.returns-clause-answer
returns-clause-answer c =
    let old = yield_by c.args.pair.old in
    let new = yield_by c.args.pair.new in
    let after = fact_set_of c.search_range.new.range in
    let said = subst (λ r. IsCompared old new r after c.in_ok-found.found.finding) c.in_ok-range.ensures c.in_ok-found.ensures.compared in
    elim c.match-found.branch [
      | in-Nowhere w ↦ subst (IsAnswer c.args.scope old new) (sym w.result-is) (agree_on_all c.args.scope old new (subst (IsCompared old new _ after) w.in-Nowhere.is said).1)
      | in-Somewhere w ↦ subst (IsAnswer c.args.scope old new) (sym w.result-is) (found_in c.args.scope _ after old new (full_range c.args.scope) (subst (IsCompared old new _ after) w.in-Somewhere.is said))
      | in-Undecided w ↦ subst (IsAnswer c.args.scope old new) (sym w.result-is) tt
    ]

pub returns-clause-spent : goal.returns-clause-spent
returns-clause-spent c =
    let before = c.args.effort.now in
    let after = c.spend.new.self in
    let reduced = spent_by before after c.min-given.result c.in_ok-found.found.left c.spend.ensures.left c.spend.ensures.each in
    elim c.match-found.branch [
      | in-Nowhere w ↦ subst (λ a. IsSpent before after (is_undecided a)) (sym w.result-is) (record { reduced = reduced; used_up = λ e. absurd (false≢true e) })
      | in-Somewhere w ↦ subst (λ a. IsSpent before after (is_undecided a)) (sym w.result-is) (record { reduced = reduced; used_up = λ e. absurd (false≢true e) })
      | in-Undecided w ↦ subst (λ a. IsSpent before after (is_undecided a)) (sym w.result-is) (record {
        reduced = reduced;
        used_up = λ e. used_by before after c.min-given.result c.in_ok-found.found.left c.min-given.ensures (c.in_ok-found.ensures.undecided w.in-Undecided.is) c.spend.ensures.left;
      })
    ]
