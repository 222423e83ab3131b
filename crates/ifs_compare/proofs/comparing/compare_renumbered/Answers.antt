-- The blocks are those of both policies.
use Rattle.std.proofs.Common.{subst, sym, ◌∙◌, arith}
use Rattle.std.proofs.lemmas.Bool.{OnTrue_from, OnTrue_at}
use Rattle.ifs_compare.specs.inner.Comparing.{scope_in, AreSidesAlike}
use Rattle.ifs_compare.proofs.Sames.{of_sides}
use Rattle.ifs_compare.proofs.Named.{sides_told}
use Rattle.ifs_compare.proofs.comparing.compare_renumbered.Goals as goal

pub returns-clause-alike : goal.returns-clause-alike
returns-clause-alike c =
    let old = c.args.old.now in
    let made = c.args.renumbered.now in
    let one = c.sides_of-sides.result.old in
    let other = c.sides_of-sides.result.new in
    OnTrue_from c.in_ok-judged.judged.alike (AreSidesAlike (scope_in c.args.tables.now) old.initial made.initial old.always made.always old.states made.states) (λ yes.
    of_sides (scope_in c.args.tables.now) one other old made c.sides_of-sides.ensures.old c.sides_of-sides.ensures.new
    (subst (λ s. AreSidesAlike s one.initial other.initial one.always.now other.always.now one.states.now other.states.now) c.scope_of-scope.ensures (OnTrue_at yes c.in_ok-judged.ensures.alike)))

pub returns-clause-told : goal.returns-clause-told
returns-clause-told c =
    sides_told _ (scope_in c.args.tables.now) c.args.old.now c.args.renumbered.now c.args.effort.now c.judge_sides.new.effort c.args.found.now c.report.new.found c.scope_of-scope.ensures c.sides_of-sides.ensures.old
    c.sides_of-sides.ensures.new c.in_ok-report.ensures c.in_ok-judged.ensures.apart c.in_ok-judged.ensures.spent
