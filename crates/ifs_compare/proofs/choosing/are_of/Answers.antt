-- The range has so many choices.
use Rattle.std.proofs.Common.{◌≡◌, length, ◌∙◌, sym, arith}
use Rattle.std.proofs.lemmas.Bool.{OnTrue_from, OnTrue_at}
use Rattle.ifs_solver.specs.FactSets.{fact_set_of}
use Rattle.ifs_compare.specs.inner.Comparing.{IsRangeOf}
use Rattle.ifs_compare.proofs.Moments.{range_of}
use Rattle.ifs_compare.proofs.choosing.are_of.Goals as goal

pub returns : goal.returns
returns c =
    let range = fact_set_of c.args.range.now in
    let scope = c.args.scope in
    let links : length range.links ≡ scope.links = omega arith in
    let tests : length range.tests ≡ scope.tests = omega arith in
    OnTrue_from c.has_facts.result (IsRangeOf scope range) (λ yes. range_of scope range links tests (OnTrue_at yes c.has_facts.ensures))
