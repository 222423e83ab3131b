-- The range of all facts has facts.
use Rattle.std.proofs.Common.{◌≡◌, true, refl, sym, subst}
use Rattle.std.proofs.lemmas.List.Elements.{All-replicate}
use Rattle.ifs_solver.specs.declared.fact_sets.Scope.{Scope}
use Rattle.ifs_solver.specs.FactSets.{FactSet, HasFacts, any_domain, full_fact_set, has_one}

pub full_has_facts : (scope : Scope) (range : FactSet) → range ≡ full_fact_set scope → HasFacts range
full_has_facts scope range is =
    subst HasFacts (sym is) (record {
      links = All-replicate (λ choice. has_one choice ≡ true) scope.links any_domain refl;
      tests = All-replicate (λ choice. has_one choice ≡ true) scope.tests any_domain refl;
    })
