-- Facts at an opening.
use Rattle.std.proofs.Common.{◌≡◌, ℕ, zero, suc, Bool, true, false, List, [], ◌∷◌, Option, Some, None, map, length, refl, sym, ap, subst, arith}
use Rattle.std.specs.Prelude.{replicate, slice_get, All}
use Rattle.std.proofs.lemmas.Bool.{false≢true}
use Rattle.std.proofs.lemmas.List.{length-map}
use Rattle.std.proofs.lemmas.List.Elements.{All-cons}
use Rattle.std.proofs.lemmas.Option.{none-some, same_Some}
use Rattle.ifs_base.specs.Facts.{Facts}
use Rattle.ifs_core.specs.Gateway.{Known}
use Rattle.ifs_gen.specs.Trees.{Policy}
use Rattle.ifs_solver.specs.declared.fact_sets.Scope.{Scope}
use Rattle.ifs_solver.specs.FactSets.{AreAllowed, FactSet, HasFacts, Within, has_one, scope_of, state_of}
use Rattle.ifs_solver.specs.Situations.{IsKnownFor, situation_after}
use Rattle.ifs_solver.proofs.Witnesses.{all_within, so_many}
use Rattle.ifs_claims.specs.Told.{AreOpeningFacts}
use Rattle.ifs_claims.specs.inner.Opening.{no_value, opening_fact_set}
use Rattle.ifs_claims.proofs.AskedFor.{has_any}
use Rattle.ifs_claims.proofs.Standing.{facts_stay}

-- At an opening no test has a value.
none_allowed : (n : ℕ) (periods : List ℕ) → length periods ≡ n → AreAllowed (replicate n no_value) (map state_of (map (λ _. None) periods))
none_allowed zero [] e = tt
none_allowed zero (x ∷ xs) e = absurd (omega (arith, e))
none_allowed (suc n) [] e = absurd (omega (arith, e))
none_allowed (suc n) (x ∷ xs) e = (refl, none_allowed n xs (omega (arith, e)))

pub opening_within : (policy : Policy) (known : Known) → IsKnownFor policy known → Within (opening_fact_set (scope_of policy)) (situation_after policy known []).facts
opening_within policy known fits = record {
  links = (all_within (scope_of policy) (situation_after policy known []).facts (facts_stay policy known fits [])).links;
  tests = none_allowed (length policy.tables.tests) (map (λ test. test.period) policy.tables.tests) (length-map policy.tables.tests _);
}

-- The set has facts, and in these no test has a value.
has_none : (n : ℕ) → All (λ domain. has_one domain ≡ true) (replicate n no_value)
has_none zero = λ i d lt. absurd (omega (arith, lt))
has_none (suc n) = All-cons (λ domain. has_one domain ≡ true) no_value (replicate n no_value) refl (has_none n)

pub opening_has : (scope : Scope) (set : FactSet) → set ≡ opening_fact_set scope → HasFacts set
opening_has scope set is = subst HasFacts (sym is) (record { links = has_any scope.links; tests = has_none scope.tests })

abbrev AreValueless : List (Option Bool) → Type 0
AreValueless values = (test : ℕ) (value : Bool) → slice_get values test ≡ Some (Some value) → ⊥

none_first : (values : List (Option Bool)) → AreValueless values → AreValueless (None ∷ values)
none_first values rest zero value e = none-some value (same_Some None (Some value) e)
none_first values rest (suc test) value e = rest test value e

valueless : (n : ℕ) (values : List (Option Bool)) → AreAllowed (replicate n no_value) (map state_of values) → (length values ≡ n) × AreValueless values
valueless zero [] h = (refl, λ test value e. none-some (Some value) e)
valueless zero (o ∷ values) h = absurd h
valueless (suc n) [] h = absurd h
valueless (suc n) (None ∷ values) h = let rest = valueless n values h.1 in (ap suc rest.0, none_first values rest.1)
valueless (suc n) (Some true ∷ values) h = absurd (false≢true h.0)
valueless (suc n) (Some false ∷ values) h = absurd (false≢true h.0)

pub opening_facts : (policy : Policy) (facts : Facts) → Within (opening_fact_set (scope_of policy)) facts → AreOpeningFacts policy facts
opening_facts policy facts within =
    let tests = valueless (length policy.tables.tests) facts.tests within.tests in
    record { are = record { links = so_many (length policy.tables.interfaces) facts.links within.links; tests = tests.0 }; valueless = tests.1 }
