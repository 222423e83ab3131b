-- Sets of the facts in which only tests that two bodies ask for have a value.
use Rattle.std.specs.Prelude.{ℕ, zero, suc, ◌+◌, ◌≡◌, ◌||◌, Bool, true, false, List, [], ◌∷◌, replicate}
use Rattle.std.specs.List.{AllZip}
use Rattle.ifs_gen.specs.Trees.{Part, Policy}
use Rattle.ifs_policy.specs.Meaning.{Block}
use Rattle.ifs_policy.specs.Visits.{mentions}
use Rattle.ifs_solver.specs.declared.domains.Domain.{Domain}
use Rattle.ifs_solver.specs.declared.fact_sets.FactSet.{FactSet as FactSetOfCode}
use Rattle.ifs_solver.specs.declared.fact_sets.Scope.{Scope}
use Rattle.ifs_solver.specs.FactSets.{FactSet, any_domain, fact_set_of, fact_set_with, scope_of}
use Rattle.ifs_claims.specs.inner.Opening.{no_value}

-- One of two bodies asks for a test.
abbrev pub either_asks : Block → Block → ℕ → Bool
either_asks always own test = mentions (record { 0 = test }) always || mentions (record { 0 = test }) own

-- What a test may be.
abbrev pub asked_domain : Bool → Domain
asked_domain true = any_domain
asked_domain false = no_value

-- The same of so many tests from one on.
abbrev pub asked_domains : Block → Block → ℕ → ℕ → List Domain
asked_domains always own first zero = []
asked_domains always own first (suc n) = asked_domain (either_asks always own first) ∷ asked_domains always own (first + 1) n

-- The set.
abbrev pub asked_fact_set : Scope → Block → Block → FactSet
asked_fact_set scope always own = fact_set_with (replicate scope.links any_domain) (asked_domains always own 0 scope.tests)

-- A set is that of the always body and the body of a part.
abbrev pub IsAskedSet : Policy → Part → FactSetOfCode → Type 0
IsAskedSet policy part set = fact_set_of set ≡ asked_fact_set (scope_of policy) policy.always.body part.body

-- Each state has its set.
abbrev pub AreAskedSets : Policy → List Part → List FactSetOfCode → Type 0
AreAskedSets policy = AllZip (IsAskedSet policy)
