-- Sets of facts: the values that each link and each test may have.
use Rattle.std.specs.Prelude.{◌≡◌, Bool, true, false, ◌||◌, List, [], ◌∷◌, map, length, Option, Some, None, slice_get, slice_set, replicate, All}
use Rattle.ifs_base.specs.Facts.{Facts}
use Rattle.ifs_base.specs.declared.op.LinkState.{LinkState}
use Rattle.ifs_base.specs.declared.op.LinkState.TheVariants.{Unknown, Down, Up}
use Rattle.ifs_policy.specs.declared.policy.Single.{Single}
use Rattle.ifs_policy.specs.declared.policy.Single.TheVariants.{LinkIs, TestIs}
use Rattle.ifs_policy.specs.declared.policy.PolicyParts.{PolicyParts}
use Rattle.ifs_solver.specs.declared.domains.Branch.{Branch}
use Rattle.ifs_solver.specs.declared.domains.Branch.TheVariants.{Link, Test}
use Rattle.ifs_solver.specs.declared.domains.Domain.{Domain}
use Rattle.ifs_solver.specs.declared.fact_sets.FactSet.{FactSet as FactSetOfCode}
use Rattle.ifs_solver.specs.declared.fact_sets.Scope.{Scope}

-- Facts of so many links and tests.
pub record AreFactsOf (scope : Scope) (facts : Facts) : Type 0 where
  pub links : length facts.links ≡ scope.links
  pub tests : length facts.tests ≡ scope.tests

-- The links and the tests of a policy.
abbrev pub scope_of : PolicyParts → Scope
scope_of policy = record { links = length policy.tables.interfaces; tests = length policy.tables.tests }

-- For each link and each test, the values that it may have.
pub record FactSet : Type 0 where
  pub links : List Domain
  pub tests : List Domain

-- The set of these domains.
abbrev pub fact_set_with : List Domain → List Domain → FactSet
fact_set_with links tests = record { links = links; tests = tests }

-- The set of a value of the code.
abbrev pub fact_set_of : FactSetOfCode → FactSet
fact_set_of set = fact_set_with set.links.items set.tests.items

-- The domain of every value.
abbrev pub any_domain : Domain
any_domain = record { unknown = true; down = true; up = true }

-- The set of all facts of so many links and tests.
abbrev pub full_fact_set : Scope → FactSet
full_fact_set scope = fact_set_with (replicate scope.links any_domain) (replicate scope.tests any_domain)

-- A value is among those of a domain.
abbrev pub allows : LinkState → Domain → Bool
allows Unknown domain = domain.unknown
allows Down domain = domain.down
allows Up domain = domain.up

-- A domain has a value.
abbrev pub has_one : Domain → Bool
has_one domain = domain.unknown || (domain.down || domain.up)

-- The domain of this value alone, if it is there.
abbrev pub only : LinkState → Domain → Domain
only Unknown domain = record { unknown = domain.unknown; down = false; up = false }
only Down domain = record { unknown = false; down = domain.down; up = false }
only Up domain = record { unknown = false; down = false; up = domain.up }

-- The domain without this value.
abbrev pub without : LinkState → Domain → Domain
without Unknown domain = record { unknown = false; down = domain.down; up = domain.up }
without Down domain = record { unknown = domain.unknown; down = false; up = domain.up }
without Up domain = record { unknown = domain.unknown; down = domain.down; up = false }

-- The value of a test, by the name of a link state: unknown if it has none, down if it is false, up if it is true.
abbrev pub state_of : Option Bool → LinkState
state_of None = Unknown
state_of (Some false) = Down
state_of (Some true) = Up

-- Each value is among those of its domain.
abbrev pub AreAllowed : List Domain → List LinkState → Type 0
AreAllowed [] [] = Unit {0}
AreAllowed (domain ∷ domains) (state ∷ states) = (allows state domain ≡ true) × AreAllowed domains states
AreAllowed _ _ = ⊥

-- Facts are within a set.
pub record Within (set : FactSet) (facts : Facts) : Type 0 where
  pub links : AreAllowed set.links facts.links
  pub tests : AreAllowed set.tests (map state_of facts.tests)

-- Each domain has a value, so some facts are within the set.
pub record HasFacts (set : FactSet) : Type 0 where
  pub links : All (λ domain. has_one domain ≡ true) set.links
  pub tests : All (λ domain. has_one domain ≡ true) set.tests

-- What a single test asks for.
abbrev pub branch_of : Single → Branch
branch_of (LinkIs interface state) = Link interface state
branch_of (TestIs test) = Test test Up

-- The value that is asked for.
abbrev pub value_of : Branch → LinkState
value_of (Link interface value) = value
value_of (Test test value) = value

-- The domain at the place that is asked for.
abbrev pub domain_at : Branch → FactSet → Option Domain
domain_at (Link interface value) set = slice_get set.links interface.0
domain_at (Test test value) set = slice_get set.tests test.0

-- The set with another domain there.
abbrev pub with_domain : Branch → Domain → FactSet → FactSet
with_domain (Link interface value) domain set = fact_set_with (slice_set set.links interface.0 domain) set.tests
with_domain (Test test value) domain set = fact_set_with set.links (slice_set set.tests test.0 domain)

-- A fact has a domain in a set.
abbrev pub HasDomain : Branch → FactSet → Type 0
HasDomain branch set = (domain : Domain) × (domain_at branch set ≡ Some domain)
