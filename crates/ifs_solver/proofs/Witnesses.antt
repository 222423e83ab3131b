-- Facts within a set that has some, and the set of all facts.
use Rattle.std.proofs.Common.{◌≡◌, ℕ, zero, suc, Bool, true, false, ◌||◌, List, [], ◌∷◌, Option, Some, None, map, length, refl, sym, ap, ◌∙◌, subst, arith}
use Rattle.std.specs.Prelude.{replicate, All}
use Rattle.std.proofs.lemmas.List.Elements.{All-head, All-tail}
use Rattle.ifs_base.specs.Facts.{Facts}
use Rattle.ifs_base.specs.declared.op.LinkState.{LinkState}
use Rattle.ifs_base.specs.declared.op.LinkState.TheVariants.{Unknown, Down, Up}
use Rattle.ifs_solver.specs.declared.domains.Domain.{Domain}
use Rattle.ifs_solver.specs.declared.fact_sets.Scope.{Scope}
use Rattle.ifs_solver.specs.declared.searching.Extent.{Extent}
use Rattle.ifs_solver.specs.declared.searching.Extent.TheVariants.{Somewhere, Nowhere, Undecided}
use Rattle.ifs_solver.specs.FactSets.{AreFactsOf, FactSet, Within, HasFacts, AreAllowed, allows, has_one, any_domain, full_fact_set, state_of}
use Rattle.ifs_solver.specs.Asking.{IsSearched, IsExtentAmong, IsExtentOf}

-- A value of a domain that has one.
abbrev first_named : Bool → Bool → LinkState
first_named true down = Unknown
first_named false true = Down
first_named false false = Up

first_is : (unknown down up : Bool) → (unknown || (down || up)) ≡ true → allows (first_named unknown down) (record { unknown = unknown; down = down; up = up }) ≡ true
first_is true down up h = refl
first_is false true up h = refl
first_is false false up h = h

abbrev first_of : Domain → LinkState
first_of domain = first_named domain.unknown domain.down

first_allowed : (domain : Domain) → has_one domain ≡ true → allows (first_of domain) domain ≡ true
first_allowed domain h = first_is domain.unknown domain.down domain.up h

-- The value of a test that has this name.
abbrev value_named : LinkState → Option Bool
value_named Unknown = None
value_named Down = Some false
value_named Up = Some true

named : (state : LinkState) → state_of (value_named state) ≡ state
named Unknown = refl
named Down = refl
named Up = refl

firsts_allowed : (domains : List Domain) → All (λ domain. has_one domain ≡ true) domains → AreAllowed domains (map first_of domains)
firsts_allowed [] h = tt
firsts_allowed (c ∷ cs) h =
    (first_allowed c (All-head (λ domain. has_one domain ≡ true) c cs h), firsts_allowed cs (All-tail (λ domain. has_one domain ≡ true) c cs h))

tests_allowed : (domains : List Domain) → All (λ domain. has_one domain ≡ true) domains → AreAllowed domains (map state_of (map (λ domain. value_named (first_of domain)) domains))
tests_allowed [] h = tt
tests_allowed (c ∷ cs) h = (
  subst (λ s. allows s c ≡ true) (sym (named (first_of c))) (first_allowed c (All-head (λ domain. has_one domain ≡ true) c cs h)),
  tests_allowed cs (All-tail (λ domain. has_one domain ≡ true) c cs h),
)

pub some_within : (set : FactSet) → HasFacts set → (facts : Facts) × Within set facts
some_within set has = (
  record { links = map first_of set.links; tests = map (λ domain. value_named (first_of domain)) set.tests },
  record { links = firsts_allowed set.links has.links; tests = tests_allowed set.tests has.tests },
)

-- All facts of so many links and tests are within the full set, and no others.
all_allowed : (n : ℕ) (states : List LinkState) → length states ≡ n → AreAllowed (replicate n any_domain) states
all_allowed zero [] e = tt
all_allowed zero (state ∷ states) e = absurd (omega (arith, e))
all_allowed (suc n) [] e = absurd (omega (arith, e))
all_allowed (suc n) (Unknown ∷ states) e = (refl, all_allowed n states (omega (arith, e)))
all_allowed (suc n) (Down ∷ states) e = (refl, all_allowed n states (omega (arith, e)))
all_allowed (suc n) (Up ∷ states) e = (refl, all_allowed n states (omega (arith, e)))

pub so_many : (n : ℕ) (states : List LinkState) → AreAllowed (replicate n any_domain) states → length states ≡ n
so_many zero [] h = refl
so_many zero (state ∷ states) h = absurd h
so_many (suc n) [] h = absurd h
so_many (suc n) (state ∷ states) h = ap suc (so_many n states h.1)

length_map : (tests : List (Option Bool)) → length (map state_of tests) ≡ length tests
length_map [] = refl
length_map (x ∷ xs) = ap suc (length_map xs)

pub all_within : (scope : Scope) (facts : Facts) → AreFactsOf scope facts → Within (full_fact_set scope) facts
all_within scope facts are = record {
  links = all_allowed scope.links facts.links are.links;
  tests = all_allowed scope.tests (map state_of facts.tests) (length_map facts.tests ∙ are.tests);
}

pub within_all : (scope : Scope) (facts : Facts) → Within (full_fact_set scope) facts → AreFactsOf scope facts
within_all scope facts within = record {
  links = so_many scope.links facts.links within.links;
  tests = sym (length_map facts.tests) ∙ so_many scope.tests (map state_of facts.tests) within.tests;
}

-- What a search in the full set answers is so of all facts.
pub searched_all : (test : Facts → Bool) (scope : Scope) (after : FactSet) (extent : Extent) → IsSearched test (full_fact_set scope) after extent → IsExtentOf scope test extent
searched_all test scope after Somewhere h =
    let some = some_within after h.1 in
    (some.0, within_all scope some.0 (h.0 some.0 some.1), h.2 some.0 some.1)
searched_all test scope after Nowhere h = λ facts are. h.1 facts (all_within scope facts are)
searched_all test scope after Undecided h = tt

-- What a search in a set answers is so of the facts within it.
pub searched_in : (test : Facts → Bool) (before after : FactSet) (extent : Extent) → IsSearched test before after extent → IsExtentAmong (Within before) test extent
searched_in test before after Somewhere h = let some = some_within after h.1 in (some.0, h.0 some.0 some.1, h.2 some.0 some.1)
searched_in test before after Nowhere h = h.1
searched_in test before after Undecided h = tt

-- The same answer of facts of another kind that are the same ones, and for a test that agrees.
pub among_same : (P Q : Facts → Type 0) (test : Facts → Bool) → ((facts : Facts) → P facts → Q facts) → ((facts : Facts) → Q facts → P facts) → (extent : Extent) → IsExtentAmong P test extent → IsExtentAmong Q test extent
among_same P Q test to from Somewhere h = (h.0, to h.0 h.1, h.2)
among_same P Q test to from Nowhere h = λ facts q. h facts (from facts q)
among_same P Q test to from Undecided h = tt

pub among_agrees : (P : Facts → Type 0) (test other : Facts → Bool) → ((facts : Facts) → test facts ≡ other facts) → (extent : Extent) → IsExtentAmong P other extent → IsExtentAmong P test extent
among_agrees P test other same Somewhere h = (h.0, h.1, same h.0 ∙ h.2)
among_agrees P test other same Nowhere h = λ facts p. same facts ∙ h facts p
among_agrees P test other same Undecided h = tt
