-- Facts within a set, and sets with another domain at a place.
use Rattle.std.proofs.Common.{◌≡◌, ℕ, zero, suc, Bool, true, false, ◌||◌, List, [], ◌∷◌, Option, Some, None, map, refl, sym, ap, ◌∙◌, subst}
use Rattle.std.specs.Prelude.{slice_get, slice_set}
use Rattle.std.proofs.lemmas.Bool.{false≢true, true≢false}
use Rattle.std.proofs.lemmas.Option.{none-some, same_Some}
use Rattle.ifs_base.specs.Facts.{Facts, is_link}
use Rattle.ifs_base.specs.declared.op.LinkState.{LinkState}
use Rattle.ifs_base.specs.declared.op.LinkState.TheVariants.{Unknown, Down, Up}
use Rattle.ifs_solver.specs.declared.domains.Branch.{Branch}
use Rattle.ifs_solver.specs.declared.domains.Branch.TheVariants.{Link, Test}
use Rattle.ifs_solver.specs.declared.domains.Domain.{Domain}
use Rattle.ifs_solver.specs.FactSets.{FactSet, Within, AreAllowed, allows, has_one, only, without, state_of, value_of, domain_at, with_domain}

-- The same value is in the domain of that value, and another one in the domain without it.
pub only_keeps : (value v : LinkState) (domain : Domain) → is_link v value ≡ true → allows v domain ≡ true → allows v (only value domain) ≡ true
only_keeps Unknown Unknown domain e h = h
only_keeps Unknown Down domain e h = absurd (false≢true e)
only_keeps Unknown Up domain e h = absurd (false≢true e)
only_keeps Down Unknown domain e h = absurd (false≢true e)
only_keeps Down Down domain e h = h
only_keeps Down Up domain e h = absurd (false≢true e)
only_keeps Up Unknown domain e h = absurd (false≢true e)
only_keeps Up Down domain e h = absurd (false≢true e)
only_keeps Up Up domain e h = h

pub without_keeps : (value v : LinkState) (domain : Domain) → is_link v value ≡ false → allows v domain ≡ true → allows v (without value domain) ≡ true
without_keeps Unknown Unknown domain e h = absurd (true≢false e)
without_keeps Unknown Down domain e h = h
without_keeps Unknown Up domain e h = h
without_keeps Down Unknown domain e h = h
without_keeps Down Down domain e h = absurd (true≢false e)
without_keeps Down Up domain e h = h
without_keeps Up Unknown domain e h = h
without_keeps Up Down domain e h = h
without_keeps Up Up domain e h = absurd (true≢false e)

pub only_within : (value v : LinkState) (domain : Domain) → allows v (only value domain) ≡ true → allows v domain ≡ true
only_within Unknown Unknown domain h = h
only_within Unknown Down domain h = absurd (false≢true h)
only_within Unknown Up domain h = absurd (false≢true h)
only_within Down Unknown domain h = absurd (false≢true h)
only_within Down Down domain h = h
only_within Down Up domain h = absurd (false≢true h)
only_within Up Unknown domain h = absurd (false≢true h)
only_within Up Down domain h = absurd (false≢true h)
only_within Up Up domain h = h

pub without_within : (value v : LinkState) (domain : Domain) → allows v (without value domain) ≡ true → allows v domain ≡ true
without_within Unknown Unknown domain h = absurd (false≢true h)
without_within Unknown Down domain h = h
without_within Unknown Up domain h = h
without_within Down Unknown domain h = h
without_within Down Down domain h = absurd (false≢true h)
without_within Down Up domain h = h
without_within Up Unknown domain h = h
without_within Up Down domain h = h
without_within Up Up domain h = absurd (false≢true h)

-- The same values.
pub same_link : (v w : LinkState) → is_link v w ≡ true → v ≡ w
same_link Unknown Unknown e = refl
same_link Unknown Down e = absurd (false≢true e)
same_link Unknown Up e = absurd (false≢true e)
same_link Down Unknown e = absurd (false≢true e)
same_link Down Down e = refl
same_link Down Up e = absurd (false≢true e)
same_link Up Unknown e = absurd (false≢true e)
same_link Up Down e = absurd (false≢true e)
same_link Up Up e = refl

-- A domain that allows a value has one.
second_is : (a b c : Bool) → b ≡ true → (a || (b || c)) ≡ true
second_is true b c e = refl
second_is false true c e = refl
second_is false false c e = absurd (false≢true e)

third_is : (a b c : Bool) → c ≡ true → (a || (b || c)) ≡ true
third_is true b c e = refl
third_is false true c e = refl
third_is false false c e = e

pub has_it : (v : LinkState) (domain : Domain) → allows v domain ≡ true → has_one domain ≡ true
has_it Unknown domain h = ap (λ b. b || (domain.down || domain.up)) h
has_it Down domain h = second_is domain.unknown domain.down domain.up h
has_it Up domain h = third_is domain.unknown domain.down domain.up h

-- A value is among those of the domain at its place.
pub record IsAllowedAt (states : List LinkState) (i : ℕ) (domain : Domain) : Type 0 where
  pub value : LinkState
  pub at : slice_get states i ≡ Some value
  pub allowed : allows value domain ≡ true

pub allowed_at : (domains : List Domain) (states : List LinkState) (i : ℕ) (domain : Domain) → AreAllowed domains states → slice_get domains i ≡ Some domain → IsAllowedAt states i domain
allowed_at [] states i domain h at = absurd (none-some domain at)
allowed_at (c ∷ cs) [] i domain h at = absurd h
allowed_at (c ∷ cs) (v ∷ vs) zero domain h at = record { value = v; at = refl; allowed = subst (λ x. allows v x ≡ true) (same_Some c domain at) h.0 }
allowed_at (c ∷ cs) (v ∷ vs) (suc i) domain h at = let rest = allowed_at cs vs i domain h.1 at in record { value = rest.value; at = rest.at; allowed = rest.allowed }

pub none_at : (domains : List Domain) (states : List LinkState) (i : ℕ) → AreAllowed domains states → slice_get domains i ≡ None → slice_get states i ≡ None
none_at [] [] i h at = refl
none_at [] (v ∷ vs) i h at = absurd h
none_at (c ∷ cs) [] i h at = absurd h
none_at (c ∷ cs) (v ∷ vs) zero h at = absurd (none-some c (sym at))
none_at (c ∷ cs) (v ∷ vs) (suc i) h at = none_at cs vs i h.1 at

-- Another domain that has the value at its place.
replaced : (domains : List Domain) (states : List LinkState) (i : ℕ) (part : Domain) → AreAllowed domains states
    → ((v : LinkState) → slice_get states i ≡ Some v → allows v part ≡ true) → AreAllowed (slice_set domains i part) states
replaced [] [] i part h a = h
replaced [] (v ∷ vs) i part h a = absurd h
replaced (c ∷ cs) [] i part h a = absurd h
replaced (c ∷ cs) (v ∷ vs) zero part h a = (a v refl, h.1)
replaced (c ∷ cs) (v ∷ vs) (suc i) part h a = (h.0, replaced cs vs i part h.1 a)

-- And back to the domain, if it has the values of the part.
widened : (domains : List Domain) (states : List LinkState) (i : ℕ) (domain part : Domain) → slice_get domains i ≡ Some domain
    → ((v : LinkState) → allows v part ≡ true → allows v domain ≡ true) → AreAllowed (slice_set domains i part) states → AreAllowed domains states
widened [] states i domain part at w h = absurd (none-some domain at)
widened (c ∷ cs) [] zero domain part at w h = absurd h
widened (c ∷ cs) [] (suc i) domain part at w h = absurd h
widened (c ∷ cs) (v ∷ vs) zero domain part at w h = (subst (λ x. allows v x ≡ true) (sym (same_Some c domain at)) (w v h.0), h.1)
widened (c ∷ cs) (v ∷ vs) (suc i) domain part at w h = (h.0, widened cs vs i domain part at w h.1)

-- A part that facts are in has a value.
filled : (domains : List Domain) (states : List LinkState) (i : ℕ) (domain part : Domain) → slice_get domains i ≡ Some domain → AreAllowed (slice_set domains i part) states → has_one part ≡ true
filled [] states i domain part at h = absurd (none-some domain at)
filled (c ∷ cs) [] zero domain part at h = absurd h
filled (c ∷ cs) [] (suc i) domain part at h = absurd h
filled (c ∷ cs) (v ∷ vs) zero domain part at h = has_it v part h.0
filled (c ∷ cs) (v ∷ vs) (suc i) domain part at h = filled cs vs i domain part at h.1

put_back : (domains : List Domain) (i : ℕ) (domain part : Domain) → slice_get domains i ≡ Some domain → slice_set (slice_set domains i part) i domain ≡ domains
put_back [] i domain part at = refl
put_back (c ∷ cs) zero domain part at = ap (λ x. x ∷ cs) (sym (same_Some c domain at))
put_back (c ∷ cs) (suc i) domain part at = ap (λ xs. c ∷ xs) (put_back cs i domain part at)

-- The value at the place that is asked for.
abbrev pub value_at : Branch → Facts → Option LinkState
value_at (Link interface value) facts = slice_get facts.links interface.0
value_at (Test test value) facts = slice_get (map state_of facts.tests) test.0

-- The facts of a set are in the part with another domain, if it has their value.
in_part : (branch : Branch) (set : FactSet) (facts : Facts) (part : Domain) → Within set facts
    → ((v : LinkState) → value_at branch facts ≡ Some v → allows v part ≡ true) → Within (with_domain branch part set) facts
in_part (Link interface value) set facts part within a = record { links = replaced set.links facts.links interface.0 part within.links a; tests = within.tests }
in_part (Test test value) set facts part within a = record { links = within.links; tests = replaced set.tests (map state_of facts.tests) test.0 part within.tests a }

pub out_of_part : (branch : Branch) (set : FactSet) (facts : Facts) (domain part : Domain) → domain_at branch set ≡ Some domain
    → ((v : LinkState) → allows v part ≡ true → allows v domain ≡ true) → Within (with_domain branch part set) facts → Within set facts
out_of_part (Link interface value) set facts domain part at w within = record { links = widened set.links facts.links interface.0 domain part at w within.links; tests = within.tests }
out_of_part (Test test value) set facts domain part at w within = record { links = within.links; tests = widened set.tests (map state_of facts.tests) test.0 domain part at w within.tests }

pub has_value : (branch : Branch) (set : FactSet) (facts : Facts) (domain part : Domain) → domain_at branch set ≡ Some domain → Within (with_domain branch part set) facts → has_one part ≡ true
has_value (Link interface value) set facts domain part at within = filled set.links facts.links interface.0 domain part at within.links
has_value (Test test value) set facts domain part at within = filled set.tests (map state_of facts.tests) test.0 domain part at within.tests

pub put_domain_back : (branch : Branch) (set : FactSet) (domain part : Domain) → domain_at branch set ≡ Some domain → with_domain branch domain (with_domain branch part set) ≡ set
put_domain_back (Link interface value) set domain part at = ap (λ xs. record { links = xs; tests = set.tests }) (put_back set.links interface.0 domain part at)
put_domain_back (Test test value) set domain part at = ap (λ xs. record { links = set.links; tests = xs }) (put_back set.tests test.0 domain part at)

-- What may be at the place that is asked for: the domain and the value are there or not, and then it is allowed.
pub data Matches (domain : Option Domain) (value : Option LinkState) : Type 0 where
  missing : domain ≡ None → value ≡ None → Matches domain value
  there : (c : Domain) (v : LinkState) → domain ≡ Some c → value ≡ Some v → allows v c ≡ true → Matches domain value

matches_list : (domains : List Domain) (states : List LinkState) (i : ℕ) → AreAllowed domains states → (o : Option Domain) → slice_get domains i ≡ o → Matches (slice_get domains i) (slice_get states i)
matches_list domains states i h None at = missing at (none_at domains states i h at)
matches_list domains states i h (Some domain) at = let a = allowed_at domains states i domain h at in there domain a.value at a.at a.allowed

pub matches : (branch : Branch) (set : FactSet) (facts : Facts) → Within set facts → Matches (domain_at branch set) (value_at branch facts)
matches (Link interface value) set facts within = matches_list set.links facts.links interface.0 within.links (slice_get set.links interface.0) refl
matches (Test test value) set facts within = matches_list set.tests (map state_of facts.tests) test.0 within.tests (slice_get set.tests test.0) refl

-- Facts are in the part with the value that is asked for, or in the one without it.
pub data IsSplit (branch : Branch) (domain : Domain) (set : FactSet) (facts : Facts) : Type 0 where
  as_asked : Within (with_domain branch (only (value_of branch) domain) set) facts → IsSplit branch domain set facts
  otherwise : Within (with_domain branch (without (value_of branch) domain) set) facts → IsSplit branch domain set facts

split_by : (branch : Branch) (domain : Domain) (set : FactSet) (facts : Facts) (v : LinkState) → Within set facts → value_at branch facts ≡ Some v → allows v domain ≡ true
    → (same : Bool) → is_link v (value_of branch) ≡ same → IsSplit branch domain set facts
split_by branch domain set facts v within at h true e =
    as_asked (in_part branch set facts (only (value_of branch) domain) within
    (λ w is. subst (λ x. allows x (only (value_of branch) domain) ≡ true) (same_Some v w (sym at ∙ is)) (only_keeps (value_of branch) v domain e h)))
split_by branch domain set facts v within at h false e =
    otherwise (in_part branch set facts (without (value_of branch) domain) within
    (λ w is. subst (λ x. allows x (without (value_of branch) domain) ≡ true) (same_Some v w (sym at ∙ is)) (without_keeps (value_of branch) v domain e h)))

split_matched : (branch : Branch) (domain : Domain) (set : FactSet) (facts : Facts) → domain_at branch set ≡ Some domain → Within set facts → Matches (domain_at branch set) (value_at branch facts) → IsSplit branch domain set facts
split_matched branch domain set facts at within (missing none value) = absurd (none-some domain (sym none ∙ at))
split_matched branch domain set facts at within (there c v is value h) =
    split_by branch domain set facts v within value (subst (λ x. allows v x ≡ true) (same_Some c domain (sym is ∙ at)) h) (is_link v (value_of branch)) refl

pub is_split : (branch : Branch) (domain : Domain) (set : FactSet) (facts : Facts) → domain_at branch set ≡ Some domain → Within set facts → IsSplit branch domain set facts
is_split branch domain set facts at within = split_matched branch domain set facts at within (matches branch set facts within)
