-- What is found in both parts of a set is what is found in the set.
use Rattle.std.proofs.Common.{◌≡◌, Bool, true, false, List, Some, refl, sym, ap, ◌∙◌, subst}
use Rattle.std.proofs.lemmas.Bool.{false≢true, true≢false}
use Rattle.ifs_base.specs.Facts.{Facts}
use Rattle.ifs_solver.specs.declared.domains.Branch.{Branch}
use Rattle.ifs_solver.specs.declared.domains.Domain.{Domain}
use Rattle.ifs_solver.specs.declared.constraints.Constraint.{Constraint}
use Rattle.ifs_solver.specs.declared.searching.Extent.{Extent}
use Rattle.ifs_solver.specs.declared.searching.Extent.TheVariants.{Somewhere, Nowhere, Undecided}
use Rattle.ifs_solver.specs.declared.verdicts.Verdict.TheVariants.{Known}
use Rattle.ifs_solver.specs.FactSets.{FactSet, has_one, only, without, value_of, domain_at, with_domain}
use Rattle.ifs_solver.specs.Asking.{meets_all, IsThroughout, IsSearched, either, is_somewhere}
use Rattle.ifs_solver.specs.inner.Judging.{judged_all, IsRight}
use Rattle.ifs_solver.specs.inner.Searching.{IsPartSearched}
use Rattle.ifs_solver.proofs.Ranging.{IsSplit, as_asked, otherwise, is_split, out_of_part, has_value, only_within, without_within, put_domain_back}
use Rattle.ifs_solver.proofs.Rightness.{all_right}

-- What is known of constraints within a set is so of all facts within it.
pub known_throughout : (set : FactSet) (constraints : List Constraint) (value : Bool) → judged_all set constraints ≡ Known value → IsThroughout set (meets_all constraints) value
known_throughout set constraints value e facts within = sym (subst (λ v. IsRight v (meets_all constraints facts)) e (all_right set facts within constraints))

module _ (test : Facts → Bool) (branch : Branch) (domain : Domain) (before : FactSet) (at : domain_at branch before ≡ Some domain) where
  -- A search in a part that finds nothing leaves the set.
  pub stays : (part : Domain) (mid : FactSet) (first : Extent) → is_somewhere first ≡ false → IsPartSearched test branch part before mid first → mid ≡ before
  stays part mid Somewhere isnt h = absurd (true≢false isnt)
  stays part mid Nowhere isnt h = h.0
  stays part mid Undecided isnt h = h

  -- What is found in a part is found in the set.
  pub found_in_first : (mid : FactSet) (first : Extent) → is_somewhere first ≡ true → IsPartSearched test branch (only (value_of branch) domain) before mid first → IsSearched test before mid first
  found_in_first mid Somewhere is_so h = (λ facts within. out_of_part branch before facts domain (only (value_of branch) domain) at (λ v. only_within (value_of branch) v domain) (h.0 facts within), h.1, h.2)
  found_in_first mid Nowhere is_so h = absurd (false≢true is_so)
  found_in_first mid Undecided is_so h = absurd (false≢true is_so)

  nowhere_in : (facts : Facts) → IsThroughout (with_domain branch (only (value_of branch) domain) before) test false → IsThroughout (with_domain branch (without (value_of branch) domain) before) test false
      → IsSplit branch domain before facts → test facts ≡ false
  nowhere_in facts h k (as_asked within) = h facts within
  nowhere_in facts h k (otherwise within) = k facts within

  in_rest : (after : FactSet) → IsPartSearched test branch (without (value_of branch) domain) before after Somewhere → IsSearched test before after Somewhere
  in_rest after k = (λ facts within. out_of_part branch before facts domain (without (value_of branch) domain) at (λ v. without_within (value_of branch) v domain) (k.0 facts within), k.1, k.2)

  found_after : (after : FactSet) (first second : Extent) → is_somewhere first ≡ false → IsPartSearched test branch (only (value_of branch) domain) before before first
      → IsPartSearched test branch (without (value_of branch) domain) before after second → IsSearched test before after (either first second)
  found_after after Somewhere second isnt h k = absurd (true≢false isnt)
  found_after after Nowhere Somewhere isnt h k = in_rest after k
  found_after after Undecided Somewhere isnt h k = in_rest after k
  found_after after Nowhere Nowhere isnt h k = (k.0, λ facts within. nowhere_in facts h.1 k.1 (is_split branch domain before facts at within))
  found_after after Undecided Nowhere isnt h k = k.0
  found_after after Nowhere Undecided isnt h k = k
  found_after after Undecided Undecided isnt h k = k

  -- Both parts, one after the other.
  pub found_in_second : (mid after : FactSet) (first second : Extent) → is_somewhere first ≡ false → IsPartSearched test branch (only (value_of branch) domain) before mid first
      → IsPartSearched test branch (without (value_of branch) domain) mid after second → IsSearched test before after (either first second)
  found_in_second mid after first second isnt h k =
      let same = stays (only (value_of branch) domain) mid first isnt h in
      found_after after first second isnt (subst (λ r. IsPartSearched test branch (only (value_of branch) domain) before r first) same h)
      (subst (λ r. IsPartSearched test branch (without (value_of branch) domain) r after second) same k)

  -- The same of parts that are named.
  pub first_found : (part : Domain) (mid : FactSet) (first : Extent) → part ≡ only (value_of branch) domain → is_somewhere first ≡ true → IsPartSearched test branch part before mid first → IsSearched test before mid first
  first_found part mid first is found h = found_in_first mid first found (subst (λ p. IsPartSearched test branch p before mid first) is h)

  pub second_found : (part other : Domain) (mid after : FactSet) (first second : Extent) → part ≡ only (value_of branch) domain → other ≡ without (value_of branch) domain → is_somewhere first ≡ false
      → IsPartSearched test branch part before mid first → IsPartSearched test branch other mid after second → IsSearched test before after (either first second)
  second_found part other mid after first second is other_is isnt h k =
      found_in_second mid after first second isnt (subst (λ p. IsPartSearched test branch p before mid first) is h) (subst (λ p. IsPartSearched test branch p mid after second) other_is k)

  -- A part without a value has no facts.
  pub empty_part : (part : Domain) → has_one part ≡ false → IsPartSearched test branch part before before Nowhere
  empty_part part isnt = (refl, λ facts within. absurd (true≢false (sym (has_value branch before facts domain part at within) ∙ isnt)))

  pub searched_back : (part : Domain) (mid after : FactSet) (extent : Extent) → is_somewhere extent ≡ false → IsSearched test (with_domain branch part before) mid extent → after ≡ with_domain branch domain mid
      → IsPartSearched test branch part before after extent
  searched_back part mid after Somewhere isnt h back = absurd (true≢false isnt)
  searched_back part mid after Nowhere isnt h back = (back ∙ ap (with_domain branch domain) h.0 ∙ put_domain_back branch before domain part at, h.1)
  searched_back part mid after Undecided isnt h back = back ∙ ap (with_domain branch domain) h ∙ put_domain_back branch before domain part at
