-- What comes of a course within a set, and in both parts of it.
use Rattle.std.proofs.Common.{◌≡◌, ℕ, ◌≤◌, true, false, List, [], ◌∷◌, ◌++◌, Option, Some, None, is_some, refl, sym, ap, ◌∙◌, subst, arith}
use Rattle.std.specs.Prelude.{slice_get, All, Any}
use Rattle.std.proofs.lemmas.Bool.{true≢false, false≢true}
use Rattle.std.proofs.lemmas.Grind.{common_steps}
use Rattle.std.proofs.lemmas.List.Quantifiers.{Any-push}
use Rattle.std.proofs.lemmas.List.Elements.{All-nil, All-push}
use Rattle.ifs_base.specs.Facts.{Facts}
use Rattle.ifs_base.specs.Effects.{Effects, followed}
use Rattle.ifs_base.specs.declared.ids.StateId.{StateId}
use Rattle.ifs_gen.specs.Events.{yield_in}
use Rattle.ifs_gen.specs.Trees.{Part}
use Rattle.ifs_policy.specs.Meaning.{init_yield}
use Rattle.ifs_solver.specs.declared.domains.Branch.{Branch}
use Rattle.ifs_solver.specs.declared.domains.Domain.{Domain}
use Rattle.ifs_solver.specs.declared.fact_sets.Scope.{Scope}
use Rattle.ifs_solver.specs.FactSets.{FactSet, Within, HasFacts, has_one, only, without, full_fact_set, value_of, domain_at, with_domain}
use Rattle.ifs_solver.specs.Reaching.{IsReached}
use Rattle.ifs_solver.proofs.Effecting.{followed_nothing}
use Rattle.ifs_solver.proofs.Ranging.{IsSplit, as_asked, otherwise, is_split, has_value, only_within, without_within, out_of_part, put_domain_back}
use Rattle.ifs_solver.proofs.Witnesses.{all_within, within_all, some_within}
use Rattle.ifs_levels.specs.declared.courses.Course.{Course}
use Rattle.ifs_levels.specs.declared.courses.Evaluated.TheVariants.{Known}
use Rattle.ifs_levels.specs.declared.moments.Outcome.{Outcome}
use Rattle.ifs_levels.specs.inner.Courses.{IsInitReached, ComesOf, IsEvaluated, ComesToOne, IsRealOf, Covers, Adds, AddsPart, AreAllOfCourse}

-- The init of a state that is there, or is not.
pub no_part : (states : List Part) (set : FactSet) (before : Effects) (state : StateId) → slice_get states state.0 ≡ None → IsInitReached states (Some state) set before before None
no_part states set before state at = λ facts within. ap (λ o. followed before (yield_in (λ part. init_yield facts part.init) o)) at ∙ followed_nothing before

pub some_part : (states : List Part) (set : FactSet) (before after : Effects) (state : StateId) (part : Part) (pending : Option Branch) → slice_get states state.0 ≡ Some part
    → IsReached set part.init before after pending → IsInitReached states (Some state) set before after pending
some_part states set before after state part None at h = λ facts within. ap (λ o. followed before (yield_in (λ part. init_yield facts part.init) o)) at ∙ h facts within
some_part states set before after state part (Some branch) at h = h

-- One more outcome.
any_kept : {X : Type 0} (P : X → Type 0) (xs : List X) (y : X) → Any P xs → Any P (xs ++ y ∷ [])
any_kept P xs y h = let lt = h.2 in let at = h.3 in (h.0, h.1, grind (arith, common_steps, lt), grind (arith, common_steps, lt, at), h.4)

pub pushed : (course : Course) (set : FactSet) (budget left : ℕ) (found found_now : List Outcome) (outcome : Outcome) → left ≤ budget → HasFacts set → IsEvaluated course set (Known outcome)
    → found_now ≡ found ++ outcome ∷ [] → Adds course set set budget found found_now (Some left)
pushed course set budget left found found_now outcome within has known is = record {
  stays = refl;
  within = within;
  covers = subst (Covers course set found) (sym is) (record {
    kept = λ facts h. any_kept (ComesOf course facts) found outcome h;
    all = λ facts inside. Any-push (ComesOf course facts) found outcome (known facts inside);
    real = λ scope fits h. let some = some_within set has in All-push (IsRealOf scope course) found outcome h (some.0, fits some.0 some.1, known some.0 some.1);
  });
}

-- A part without a value.
pub empty_adds : (course : Course) (branch : Branch) (domain part : Domain) (set : FactSet) (budget : ℕ) (found : List Outcome) → domain_at branch set ≡ Some domain → has_one part ≡ false
    → AddsPart course branch part set set budget found found (Some budget)
empty_adds course branch domain part set budget found at isnt = record {
  stays = refl;
  within = omega (arith);
  covers = record { kept = λ facts h. h; all = λ facts inside. absurd (true≢false (sym (has_value branch set facts domain part at inside) ∙ isnt)); real = λ scope fits h. h };
}

-- A part, and the domain put back.
pub part_adds : (course : Course) (branch : Branch) (domain part : Domain) (before mid after : FactSet) (budget : ℕ) (found found_now : List Outcome) (left : Option ℕ) → domain_at branch before ≡ Some domain
    → after ≡ with_domain branch domain mid → Adds course (with_domain branch part before) mid budget found found_now left → AddsPart course branch part before after budget found found_now left
part_adds course branch domain part before mid after budget found found_now None at back h = tt
part_adds course branch domain part before mid after budget found found_now (Some left) at back h = record {
  stays = back ∙ ap (with_domain branch domain) h.stays ∙ put_domain_back branch before domain part at;
  within = h.within;
  covers = h.covers;
}

-- Both parts.
covers_split : (course : Course) (branch : Branch) (domain : Domain) (set : FactSet) (found mid found_now : List Outcome) (facts : Facts) → Covers course (with_domain branch (only (value_of branch) domain) set) found mid
    → Covers course (with_domain branch (without (value_of branch) domain) set) mid found_now → IsSplit branch domain set facts → ComesToOne course found_now facts
covers_split course branch domain set found mid found_now facts one two (as_asked within) = two.kept facts (one.all facts within)
covers_split course branch domain set found mid found_now facts one two (otherwise within) = two.all facts within

pub both_add : (course : Course) (branch : Branch) (domain part other : Domain) (before mid after : FactSet) (budget left : ℕ) (found found_mid found_now : List Outcome) (last : Option ℕ) → domain_at branch before ≡ Some domain
    → part ≡ only (value_of branch) domain → other ≡ without (value_of branch) domain → AddsPart course branch part before mid budget found found_mid (Some left)
    → AddsPart course branch other mid after left found_mid found_now last → Adds course before after budget found found_now last
both_add course branch domain part other before mid after budget left found found_mid found_now None at is other_is h k = tt
both_add course branch domain part other before mid after budget left found found_mid found_now (Some last) at is other_is h k =
    let value = value_of branch in
    let one = subst (λ p. Covers course (with_domain branch p before) found found_mid) is h.covers in
    let two_there = subst (λ p. Covers course (with_domain branch p mid) found_mid found_now) other_is k.covers in
    let two = subst (λ r. Covers course (with_domain branch (without (value_of branch) domain) r) found_mid found_now) h.stays two_there in
    let a = h.within in
    let b = k.within in
    record {
      stays = k.stays ∙ h.stays;
      within = omega (arith, a, b);
      covers = record {
        kept = λ facts x. two.kept facts (one.kept facts x);
        all = λ facts inside. covers_split course branch domain before found found_mid found_now facts one two (is_split branch domain before facts at inside);
        real = λ scope fits x.
            two.real scope (λ facts inside. fits facts (out_of_part branch before facts domain (without value domain) at (λ v. without_within value v domain) inside))
            (one.real scope (λ facts inside. fits facts (out_of_part branch before facts domain (only value domain) at (λ v. only_within value v domain) inside)) x);
      };
    }

-- All under the facts of a scope, if the budget did not run out.
pub all_added : (course : Course) (scope : Scope) (before after : FactSet) (budget : ℕ) (found found_now : List Outcome) (left : Option ℕ) → is_some left ≡ true → before ≡ full_fact_set scope
    → Adds course before after budget found found_now left → found ≡ [] → AreAllOfCourse scope course found_now
all_added course scope before after budget found found_now None there is h empty = absurd (false≢true there)
all_added course scope before after budget found found_now (Some left) there is h empty = record {
  all = λ facts fits. h.covers.all facts (subst (λ set. Within set facts) (sym is) (all_within scope facts fits));
  real = h.covers.real scope (λ facts within. within_all scope facts (subst (λ set. Within set facts) is within)) (subst (All (IsRealOf scope course)) (sym empty) (All-nil (IsRealOf scope course)));
}
