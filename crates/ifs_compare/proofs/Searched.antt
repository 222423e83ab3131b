-- What searches in both parts of a range say of the range.
use Rattle.std.proofs.Common.{◌≡◌, ℕ, zero, suc, ⊎_elim, Bool, true, false, ◌||◌, List, [], ◌∷◌, map, Option, Some, None, refl, sym, ap, ◌∙◌, subst}
use Rattle.std.specs.Prelude.{if◌then◌else◌, All, replicate}
use Rattle.std.specs.Borrow.{Bor}
use Rattle.std.proofs.lemmas.Bool.{false≢true, true≢false}
use Rattle.std.proofs.lemmas.List.Elements.{All-nil, All-cons, All-head, All-tail}
use Rattle.ifs_base.specs.Facts.{Facts}
use Rattle.ifs_base.specs.Effects.{Effects, nothing_yet, followed}
use Rattle.ifs_base.specs.declared.op.LinkState.{LinkState}
use Rattle.ifs_base.specs.declared.op.LinkState.TheVariants.{Unknown, Down, Up}
use Rattle.ifs_policy.specs.Meaning.{Block, reached, is_held, body_yield}
use Rattle.ifs_solver.specs.declared.verdicts.Verdict.{Verdict}
use Rattle.ifs_solver.specs.declared.verdicts.Verdict.TheVariants.{Known}
use Rattle.ifs_solver.specs.declared.domains.Branch.{Branch}
use Rattle.ifs_solver.specs.declared.domains.Domain.{Domain}
use Rattle.ifs_solver.specs.declared.fact_sets.Scope.{Scope}
use Rattle.ifs_solver.specs.declared.searching.Extent.{Extent}
use Rattle.ifs_solver.specs.declared.searching.Extent.TheVariants.{Somewhere, Nowhere, Undecided}
use Rattle.ifs_solver.specs.FactSets.{AreFactsOf, FactSet, Within, HasFacts, HasDomain, AreAllowed, allows, has_one, only, without, any_domain, state_of, value_of, domain_at, with_domain, full_fact_set}
use Rattle.ifs_solver.specs.Asking.{either, is_somewhere, IsPart}
use Rattle.ifs_solver.specs.inner.Judging.{judged_held, IsRight}
use Rattle.ifs_solver.proofs.Rightness.{held_right}
use Rattle.ifs_solver.proofs.Ranging.{IsSplit, as_asked, otherwise, is_split, out_of_part, has_value, only_within, without_within, put_domain_back}
use Rattle.ifs_solver.proofs.Witnesses.{some_within, all_within, within_all}
use Rattle.ifs_compare.specs.declared.looking.Look.{Look}
use Rattle.ifs_compare.specs.declared.looking.Look.TheVariants as look
use Rattle.ifs_compare.specs.declared.searching.Held.{Held}
use Rattle.ifs_compare.specs.declared.searching.Held.TheVariants as held
use Rattle.ifs_solver.specs.declared.reaching.Handler.TheVariants as handler
use Rattle.ifs_solver.specs.declared.reaching.Yielded.{Yielded}
use Rattle.ifs_compare.specs.inner.Points.{narrowed, point_in}
use Rattle.ifs_solver.specs.Reaching.{Yields, effects_of}
use Rattle.ifs_compare.specs.inner.Comparing.{AgreeWithin, DifferWithin, DifferIn, AgreeOn, IsLook, IsLookOf, IsHeldBy, IsHeldOf, IsCompared, IsPartCompared, IsRangeOf, IsDifference}
use Rattle.ifs_solver.proofs.Effecting.{nothing_followed, open_body}

-- Two bodies.
body_held : (range : FactSet) (body : Block) (value : Bool) → judged_held range (Known false) body ≡ Known value → (facts : Facts) → Within range facts
    → body_yield facts body ≡ (if value then nothing_yet else reached facts body)
body_held range body value known facts within =
    ap (λ b. if b then nothing_yet else reached facts body) (sym (subst (λ v. IsRight v (is_held facts body)) known (held_right range facts within (Known false) false refl body)))

pub bodies_held : (range : FactSet) (old new : Bor Block) (one other : Verdict) (is : Held) → one ≡ judged_held range (Known false) old.now → other ≡ judged_held range (Known false) new.now → IsHeldBy one other is
    → IsHeldOf range (handler.Body old) (handler.Body new) is
bodies_held range old new one other held.Both one_is other_is h = λ facts within.
    body_held range old.now true (sym one_is ∙ h.0) facts within ∙ sym (body_held range new.now true (sym other_is ∙ h.1) facts within)
bodies_held range old new one other held.Neither one_is other_is h = λ facts within e.
    body_held range old.now false (sym one_is ∙ h.0) facts within ∙ e ∙ sym (body_held range new.now false (sym other_is ∙ h.1) facts within)
bodies_held range old new one other held.One one_is other_is h = tt
bodies_held range old new one other (held.Open ask) one_is other_is h =
    ⊎_elim (λ e. open_body range old.now ask (sym one_is ∙ e)) (λ e. open_body range new.now ask (sym other_is ∙ e)) h

-- Two yields.
known_yield : (range : FactSet) (yield : Facts → Effects) (after : Effects) (pending : Option Branch) → Yields range yield nothing_yet after pending → pending ≡ None
    → (facts : Facts) → Within range facts → yield facts ≡ after
known_yield range yield after pending h none facts within = sym (nothing_followed (yield facts)) ∙ subst (Yields range yield nothing_yet after) none h facts within

open_yield : (range : FactSet) (yield : Facts → Effects) (after : Effects) (pending : Option Branch) (ask : Branch) → Yields range yield nothing_yet after pending → pending ≡ Some ask → HasDomain ask range
open_yield range yield after pending ask h open_at = subst (Yields range yield nothing_yet after) open_at h

pub looked : (range : FactSet) (one other : Facts → Effects) (old new : Yielded) (is : Look) → Yields range one nothing_yet (effects_of old.reached) old.pending → Yields range other nothing_yet (effects_of new.reached) new.pending
    → IsLookOf old new is → IsLook range one other is
looked range one other old new look.Same h k said = λ facts within.
    known_yield range one (effects_of old.reached) old.pending h said.0 facts within ∙ said.2 ∙ sym (known_yield range other (effects_of new.reached) new.pending k said.1 facts within)
looked range one other old new look.Different h k said = λ facts within same.
    said.2 (sym (known_yield range one (effects_of old.reached) old.pending h said.0 facts within) ∙ same ∙ known_yield range other (effects_of new.reached) new.pending k said.1 facts within)
looked range one other old new (look.Apart ask) h k said =
    ⊎_elim (open_yield range one (effects_of old.reached) old.pending ask h) (open_yield range other (effects_of new.reached) new.pending ask k) said
looked range one other old new (look.Open ask) h k said =
    ⊎_elim (open_yield range one (effects_of old.reached) old.pending ask h) (open_yield range other (effects_of new.reached) new.pending ask k) said

-- Where two functions differ on all facts of a range that has some, they differ on some of it.
pub differ_in : (range : FactSet) (one other : Facts → Effects) → HasFacts range → DifferWithin range one other → DifferIn range one other
differ_in range one other has differ = let some = some_within range has in record { facts = some.0; within = some.1; differ = differ some.0 some.1 }

pub differ_in_part : (part range : FactSet) (one other : Facts → Effects) → IsPart part range → DifferIn part one other → DifferIn range one other
differ_in_part part range one other is h = record { facts = h.facts; within = is h.facts h.within; differ = h.differ }

-- Single facts of a range.
chosen : (P : Domain → Type 0) (c : Bool) (x y : Domain) → (c ≡ true → P x) → P y → P (if c then x else y)
chosen P true x y f h = f refl
chosen P false x y f h = h

point_allowed : (first v : LinkState) (domain : Domain) → allows v (narrowed first domain) ≡ true → allows v domain ≡ true
point_allowed first v domain =
    chosen (λ d. allows v d ≡ true → allows v domain ≡ true) (allows first domain) (only first domain) (if domain.down then only Down domain else (if domain.up then only Up domain else only Unknown domain))
    (λ is. only_within first v domain)
    (chosen (λ d. allows v d ≡ true → allows v domain ≡ true) domain.down (only Down domain) (if domain.up then only Up domain else only Unknown domain) (λ is. only_within Down v domain)
    (chosen (λ d. allows v d ≡ true → allows v domain ≡ true) domain.up (only Up domain) (only Unknown domain) (λ is. only_within Up v domain) (only_within Unknown v domain)))

points_allowed : (first : LinkState) (domains : List Domain) (states : List LinkState) → AreAllowed (map (narrowed first) domains) states → AreAllowed domains states
points_allowed first [] states h = h
points_allowed first (c ∷ cs) [] h = h
points_allowed first (c ∷ cs) (v ∷ vs) h = (point_allowed first v c h.0, points_allowed first cs vs h.1)

pub point_is_part : (first : LinkState) (range : FactSet) → IsPart (point_in first range) range
point_is_part first range facts within = record {
  links = points_allowed first range.links facts.links within.links;
  tests = points_allowed first range.tests (map state_of facts.tests) within.tests;
}

only_has : (value : LinkState) (domain : Domain) → allows value domain ≡ true → has_one (only value domain) ≡ true
only_has Unknown domain is = ap (λ b. b || false) is
only_has Down domain is = ap (λ b. b || false) is
only_has Up domain is = is

picked : (P : Domain → Type 0) (c : Bool) (x y : Domain) → (c ≡ true → P x) → (c ≡ false → P y) → P (if c then x else y)
picked P true x y f g = f refl
picked P false x y f g = g refl

last_is : (unknown down up : Bool) → (unknown || (down || up)) ≡ true → down ≡ false → up ≡ false → unknown ≡ true
last_is true down up h no_down no_up = refl
last_is false true up h no_down no_up = absurd (true≢false no_down)
last_is false false true h no_down no_up = absurd (true≢false no_up)
last_is false false false h no_down no_up = absurd (false≢true h)

narrowed_has : (first : LinkState) (domain : Domain) → has_one domain ≡ true → has_one (narrowed first domain) ≡ true
narrowed_has first domain has =
    picked (λ d. has_one d ≡ true) (allows first domain) (only first domain) (if domain.down then only Down domain else (if domain.up then only Up domain else only Unknown domain)) (only_has first domain)
    (λ not_first. picked (λ d. has_one d ≡ true) domain.down (only Down domain) (if domain.up then only Up domain else only Unknown domain) (only_has Down domain)
    (λ no_down. picked (λ d. has_one d ≡ true) domain.up (only Up domain) (only Unknown domain) (only_has Up domain)
    (λ no_up. only_has Unknown domain (last_is domain.unknown domain.down domain.up has no_down no_up))))

abbrev HasOne : Domain → Type 0
HasOne domain = has_one domain ≡ true

all_narrowed : (first : LinkState) (domains : List Domain) → All HasOne domains → All HasOne (map (narrowed first) domains)
all_narrowed first [] h = h
all_narrowed first (c ∷ cs) h =
    All-cons HasOne (narrowed first c) (map (narrowed first) cs) (narrowed_has first c (All-head HasOne c cs h)) (all_narrowed first cs (All-tail HasOne c cs h))

pub point_has : (first : LinkState) (range : FactSet) → HasFacts range → HasFacts (point_in first range)
point_has first range has = record { links = all_narrowed first range.links has.links; tests = all_narrowed first range.tests has.tests }

-- Single facts of a range that show a difference.
pub differ_at : (first : LinkState) (range point : FactSet) (one other : Facts → Effects) → point ≡ point_in first range → HasFacts range → DifferWithin point one other → DifferIn range one other
differ_at first range point one other is has differ =
    let here = subst (λ p. DifferWithin p one other) is differ in
    differ_in_part (point_in first range) range one other (point_is_part first range) (differ_in (point_in first range) one other (point_has first range has) here)

-- Both parts of a range.
module _ (one other : Facts → Effects) (ask : Branch) (choice : Domain) (before : FactSet) (at : domain_at ask before ≡ Some choice) where
  stays : (part : Domain) (mid : FactSet) (first : Extent) → is_somewhere first ≡ false → IsPartCompared one other ask part before mid first → mid ≡ before
  stays part mid Somewhere isnt h = absurd (true≢false isnt)
  stays part mid Nowhere isnt h = h.0
  stays part mid Undecided isnt h = h

  in_first : (mid : FactSet) (first : Extent) → is_somewhere first ≡ true → IsPartCompared one other ask (only (value_of ask) choice) before mid first → IsCompared one other before mid first
  in_first mid Somewhere is h = (λ facts within. out_of_part ask before facts choice (only (value_of ask) choice) at (λ v. only_within (value_of ask) v choice) (h.0 facts within), h.1, h.2)
  in_first mid Nowhere is h = absurd (false≢true is)
  in_first mid Undecided is h = absurd (false≢true is)

  in_rest : (after : FactSet) → IsPartCompared one other ask (without (value_of ask) choice) before after Somewhere → IsCompared one other before after Somewhere
  in_rest after h = (λ facts within. out_of_part ask before facts choice (without (value_of ask) choice) at (λ v. without_within (value_of ask) v choice) (h.0 facts within), h.1, h.2)

  same_in : (facts : Facts) → AgreeWithin (with_domain ask (only (value_of ask) choice) before) one other → AgreeWithin (with_domain ask (without (value_of ask) choice) before) one other
      → IsSplit ask choice before facts → one facts ≡ other facts
  same_in facts h k (as_asked within) = h facts within
  same_in facts h k (otherwise within) = k facts within

  compared_after : (after : FactSet) (first second : Extent) → is_somewhere first ≡ false → IsPartCompared one other ask (only (value_of ask) choice) before before first
      → IsPartCompared one other ask (without (value_of ask) choice) before after second → IsCompared one other before after (either first second)
  compared_after after Somewhere second isnt h k = absurd (true≢false isnt)
  compared_after after Nowhere Somewhere isnt h k = in_rest after k
  compared_after after Undecided Somewhere isnt h k = in_rest after k
  compared_after after Nowhere Nowhere isnt h k = (k.0, λ facts within. same_in facts h.1 k.1 (is_split ask choice before facts at within))
  compared_after after Undecided Nowhere isnt h k = k.0
  compared_after after Nowhere Undecided isnt h k = k
  compared_after after Undecided Undecided isnt h k = k

  pub first_compared : (part : Domain) (mid : FactSet) (first : Extent) → part ≡ only (value_of ask) choice → is_somewhere first ≡ true → IsPartCompared one other ask part before mid first
      → IsCompared one other before mid first
  first_compared part mid first part_is is h = in_first mid first is (subst (λ p. IsPartCompared one other ask p before mid first) part_is h)

  pub both_compared : (part rest : Domain) (mid after : FactSet) (first second : Extent) → part ≡ only (value_of ask) choice → rest ≡ without (value_of ask) choice → is_somewhere first ≡ false
      → IsPartCompared one other ask part before mid first → IsPartCompared one other ask rest mid after second → IsCompared one other before after (either first second)
  both_compared part rest mid after first second part_is rest_is isnt h k =
      let back = stays part mid first isnt h in
      compared_after after first second isnt
      (subst (λ p. IsPartCompared one other ask p before before first) part_is (subst (λ r. IsPartCompared one other ask part before r first) back h))
      (subst (λ p. IsPartCompared one other ask p before after second) rest_is (subst (λ r. IsPartCompared one other ask rest r after second) back k))

  -- A part without a value has no facts.
  pub empty_part : (part : Domain) → has_one part ≡ false → IsPartCompared one other ask part before before Nowhere
  empty_part part isnt = (refl, λ facts within. absurd (true≢false (sym (has_value ask before facts choice part at within) ∙ isnt)))

  pub compared_back : (part : Domain) (mid after : FactSet) (found : Extent) → is_somewhere found ≡ false → IsCompared one other (with_domain ask part before) mid found → after ≡ with_domain ask choice mid
      → IsPartCompared one other ask part before after found
  compared_back part mid after Somewhere isnt h back = absurd (true≢false isnt)
  compared_back part mid after Nowhere isnt h back = (back ∙ ap (with_domain ask choice) h.0 ∙ put_domain_back ask before choice part at, h.1)
  compared_back part mid after Undecided isnt h back = back ∙ ap (with_domain ask choice) h ∙ put_domain_back ask before choice part at

  pub compared_in : (part : Domain) (mid : FactSet) (found : Extent) → is_somewhere found ≡ true → IsCompared one other (with_domain ask part before) mid found → IsPartCompared one other ask part before mid found
  compared_in part mid Somewhere is h = h
  compared_in part mid Nowhere is h = absurd (false≢true is)
  compared_in part mid Undecided is h = absurd (false≢true is)

-- All facts are within the full range.
pub agree_on_all : (scope : Scope) (one other : Facts → Effects) → AgreeWithin (full_fact_set scope) one other → AgreeOn scope one other
agree_on_all scope one other h facts are = h facts (all_within scope facts are)

-- What a search finds in a range of so many links and tests.
pub found_in : (scope : Scope) (before after : FactSet) (one other : Facts → Effects) → IsRangeOf scope before → IsCompared one other before after Somewhere → IsDifference scope after one other
found_in scope before after one other range h = record {
  is_of = record { has = h.1; are = λ facts within. range.are facts (h.0 facts within) };
  differ = h.2;
}

any_have : (n : ℕ) → All HasOne (replicate n any_domain)
any_have zero = All-nil HasOne
any_have (suc n) = All-cons HasOne any_domain (replicate n any_domain) refl (any_have n)

pub full_range : (scope : Scope) → IsRangeOf scope (full_fact_set scope)
full_range scope = record { has = record { links = any_have scope.links; tests = any_have scope.tests }; are = within_all scope }
