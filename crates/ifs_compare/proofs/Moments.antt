-- What handlers do at a moment.
use Rattle.std.proofs.Common.{◌≡◌, ◌≢◌, ℕ, suc, zero, List, [], ◌∷◌, length, map, Option, Some, None, refl, sym, ap, ◌∙◌, subst, arith}
use Rattle.ifs_base.specs.Facts.{Facts}
use Rattle.ifs_base.specs.Effects.{Effects, nothing_yet, followed}
use Rattle.ifs_base.specs.declared.ids.StateId.{StateId}
use Rattle.ifs_base.specs.declared.op.LinkState.{LinkState}
use Rattle.ifs_core.specs.Event.{change_of}
use Rattle.ifs_gen.specs.Trees.{Part}
use Rattle.ifs_gen.specs.Events.{yield_in}
use Rattle.ifs_policy.specs.Meaning.{reached}
use Rattle.ifs_solver.specs.declared.domains.Domain.{Domain}
use Rattle.ifs_solver.specs.declared.fact_sets.Scope.{Scope}
use Rattle.ifs_solver.specs.FactSets.{FactSet, Within, HasFacts, AreAllowed, AreFactsOf, state_of}
use Rattle.std.proofs.lemmas.List.{length-map}
use Rattle.ifs_solver.proofs.Witnesses.{some_within}
use Rattle.ifs_compare.specs.declared.evaluating.Evaluated.{Evaluated}
use Rattle.ifs_compare.specs.declared.evaluating.Evaluated.TheVariants as evaluated
use Rattle.ifs_compare.specs.declared.evaluating.Moment.{Moment}
use Rattle.ifs_compare.specs.declared.evaluating.Moment.TheVariants.{Opening, In}
use Rattle.ifs_compare.specs.declared.evaluating.Outcomes.{Outcomes}
use Rattle.ifs_compare.specs.declared.sides.Sides.{Sides}
use Rattle.ifs_solver.specs.Reaching.{settled, IsReached}
use Rattle.ifs_compare.specs.Differing.{IsMomentOf}
use Rattle.ifs_compare.specs.inner.Comparing.{IsRangeOf, blocks_in}
use Rattle.ifs_compare.specs.inner.Evaluating.{AreOutcomes, AreReachedIn, DoMomentsDiffer, IsEntryReached, IsEvaluated, outcome_effects}
use Rattle.ifs_solver.proofs.Effecting.{followed_nothing, nothing_followed}

-- A state that is not there yields nothing.
pub none_yields : (yield : Part → Effects) (o : Option Part) (before : Effects) → o ≡ None → followed before (yield_in yield o) ≡ before
none_yields yield o before none = ap (λ p. followed before (yield_in yield p)) none ∙ followed_nothing before

-- Facts of so many links and tests.
so_many_states : (domains : List Domain) (states : List LinkState) → AreAllowed domains states → length states ≡ length domains
so_many_states [] [] h = refl
so_many_states [] (v ∷ vs) h = absurd h
so_many_states (c ∷ cs) [] h = absurd h
so_many_states (c ∷ cs) (v ∷ vs) h = ap suc (so_many_states cs vs h.1)

pub range_of : (scope : Scope) (range : FactSet) → length range.links ≡ scope.links → length range.tests ≡ scope.tests → HasFacts range → IsRangeOf scope range
range_of scope range links tests has = record {
  has = has;
  are = λ facts within. record {
    links = so_many_states range.links facts.links within.links ∙ links;
    tests = sym (length-map facts.tests state_of) ∙ so_many_states range.tests (map state_of facts.tests) within.tests ∙ tests;
  };
}

-- Outcomes that differ under all facts of a range that has some.
pub moments_differ : (scope : Scope) (range : FactSet) (sides : Sides) (moment : Moment) (outcomes : Outcomes) → IsRangeOf scope range → IsMomentOf (blocks_in sides.old) moment → AreOutcomes range sides moment outcomes
    → outcome_effects outcomes.old ≢ outcome_effects outcomes.new → DoMomentsDiffer scope sides
moments_differ scope range sides moment outcomes is_of there are differ =
    let some = some_within range is_of.has in
    record {
      moment = moment;
      there = there;
      differ = record { facts = some.0; are = is_of.are some.0 some.1; differ = λ same. differ (sym (are.old some.0 some.1) ∙ same ∙ are.new some.0 some.1) };
    }
