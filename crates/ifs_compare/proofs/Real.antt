-- What is said of two policies is not so of policies that are the same.
use Rattle.std.proofs.Common.{◌≡◌, ◌↔◌, ℕ, ◌<◌, ◌⊎◌, ⊎_elim, Bool, true, false, List, [], ◌∷◌, ◌++◌, Contains, Option, Some, None, refl, sym, ap, ◌∙◌, subst}
use Rattle.std.specs.Prelude.{slice_get}
use Rattle.std.specs.List.{list_any}
use Rattle.std.proofs.lemmas.Bool.{eqb-true, eq-eqb}
use Rattle.std.proofs.lemmas.List.Folds.{Any-from_list_any, list_any_at}
use Rattle.ifs_base.specs.Facts.{Facts}
use Rattle.ifs_base.specs.Effects.{Effects}
use Rattle.ifs_base.specs.declared.ids.CommandId.{CommandId}
use Rattle.ifs_base.specs.declared.ids.StateId.{StateId}
use Rattle.ifs_base.specs.declared.ids.TestId.{TestId}
use Rattle.ifs_sched.specs.Schedule.{has_test}
use Rattle.ifs_gen.specs.Trees.{Part, Policy}
use Rattle.ifs_gen.specs.Events.{ActiveAreMentioned}
use Rattle.ifs_gen.specs.PlainSizes.{mask_of_part}
use Rattle.ifs_gen.proofs.Masks.{active_are_mentioned}
use Rattle.ifs_policy.specs.Meaning.{Block, Mentions, mentioned, init_yield}
use Rattle.ifs_policy.specs.Visits.{is_test, mentions}
use Rattle.ifs_policy.proofs.MentionedTests.{mentioned_are_mentions}
use Rattle.ifs_solver.specs.declared.fact_sets.Scope.{Scope}
use Rattle.ifs_solver.specs.FactSets.{AreFactsOf, scope_of}
use Rattle.ifs_compare.specs.declared.evaluating.Moment.{Moment}
use Rattle.ifs_compare.specs.declared.evaluating.Moment.TheVariants.{Opening, In}
use Rattle.ifs_solver.specs.Reaching.{settled}
use Rattle.ifs_compare.specs.Alike.{AreAlike, IsTheSame}
use Rattle.ifs_compare.specs.Renumbering.{renumbered}
use Rattle.ifs_compare.specs.Differing.{Blocks, blocks_of, HaveOtherTests, AreApart, by_initial, by_count, by_tests, by_tests_in, HandlersDiffer, in_opening, in_init, in_evaluation, bodies_yield, entry_yield, with_entry, moment_yield, IsMomentOf, MomentsDiffer, DoDiffer, in_names, in_room, in_tests, in_moments, AreOther, DifferencesAreReal}
use Rattle.ifs_compare.proofs.Runs.{inits_like, evaluations_like}

-- Bodies with the same mask mention the same tests.
listed : (xs : List TestId) (t : TestId) → list_any (is_test t) xs ≡ true → Contains xs t
listed xs t h = let a = Any-from_list_any (is_test t) xs h in subst (Contains xs) (ap (λ n. record { 0 = n }) (eqb-true a.1.0 t.0 a.4)) (a.0, a.2, a.3)

in_list : (xs : List TestId) (t : TestId) → Contains xs t → list_any (is_test t) xs ≡ true
in_list xs t c = list_any_at (is_test t) xs c.0 t c.1 (ap (is_test t) c.2 ∙ eq-eqb t.0 t.0 refl)

same_bool : (a b : Bool) → (a ≡ true → b ≡ true) → (b ≡ true → a ≡ true) → a ≡ b
same_bool true b f g = sym (f refl)
same_bool false true f g = g refl
same_bool false false f g = refl

mentions_too : (count : ℕ) (one other : Part) (t : TestId) → t.0 < count → mask_of_part count one ≡ mask_of_part count other → mentions t one.body ≡ true → mentions t other.body ≡ true
mentions_too count one other t lt same h =
    let here = (active_are_mentioned mentioned_are_mentions count one t.0 lt).1 ((mentioned_are_mentions one.body t).0 (listed (mentioned one.body) t h)) in
    let there = (active_are_mentioned mentioned_are_mentions count other t.0 lt).0 (ap (λ m. has_test m t.0) (sym same) ∙ here) in
    in_list (mentioned other.body) t ((mentioned_are_mentions other.body t).1 there)

mentions_same : (count : ℕ) (one other : Part) (t : TestId) → t.0 < count → mask_of_part count one ≡ mask_of_part count other → mentions t one.body ≡ mentions t other.body
mentions_same count one other t lt same = same_bool (mentions t one.body) (mentions t other.body) (mentions_too count one other t lt same) (mentions_too count other one t lt (sym same))

no_other_tests : (scope : Scope) (one other : Part) → mask_of_part scope.tests one ≡ mask_of_part scope.tests other → HaveOtherTests scope one other → ⊥
no_other_tests scope one other same h = h.differ (mentions_same scope.tests one other h.test h.there same)

-- Policies that do the same over the same tables.
module _ (old new : Policy) (alike : AreAlike old new) where
  not_apart : AreApart (scope_of old) (blocks_of old) (blocks_of new) → ⊥
  not_apart (by_initial differ) = differ alike.initial
  not_apart (by_count differ) = differ alike.states.count
  not_apart (by_tests other) = no_other_tests (scope_of old) old.always new.always alike.always.active other
  not_apart (by_tests_in state one other parts tests) = no_other_tests (scope_of old) one other (alike.states.each state one other parts.before parts.after).part.active tests

  no_other_handlers : HandlersDiffer (scope_of old) (blocks_of old) (blocks_of new) → ⊥
  no_other_handlers (in_opening h) = h.differ (alike.always.init h.facts h.are)
  no_other_handlers (in_init state one other parts h) = h.differ ((alike.states.each state one other parts.before parts.after).part.init h.facts h.are)
  no_other_handlers (in_evaluation state one other parts h) = h.differ ((alike.states.each state one other parts.before parts.after).evaluation h.facts h.are)

  entries_same : (facts : Facts) → AreFactsOf (scope_of old) facts → (entered : Option StateId) → (entry_yield (blocks_of old) facts entered).commands ≡ (entry_yield (blocks_of new) facts entered).commands
  entries_same facts are None = refl
  entries_same facts are (Some state) =
      inits_like (scope_of old) old.always new.always old.states new.states alike.states facts are state.0 (slice_get old.states state.0) (slice_get new.states state.0) refl refl

  entering_same : (facts : Facts) → AreFactsOf (scope_of old) facts → (entered : Option StateId) (effects : Effects) → with_entry (blocks_of old) facts entered effects ≡ with_entry (blocks_of new) facts entered effects
  entering_same facts are entered effects = ap (λ xs. record { commands = effects.commands ++ xs; wish = effects.wish }) (entries_same facts are entered)

  moments_same : (moment : Moment) → IsMomentOf (blocks_of old) moment → (facts : Facts) → AreFactsOf (scope_of old) facts → moment_yield (blocks_of old) moment facts ≡ moment_yield (blocks_of new) moment facts
  moments_same Opening there facts are =
      ap (λ e. with_entry (blocks_of old) facts (Some old.initial) (record { commands = e.commands; wish = None })) (alike.always.init facts are)
      ∙ ap (λ i. with_entry (blocks_of old) facts (Some i) (record { commands = (init_yield facts new.always.init).commands; wish = None })) alike.initial
      ∙ entering_same facts are (Some new.initial) (record { commands = (init_yield facts new.always.init).commands; wish = None })
  moments_same (In state) there facts are =
      let after = settled state (bodies_yield (blocks_of new) state facts) in
      ap (λ e. with_entry (blocks_of old) facts e.wish e)
      (evaluations_like (scope_of old) old.always new.always old.states new.states alike.states facts are state there (slice_get old.states state.0) (slice_get new.states state.0) refl refl)
      ∙ entering_same facts are after.wish after

  no_other_moments : MomentsDiffer (scope_of old) (blocks_of old) (blocks_of new) → ⊥
  no_other_moments h = h.differ.differ (moments_same h.moment h.there h.differ.facts h.differ.are)

not_same : (old new : Policy) → DoDiffer old new → IsTheSame old new → ⊥
not_same old new (in_names differ) same = differ same.names
not_same old new (in_room differ) same = differ same.room
not_same old new (in_tests apart) same = not_apart old (renumbered old.tables new) same.alike apart
not_same old new (in_moments differ) same = no_other_moments old (renumbered old.tables new) same.alike differ

pub differences_are_real : DifferencesAreReal
differences_are_real = record {
  differ = not_same;
  other = λ old new other same. ⊎_elim (not_apart old (renumbered old.tables new) same.alike) (no_other_handlers old (renumbered old.tables new) same.alike) other;
}
