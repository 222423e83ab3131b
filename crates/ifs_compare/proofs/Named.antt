-- What is said of two policies by what is said of their blocks.
use Rattle.std.proofs.Common.{◌≡◌, ◌≢◌, ◌<◌, ◌⊎◌, ⊎_elim, inl, inr, Bool, true, false, ◌&&◌, ◌==◌, List, [], length, map, refl, sym, ap, ◌∙◌, subst, arith}
use Rattle.std.specs.Bool.{OnTrue, OnFalse}
use Rattle.std.proofs.lemmas.Bool.{false≢true, true≢false, eqb-true, OnTrue_at, OnFalse_at}
use Rattle.ifs_base.specs.declared.ids.StateId.{StateId}
use Rattle.ifs_gen.specs.Trees.{Part, Policy}
use Rattle.ifs_gen.specs.PlainSizes.{room_of}
use Rattle.ifs_policy.specs.declared.tables.Tables.{Tables}
use Rattle.ifs_solver.specs.declared.fact_sets.Scope.{Scope}
use Rattle.ifs_compare.specs.declared.answers.Compared.{Compared}
use Rattle.ifs_compare.specs.declared.answers.Difference.{Difference}
use Rattle.ifs_compare.specs.declared.effort.Effort.{Effort}
use Rattle.ifs_compare.specs.declared.renumbering.Renumbered.{Renumbered}
use Rattle.ifs_compare.specs.declared.reporting.Case.{Case}
use Rattle.ifs_compare.specs.declared.sides.Side.{Side}
use Rattle.ifs_compare.specs.Alike.{is_same, IsTheSame}
use Rattle.ifs_compare.specs.Renumbering.{HaveSameNames}
use Rattle.ifs_compare.specs.Spent.{IsUsedUp, IsSpent}
use Rattle.ifs_compare.specs.Differing.{Blocks, blocks_of, blocks_over, DoDiffer, in_names, in_room, in_tests, in_moments, AreOther}
use Rattle.ifs_compare.specs.inner.Comparing.{scope_in, IsSameButRoom, AreOfPolicy, AreOfRenumbered, SidesDiffer, blocks_in, is_judged_open}
use Rattle.ifs_compare.specs.inner.Numbering.{IsRenumbered}
use Rattle.ifs_compare.specs.inner.Reporting.{IsTold}
use Rattle.ifs_compare.specs.inner.Telling.{AreTold, AreNamedTold, IsRoomTold, IsConcluded, blocks_made}
use Rattle.ifs_compare.proofs.Apart.{not_both}
use Rattle.ifs_compare.proofs.Sames.{first_of, second_of}

abbrev blocks : StateId → Part → List Part → Blocks
blocks initial always states = record { initial = initial; always = always; states = states }

policy_blocks : (side : Side) (policy : Policy) → AreOfPolicy side policy → blocks_in side ≡ blocks_of policy
policy_blocks side policy h =
    ap (λ i. blocks i side.always.now side.states.now) h.initial ∙ ap (λ p. blocks policy.initial p side.states.now) h.always ∙ ap (λ ps. blocks policy.initial policy.always ps) h.states

made_blocks : (side : Side) (made : Renumbered) → AreOfRenumbered side made → blocks_in side ≡ blocks_made made
made_blocks side made h =
    ap (λ i. blocks i side.always.now side.states.now) h.initial ∙ ap (λ p. blocks made.initial p side.states.now) h.always ∙ ap (λ ps. blocks made.initial made.always ps) h.states

pub over_blocks : (made : Renumbered) (from to : Tables) (policy : Policy) → IsRenumbered made from to policy → blocks_made made ≡ blocks_over from to policy
over_blocks made from to policy h =
    let over = blocks_over from to policy in
    ap (λ i. blocks i made.always made.states) h.initial ∙ ap (λ p. blocks over.initial p made.states) h.always ∙ ap (λ ps. blocks over.initial over.always ps) h.states

-- What is said of a case.
case_told : (case : Case) (before after : Effort) (start end : Compared) → IsTold case start end → OnFalse case.judged.now.alike ((is_judged_open case.judged.now ≡ true) ⊎ SidesDiffer case.stage.scope case.stage.sides)
    → IsSpent before after (is_judged_open case.judged.now) → AreTold case.stage.scope (blocks_in case.stage.sides.old) (blocks_in case.stage.sides.new) before after case.judged.now.alike start end
case_told case before after start end h apart spent = record {
  differences = h.differences;
  undecided = λ lt. ⊎_elim inl (λ left. inr (⊎_elim (λ is. inl (spent.used_up is)) inr left)) (h.undecided lt);
  apart = λ e. ⊎_elim (λ is. inl (spent.used_up is)) inr (OnFalse_at e apart);
}

pub sides_told : (case : Case) (scope : Scope) (old : Policy) (made : Renumbered) (before after : Effort) (start end : Compared) → case.stage.scope ≡ scope → AreOfPolicy case.stage.sides.old old → AreOfRenumbered case.stage.sides.new made
    → IsTold case start end → OnFalse case.judged.now.alike ((is_judged_open case.judged.now ≡ true) ⊎ SidesDiffer case.stage.scope case.stage.sides) → IsSpent before after (is_judged_open case.judged.now)
    → AreTold scope (blocks_of old) (blocks_made made) before after case.judged.now.alike start end
sides_told case scope old made before after start end scope_is of_old of_made h apart spent =
    let alike = case.judged.now.alike in
    let one = blocks_in case.stage.sides.old in
    let other = blocks_in case.stage.sides.new in
    subst (λ s. AreTold s (blocks_of old) (blocks_made made) before after alike start end) scope_is
    (subst (λ b. AreTold case.stage.scope b (blocks_made made) before after alike start end) (policy_blocks case.stage.sides.old old of_old)
    (subst (λ b. AreTold case.stage.scope one b before after alike start end) (made_blocks case.stage.sides.new made of_made) (case_told case before after start end h apart spent)))

-- Nothing differs.
pub named_same : (old new : Policy) (alike same_room same : Bool) (earlier : List Difference) (found compared : Compared) → OnTrue alike (IsSameButRoom old new) → IsRoomTold old new same_room earlier found.differences.items
    → same ≡ (alike && same_room) → IsConcluded same found compared → is_same compared ≡ true → IsTheSame old new
named_same old new alike same_room same earlier found compared h room is concluded e =
    let all = sym is ∙ concluded.known e in
    let but_room = OnTrue_at (first_of alike same_room all) h in
    let as_many : (room_of old ≡ room_of new) × (found.differences.items ≡ earlier) = OnTrue_at (second_of alike same_room all) room.as_many in
    record { names = but_room.names; alike = but_room.alike; room = as_many.0 }

-- The tables are those of two policies.
pub named_told : (old new : Policy) (from to : Tables) (before after : Effort) (alike : Bool) (start end : Compared) → AreTold (scope_in to) (blocks_of old) (blocks_over from to new) before after alike start end → from ≡ new.tables → to ≡ old.tables
    → AreNamedTold old new before after alike start end
named_told old new from to before after alike start end h from_is to_is =
    let told = subst (λ t. AreTold (scope_in t) (blocks_of old) (blocks_over new.tables t new) before after alike start end) to_is (subst (λ f. AreTold (scope_in to) (blocks_of old) (blocks_over f to new) before after alike start end) from_is h) in
    record { differences = λ lt. ⊎_elim inl (λ so. inr (inr so)) (told.differences lt); named = λ names. told }

-- What is said of two policies.
none_before : {X : Type 0} (xs : List X) → xs ≡ [] → 0 < length xs → ⊥
none_before xs none lt = let so = ap length none in omega arith

module _ (old new : Policy) (before after : Effort) (alike same_room : Bool) (start mid found compared : Compared) (named : AreNamedTold old new before after alike start mid) (room : IsRoomTold old new same_room mid.differences.items found.differences.items) where
  told_with_names : start.differences.items ≡ [] → 0 < length mid.differences.items → DoDiffer old new
  told_with_names none lt =
      ⊎_elim (λ earlier. absurd (none_before start.differences.items none earlier)) (λ so. ⊎_elim in_names (λ same_names. ⊎_elim in_tests in_moments same_names) so) (named.differences lt)

  told_with_room : (same : Bool) → same ≡ same_room → start.differences.items ≡ [] → 0 < length found.differences.items → DoDiffer old new
  told_with_room true is none lt = told_with_names none (subst (λ xs. 0 < length xs) (OnTrue_at (sym is) room.as_many).1 lt)
  told_with_room false is none lt = in_room (OnFalse_at (sym is) room.apart).0

  pub policies_told : start.differences.items ≡ [] → compared.differences.items ≡ found.differences.items → 0 < length compared.differences.items → DoDiffer old new
  policies_told none is lt = told_with_room same_room refl none (subst (λ xs. 0 < length xs) is lt)

  nothing_found : is_same found ≡ true → 0 < length found.differences.items → ⊥
  nothing_found none lt =
      let nothing = eqb-true (length found.differences.items) 0 (first_of (length found.differences.items == 0) (length found.undecided.items == 0) none) in
      omega arith

  pub policies_left : (same : Bool) → HaveSameNames old.tables new.tables → start.undecided.items ≡ [] → found.undecided.items ≡ mid.undecided.items → same ≡ (alike && same_room) → IsConcluded same found compared
      → 0 < length compared.undecided.items → IsUsedUp before after ⊎ AreOther old new
  policies_left same names none kept is concluded lt =
      let told = named.named names in
      ⊎_elim
      (λ earlier. ⊎_elim (λ at_start. absurd (none_before start.undecided.items none at_start)) (λ why. ⊎_elim inl (λ differ. inr (inr differ)) why) (told.undecided (subst (λ xs. 0 < length xs) kept earlier)))
      (λ last. ⊎_elim told.apart (λ other_room. absurd (let apart : (room_of old ≢ room_of new) × (0 < length found.differences.items) = OnFalse_at other_room room.apart in nothing_found last.1 apart.1)) (not_both alike same_room (sym is ∙ last.0)))
      (concluded.undecided lt)
