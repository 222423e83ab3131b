-- The entries of the idle tests, while tests and entries change.
use Rattle.std.proofs.Common.{◌≡◌, ◌≢◌, ℕ, suc, ◌+◌, ◌<◌, ◌≤◌, Bool, true, false, eqb, refl}
use Rattle.std.proofs.Common.{List, [], ◌∷◌, Option, Some, None, length, get_or, set, take, map, slice_get, option_map, ap, sym, ◌∙◌, arith}
use Rattle.std.proofs.Common.{◌⊎◌, inl, inr, ⊎_elim, ◌↔◌}
use Rattle.std.specs.Prelude.{All}
use Rattle.std.specs.List.{Contains, IsDistinct, list_any}
use Rattle.std.proofs.lemmas.Bool.{cases_eq, cases_lt, eqb-true, eq-eqb}
use Rattle.std.proofs.lemmas.Bool.Decides.{nat_tests}
use Rattle.std.proofs.lemmas.List.{get_or-set_other, get_or-set_same, length-set}
use Rattle.std.proofs.lemmas.List.{get_or-take, get_or_default, length-take-le}
use Rattle.std.proofs.lemmas.List.{length-map}
use Rattle.std.proofs.lemmas.List.Elements.{All-cons, All-map, Contains-get_or, recursion_from_All}
use Rattle.std.proofs.lemmas.List.Folds.{Any-from_list_any}
use Rattle.std.proofs.lemmas.Map.Steps.{length-le_from_distinct_below}
use Rattle.std.proofs.lemmas.Option.{slice_get-get_or, slice_get-map, slice_get_past, slice_get_read}
use Rattle.ifs_base.specs.declared.ids.TestId.{TestId}
use Rattle.ifs_sched.specs.declared.timer.Status.{Status}
use Rattle.ifs_sched.specs.declared.timer.Status.TheVariants.{Idle}
use Rattle.ifs_sched.specs.declared.timer.Timer.{Timer}
use Rattle.ifs_sched.specs.Timer.{inactive, is_run}
use Rattle.ifs_sched.specs.Idle.{AreIdle, IsNextDue, is_due_from, is_idle, waits_until}
use Rattle.ifs_sched.proofs.Entries.{IsAscending, before-irreflexive, before-moments}

-- An entry by its moment and its test's index.
pub entry_is : (e : ℕ × TestId) (moment test : ℕ) → e.0 ≡ moment → e.1.0 ≡ test → e ≡ (moment, record { 0 = test })
entry_is e moment test p q =
    let first : e ≡ (moment, e.1) = ap (λ m. (m, e.1)) p in
    let second : (moment, e.1) ≡ (moment, record { 0 = test }) = ap (λ t. (moment, record { 0 = t })) q in
    first ∙ second

-- Tests that wait alike have the same entries.
pub alike : (tests others : List Timer) (entries : List (ℕ × TestId))
    → ((t m : ℕ) → waits_until m (slice_get others t) ≡ waits_until m (slice_get tests t)) → AreIdle tests entries → AreIdle others entries
alike tests others entries same are = record {
  ascending = are.ascending;
  each = λ e. (λ h. same e.1.0 e.0 ∙ (are.each e).0 h, λ h. (are.each e).1 (sym (same e.1.0 e.0) ∙ h));
}

never : false ≡ true → ⊥
never h = cc

-- One more test waits.
module _ (tests others : List Timer) (entries added : List (ℕ × TestId)) (test due : ℕ) where
  pub one_more_waits : ((t m : ℕ) → t ≢ test → waits_until m (slice_get others t) ≡ waits_until m (slice_get tests t))
      → ((m : ℕ) → waits_until m (slice_get tests test) ≡ false)
      → ((m : ℕ) → waits_until m (slice_get others test) ≡ eqb due m)
      → IsAscending added
      → ((e : ℕ × TestId) → Contains added e ↔ ((e ≡ (due, record { 0 = test })) ⊎ Contains entries e))
      → AreIdle tests entries → AreIdle others added
  one_more_waits same before after up there are = record {
    ascending = up;
    each = λ e. (
      λ h. ⊎_elim
          (λ is. ap (λ x. is_idle others x) is ∙ after due ∙ eq-eqb due due refl)
          (λ k. ⊎_elim
          (λ here. absurd (never (sym (before e.0) ∙ ap (λ t. waits_until e.0 (slice_get tests t)) (sym here) ∙ (are.each e).0 k)))
          (λ else. same e.1.0 e.0 else ∙ (are.each e).0 k)
          (cases_eq e.1.0 test))
          ((there e).0 h),
      λ h. (there e).1
          (⊎_elim
          (λ here. inl (entry_is e due test (sym (eqb-true due e.0 (sym (after e.0) ∙ ap (λ t. waits_until e.0 (slice_get others t)) (sym here) ∙ h))) here))
          (λ else. inr ((are.each e).1 (sym (same e.1.0 e.0 else) ∙ h)))
          (cases_eq e.1.0 test)),
    );
  }

-- There are no entries if no test waits.
pub nobody_waits : (tests : List Timer) → ((t m : ℕ) → waits_until m (slice_get tests t) ≡ false) → AreIdle tests []
nobody_waits tests none = record {
  ascending = λ i j d h in'. absurd (omega arith);
  each = λ e. (λ (k, h, q). absurd (omega arith), λ h. absurd (never (sym (none e.1.0 e.0) ∙ h)));
}

-- A test that waits exists.
pub waits_within : (tests : List Timer) (t m : ℕ) → waits_until m (slice_get tests t) ≡ true → t < length tests
waits_within tests t m h =
    ⊎_elim (λ k. k) (λ past. absurd (never (sym (ap (waits_until m) (slice_get_past tests t past)) ∙ h))) (cases_lt t (length tests))

module _ (tests : List Timer) (entries : List (ℕ × TestId)) (are : AreIdle tests entries) where
  pub entry_waits : (k : ℕ) (d : ℕ × TestId) → k < length entries → is_idle tests (get_or entries k d) ≡ true
  entry_waits k d h = (are.each (get_or entries k d)).0 (Contains-get_or entries k d h)

  pub entry_within : (k : ℕ) (d : ℕ × TestId) → k < length entries → (get_or entries k d).1.0 < length tests
  entry_within k d h = waits_within tests (get_or entries k d).1.0 (get_or entries k d).0 (entry_waits k d h)

  -- A test that does not wait has no entry.
  pub not_listed : (test : ℕ) → ((m : ℕ) → waits_until m (slice_get tests test) ≡ false) → All (λ e. e.1.0 ≢ test) entries
  not_listed test before k d h = λ q.
      never
      (sym (before (get_or entries k d).0) ∙ ap (λ t. waits_until (get_or entries k d).0 (slice_get tests t)) (sym q) ∙ entry_waits k d h)

-- The tests up to one more place.
module _ (tests : List Timer) (i : ℕ) (within : i < length tests) where
  pub take_at : (d : Timer) → slice_get (take (i + 1) tests) i ≡ Some (get_or tests i d)
  take_at d =
      slice_get-get_or (take (i + 1) tests) i d (omega (arith, length-take-le (i + 1) tests (omega arith)))
      ∙ ap Some (get_or-take (i + 1) tests i d (omega arith))

  pub take_past : slice_get (take i tests) i ≡ None
  take_past = slice_get_past (take i tests) i (omega (arith, length-take-le i tests (omega arith)))

  below_alike : (t : ℕ) → t < i → slice_get (take (i + 1) tests) t ≡ slice_get (take i tests) t
  below_alike t h =
      let d = inactive 0 in
      slice_get-get_or (take (i + 1) tests) t d (omega (arith, length-take-le (i + 1) tests (omega arith)))
      ∙ ap Some (get_or-take (i + 1) tests t d (omega arith) ∙ sym (get_or-take i tests t d h))
      ∙ sym (slice_get-get_or (take i tests) t d (omega (arith, length-take-le i tests (omega arith))))

  above_alike : (t : ℕ) → i < t → slice_get (take (i + 1) tests) t ≡ slice_get (take i tests) t
  above_alike t h =
      slice_get_past (take (i + 1) tests) t (omega (arith, length-take-le (i + 1) tests (omega arith)))
      ∙ sym (slice_get_past (take i tests) t (omega (arith, length-take-le i tests (omega arith))))

  pub take_alike : (t : ℕ) → t ≢ i → slice_get (take (i + 1) tests) t ≡ slice_get (take i tests) t
  take_alike t ne = ⊎_elim (below_alike t) (λ h. above_alike t (omega arith)) (cases_lt t i)

-- One test is written.
module _ (tests : List Timer) (i : ℕ) (timer : Timer) where
  pub set_at_it : i < length tests → slice_get (set tests i timer) i ≡ Some timer
  set_at_it h =
      slice_get-get_or (set tests i timer) i timer (omega (arith, length-set tests i timer))
      ∙ ap Some (get_or-set_same tests i timer timer h)

  pub set_alike : (t : ℕ) → t ≢ i → slice_get (set tests i timer) t ≡ slice_get tests t
  set_alike t ne =
      ⊎_elim
      (λ h.
      slice_get-get_or (set tests i timer) t timer (omega (arith, length-set tests i timer))
      ∙ ap Some (get_or-set_other tests i t timer timer ne)
      ∙ sym (slice_get-get_or tests t timer h))
      (λ past. slice_get_past (set tests i timer) t (omega (arith, length-set tests i timer)) ∙ sym (slice_get_past tests t past))
      (cases_lt t (length tests))

-- The status of a test that is not idle.
pub not_idle : (status : Status) → ((due : ℕ) → status ≡ Idle due → ⊥) → (m : ℕ) → is_due_from m status ≡ false
not_idle (Idle due) h m = absurd (h due refl)
not_idle status h m = refl

-- A fact of one place and of all others is one of all places.
pub at_each : (tests others : List Timer) (i : ℕ)
    → ((t m : ℕ) → t ≢ i → waits_until m (slice_get others t) ≡ waits_until m (slice_get tests t))
    → ((m : ℕ) → waits_until m (slice_get others i) ≡ waits_until m (slice_get tests i))
    → (t m : ℕ) → waits_until m (slice_get others t) ≡ waits_until m (slice_get tests t)
at_each tests others i other here t m =
    ⊎_elim
    (λ e. ap (λ k. waits_until m (slice_get others k)) e ∙ here m ∙ ap (λ k. waits_until m (slice_get tests k)) (sym e))
    (λ ne. other t m ne)
    (cases_eq t i)

-- A test has one due moment.
one_moment : (m n : ℕ) (o : Option Timer) → waits_until m o ≡ true → waits_until n o ≡ true → m ≡ n
one_moment m n None h k = absurd (never h)
one_moment m n (Some timer) h k = same_moment m n timer.status h k
  where
    same_moment : (m n : ℕ) (status : Status) → is_due_from m status ≡ true → is_due_from n status ≡ true → m ≡ n
    same_moment m n (Idle due) h k = sym (eqb-true due m h) ∙ eqb-true due n k
    same_moment m n status h k = absurd (never h)

abbrev index_of : ℕ × TestId → ℕ
index_of e = e.1.0

-- The tests of entries differ.
distinct_tests : (tests : List Timer) (entries : List (ℕ × TestId)) → IsAscending entries → All (λ e. is_idle tests e ≡ true) entries
    → IsDistinct eqb (map index_of entries)
unfolding IsDistinct
distinct_tests tests [] up waits = tt
distinct_tests tests (x ∷ xs) up waits = (
  recursion_from_All (λ y. eqb (index_of x) y ≡ false) (map index_of xs) (All-map (λ y. eqb (index_of x) y ≡ false) index_of xs (λ k d h. differ k d h)),
  distinct_tests tests xs (λ i j d h in'. up (suc i) (suc j) d (omega arith) (omega arith)) (λ k d h. waits (suc k) d (omega arith)),
)
  where
    differ : (k : ℕ) (d : ℕ × TestId) → k < length xs → eqb (index_of x) (index_of (get_or xs k d)) ≡ false
    differ k d h =
        ⊎_elim
        (λ e.
        let other = get_or xs k d in
        let first : waits_until x.0 (slice_get tests (index_of other)) ≡ true =
        ap (λ t. waits_until x.0 (slice_get tests t)) (sym e) ∙ waits 0 d (omega arith) in
        let moments = one_moment x.0 other.0 (slice_get tests (index_of other)) first (waits (suc k) d (omega arith)) in
        absurd (before-irreflexive x other (up 0 (suc k) d (omega arith) (omega arith)) moments e))
        (λ ne. grind (arith, nat_tests))
        (cases_eq (index_of x) (index_of (get_or xs k d)))

-- There is room for the entry of a test that has none.
pub room_for : (tests : List Timer) (entries : List (ℕ × TestId)) (test : ℕ) → AreIdle tests entries → length tests ≤ 64 → test < length tests
    → ((m : ℕ) → waits_until m (slice_get tests test) ≡ false) → length entries < 64
unfolding IsDistinct
room_for tests entries test are few within none =
    let waits : All (λ e. is_idle tests e ≡ true) entries = entry_waits tests entries are in
    let others : All (λ y. eqb test y ≡ false) (map index_of entries) =
    All-map (λ y. eqb test y ≡ false) index_of entries
    (λ k d h. let ne = not_listed tests entries are test none k d h in grind (arith, nat_tests)) in
    let low : All (λ y. y < 64) (test ∷ map index_of entries) =
    All-cons (λ y. y < 64) test (map index_of entries) (omega arith)
    (All-map (λ y. y < 64) index_of entries (λ k d h. let l = entry_within tests entries are k d h in omega arith)) in
    let distinct : IsDistinct eqb (test ∷ map index_of entries) =
    (recursion_from_All (λ y. eqb test y ≡ false) (map index_of entries) others, distinct_tests tests entries are.ascending waits) in
    let most = length-le_from_distinct_below (test ∷ map index_of entries) 64 distinct (λ q h. found_low (map index_of entries) test low q h) in
    let e = length-map entries index_of in
    omega arith
  where
    found_low : (ys : List ℕ) (y : ℕ) → All (λ y. y < 64) (y ∷ ys) → (q : ℕ) → list_any (eqb q) (y ∷ ys) ≡ true → q < 64
    found_low ys y low q h =
        let (k, x, in', at, is) = Any-from_list_any (eqb q) (y ∷ ys) h in
        let l = low k x in' in
        let e = eqb-true q x is in
        omega (arith, at)

-- Tests that are off do not wait.
pub off_waits : (periods : List ℕ) (t m : ℕ) → waits_until m (slice_get (map inactive periods) t) ≡ false
off_waits periods t m = ap (waits_until m) (slice_get-map inactive periods t) ∙ none (slice_get periods t)
  where
    none : (o : Option ℕ) → waits_until m (option_map inactive o) ≡ false
    none None = refl
    none (Some period) = refl

-- The first entry has the least moment.
pub next_from_first : (tests : List Timer) (entries : List (ℕ × TestId)) (d : ℕ × TestId) → AreIdle tests entries → 0 < length entries
    → IsNextDue tests (Some (get_or entries 0 d).0)
next_from_first tests entries d are some = (
  ((get_or entries 0 d).1, entry_waits tests entries are 0 d some),
  λ e h. least e ((are.each e).1 h),
)
  where
    least : (e : ℕ × TestId) → Contains entries e → (get_or entries 0 d).0 ≤ e.0
    least e (k, in', at) =
        let q : (get_or entries k d).0 ≡ e.0 = ap (λ x. x.0) (get_or_default entries k d e in' ∙ at) in
        ⊎_elim
        (λ first. let same = ap (λ n. (get_or entries n d).0) first in omega arith)
        (λ later.
        let l = before-moments (get_or entries 0 d) (get_or entries k d) (are.ascending 0 k d (omega arith) in') in omega arith)
        (cases_eq k 0)

-- Without entries no test waits.
pub next_from_none : (tests : List Timer) (entries : List (ℕ × TestId)) → AreIdle tests entries → length entries < 1 → IsNextDue tests None
next_from_none tests entries are none = λ e. go e (is_idle tests e) refl
  where
    nothing : (e : ℕ × TestId) → Contains entries e → ⊥
    nothing e (k, in', at) = absurd (omega arith)

    go : (e : ℕ × TestId) (b : Bool) → is_idle tests e ≡ b → is_idle tests e ≡ false
    go e false h = h
    go e true h = absurd (nothing e ((are.each e).1 h))

-- A test that runs does not wait.
running_is_not_due : (run m : ℕ) (status : Status) → is_run run status ≡ true → is_due_from m status ≡ false
running_is_not_due run m (Idle due) h = absurd (never h)
running_is_not_due run m status h = refl

-- The end of a run.
module _ (tests : List Timer) (entries : List (ℕ × TestId)) (test run : ℕ) (timer : Timer) (room : length tests ≤ 64) (are : AreIdle tests entries) (within : test < length tests) (here : timer ≡ get_or tests test timer) (runs : true ≡ is_run run timer.status) where
  does_not_wait : (m : ℕ) → waits_until m (slice_get tests test) ≡ false
  does_not_wait m =
      ap (waits_until m) (slice_get_read tests (length tests) test timer refl within here)
      ∙ running_is_not_due run m timer.status (sym runs)

  pub finished_room : length entries < 64
  finished_room = room_for tests entries test are room within does_not_wait

  pub finished_other : All (λ e. e.1.0 ≢ test) entries
  finished_other = not_listed tests entries are test does_not_wait

  pub finished_entries : (due : ℕ) (ended : Timer) (added : List (ℕ × TestId)) → ended.status ≡ Idle due → IsAscending added
      → ((e : ℕ × TestId) → Contains added e ↔ ((e ≡ (due, record { 0 = test })) ⊎ Contains entries e))
      → (length (set tests test ended) ≤ 64) × AreIdle (set tests test ended) added
  finished_entries due ended added e up there = (
    omega (arith, length-set tests test ended),
    one_more_waits tests (set tests test ended) entries added test due
        (λ t m ne. ap (waits_until m) (set_alike tests test ended t ne))
        does_not_wait
        (λ m. ap (waits_until m) (set_at_it tests test ended within) ∙ ap (is_due_from m) e)
        up there are,
  )
