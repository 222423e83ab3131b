-- A tick and the entries: those at the front are the due tests, and the later ones are left if no run number was missing.
use Rattle.std.proofs.Common.{◌≡◌, ℕ, ◌+◌, ◌-◌, ◌<◌, ◌≤◌, Bool, true, false, not, cond, ◌&&◌, ◌==◌, eqb, nat_lt, nat_le, refl}
use Rattle.std.proofs.Common.{List, Option, Some, length, get_or, take, drop, slice_get, ap, sym, ◌∙◌, subst, arith}
use Rattle.std.proofs.Common.{⊎_elim}
use Rattle.std.specs.Prelude.{All}
use Rattle.std.specs.List.{enumerate_from, list_any, prefix_len}
use Rattle.std.proofs.lemmas.Bool.Decides.{nat_tests}
use Rattle.std.proofs.lemmas.List.{get_or-drop, get_or-take, get_or_default, length-drop, length-take-le}
use Rattle.std.proofs.lemmas.List.Folds.{Any-from_list_any, list_any-from_Any}
use Rattle.std.proofs.lemmas.List.FromFn.{get_or-enumerate_from, length-enumerate_from}
use Rattle.std.proofs.lemmas.Option.{slice_get-get_or, slice_get_past}
use Rattle.std.proofs.lemmas.Bool.{cases_lt}
use Rattle.ifs_base.specs.declared.ids.TestId.{TestId}
use Rattle.ifs_sched.specs.declared.timer.Status.{Status}
use Rattle.ifs_sched.specs.declared.timer.Status.TheVariants.{Off, Idle, Running}
use Rattle.ifs_sched.specs.declared.timer.Timer.{Timer}
use Rattle.ifs_sched.specs.Timer.{inactive, is_due, started}
use Rattle.ifs_sched.specs.Schedule.{any_by_index, has_number, has_test, is_left_over, map_by_index, run_number_at, ticked_test}
use Rattle.ifs_sched.specs.Idle.{AreIdle, is_due_from, is_idle, waits_until}
use Rattle.ifs_sched.specs.inner.Due.{IsDueSet}
use Rattle.ifs_sched.proofs.ByIndex.{as_many_by_index}
use Rattle.ifs_sched.proofs.Entries.{ascending-drop, due_in_front, late_behind, count-le}
use Rattle.ifs_sched.proofs.Finishing.{get_or-map_by_index}
use Rattle.ifs_sched.proofs.Ticking.{due_at, due_is_there}
use Rattle.ifs_sched.proofs.Waiting.{entry_waits, entry_within, waits_within}

-- Two tests that are true alike are the same.
same_truth : (a b : Bool) → (a ≡ true → b ≡ true) → (b ≡ true → a ≡ true) → a ≡ b
same_truth true b h k = sym (h refl)
same_truth false true h k = k refl
same_truth false false h k = refl

-- A test that waits until a moment is due from then on.
due_from_waits : (now m : ℕ) (o : Option Timer) (timer : Timer) → o ≡ Some timer → waits_until m o ≡ true → m ≤ now → is_due now timer ≡ true
due_from_waits now m o timer e h le = let waits = sym (ap (waits_until m) e) ∙ h in of_status timer.status waits
  where
    of_status : (status : Status) → is_due_from m status ≡ true → is_due now (record timer { status = status }) ≡ true
    of_status Off h = absurd (let none : false ≡ true = h in cc)
    of_status (Idle due) h = grind (arith, nat_tests)
    of_status (Running run due) h = absurd (let none : false ≡ true = h in cc)

-- A due test waits until some moment that has come.
waits_from_due : (now : ℕ) (timer : Timer) → is_due now timer ≡ true → (m : ℕ) × (is_due_from m timer.status ≡ true) × (m ≤ now)
waits_from_due now timer h = of_status timer.status h
  where
    of_status : (status : Status) → is_due now (record timer { status = status }) ≡ true → (m : ℕ) × (is_due_from m status ≡ true) × (m ≤ now)
    of_status Off h = absurd (let none : false ≡ true = h in cc)
    of_status (Idle due) h = (due, grind (arith, nat_tests), grind (arith, nat_tests))
    of_status (Running run due) h = absurd (let none : false ≡ true = h in cc)

module _ (tests : List Timer) (entries : List (ℕ × TestId)) (are : AreIdle tests entries) (now : ℕ) where
  abbrev front : ℕ
  front = prefix_len (λ e. nat_le e.0 now) entries

  -- The test of an entry at the front is due.
  due_from_front : (t : ℕ) → list_any (λ e. e.1.0 == t) (take front entries) ≡ true → due_at now tests t ≡ true
  due_from_front t h =
      let (k, x, in', at, is) = Any-from_list_any (λ e. e.1.0 == t) (take front entries) h in
      let most = count-le entries are.ascending now in
      let here : k < front = omega (arith, length-take-le front entries most) in
      let there : k < length entries = omega arith in
      let e : get_or entries k x ≡ x = sym (get_or-take front entries k x here) ∙ at in
      let waits : is_idle tests x ≡ true = ap (is_idle tests) (sym e) ∙ entry_waits tests entries are k x there in
      let moment : x.0 ≤ now = subst (λ y. y.0 ≤ now) e (due_in_front entries are.ascending now k x here) in
      let index : x.1.0 ≡ t = grind (arith, nat_tests) in
      let within = waits_within tests x.1.0 x.0 waits in
      ap (due_at now tests) (sym index)
      ∙ due_from_waits now x.0 (slice_get tests x.1.0) (get_or tests x.1.0 (inactive 0)) (slice_get-get_or tests x.1.0 (inactive 0) within) waits moment

  -- The entry of a due test is at the front.
  front_from_due : (t : ℕ) → due_at now tests t ≡ true → list_any (λ e. e.1.0 == t) (take front entries) ≡ true
  front_from_due t h =
      let within = due_is_there now tests t h in
      let timer = get_or tests t (inactive 0) in
      let (m, waits, le) = waits_from_due now timer h in
      let entry : ℕ × TestId = (m, record { 0 = t }) in
      let idle : is_idle tests entry ≡ true = ap (waits_until m) (slice_get-get_or tests t (inactive 0) within) ∙ waits in
      let (k, in', at) = (are.each entry).1 idle in
      let most = count-le entries are.ascending now in
      let here : k < front =
      ⊎_elim (λ h. h)
      (λ late. absurd (let l = late_behind entries are.ascending now k entry late in' in let q : (get_or entries k entry).0 ≡ m = ap (λ y. y.0) at in omega arith))
      (cases_lt k front) in
      list_any-from_Any (λ e. e.1.0 == t) (take front entries)
      (k, entry, omega (arith, length-take-le front entries most), get_or-take front entries k entry here ∙ at, grind (arith, nat_tests))

  pub due_set : (mask : ℕ) → ((t : ℕ) → t < 64 → has_test mask t ≡ list_any (λ e. e.1.0 == t) (take front entries)) → IsDueSet now tests mask
  due_set mask h = λ t l. h t l ∙ same_truth _ _ (due_from_front t) (front_from_due t)

-- If none passes, the one at a place does not.
none_passes : {X : Type 0} (p : X → Bool) (xs : List X) → list_any p xs ≡ false → (k : ℕ) (d : X) → k < length xs → p (get_or xs k d) ≡ false
none_passes p xs none k d h = at_it (p (get_or xs k d)) refl
  where
    at_it : (b : Bool) → p (get_or xs k d) ≡ b → p (get_or xs k d) ≡ false
    at_it false e = e
    at_it true e = absurd (let some = list_any-from_Any p xs (k, get_or xs k d, h, get_or_default xs k (get_or xs k d) d h, e) in let both : false ≡ true = sym none ∙ some in cc)

first_of_both : (a b : Bool) → (a && b) ≡ true → a ≡ true
first_of_both true b h = refl
first_of_both false b h = h

second_of_both : (a b : Bool) → (a && b) ≡ true → b ≡ true
second_of_both true b h = h
second_of_both false b h = absurd (let none : false ≡ true = h in cc)

-- An idle test after a tick that leaves no due test waits still if its due moment has not come.
idle_after : (now m due run : ℕ) (timer : Timer) (b has : Bool) → nat_le due now ≡ b → (b && not has) ≡ false
    → is_due_from m (cond (b && has) (started now run (record timer { status = Idle due })) (record timer { status = Idle due })).status
    ≡ (eqb due m && nat_lt now m)
idle_after now m due run timer true true e left = grind (arith, nat_tests)
idle_after now m due run timer true false e left = absurd (let both : true ≡ false = left in cc)
idle_after now m due run timer false has e left = grind (arith, nat_tests)

module _ (now next : ℕ) (tests : List Timer) (none : any_by_index (is_left_over now next tests) tests ≡ false) where
  abbrev after : List Timer
  after = map_by_index (ticked_test now next tests) tests

  left_none : (t : ℕ) (d : Timer) → t < length tests → is_left_over now next tests t (get_or tests t d) ≡ false
  left_none t d h =
      let e : 0 + t ≡ t = omega arith in
      let p = none_passes (λ p. is_left_over now next tests p.0 p.1) (enumerate_from 0 tests) none t (0, d) (omega (arith, length-enumerate_from 0 tests)) in
      let q = get_or-enumerate_from 0 tests t (0, d) h in
      sym (ap (λ k. is_left_over now next tests k (get_or tests t d)) e) ∙ sym (ap (λ p. is_left_over now next tests p.0 p.1) q) ∙ p

  -- The status of a test after the tick.
  status_after : (t m : ℕ) (timer : Timer) → is_left_over now next tests t timer ≡ false
      → is_due_from m (ticked_test now next tests t timer).status ≡ (is_due_from m timer.status && nat_lt now m)
  status_after t m timer left = of_status timer.status left
    where
      of_status : (status : Status) → is_left_over now next tests t (record timer { status = status }) ≡ false
          → is_due_from m (ticked_test now next tests t (record timer { status = status })).status ≡ (is_due_from m status && nat_lt now m)
      of_status Off left = refl
      of_status (Running run due) left = refl
      of_status (Idle due) left =
          idle_after now m due (run_number_at now next tests t) timer (nat_le due now) (has_number now next tests t) refl left

  get_after : (t : ℕ) (d : Timer) → t < length tests → slice_get after t ≡ Some (ticked_test now next tests t (get_or tests t d))
  get_after t d h =
      slice_get-get_or after t d (omega (arith, as_many_by_index (ticked_test now next tests) tests))
      ∙ ap Some (get_or-map_by_index (ticked_test now next tests) tests t d h)

  -- The tests that a tick leaves waiting.
  waits_after : (t m : ℕ) → waits_until m (slice_get after t) ≡ (waits_until m (slice_get tests t) && nat_lt now m)
  waits_after t m =
      ⊎_elim
      (λ h.
      let timer = get_or tests t (inactive 0) in
      ap (waits_until m) (get_after t (inactive 0) h)
      ∙ status_after t m timer (left_none t (inactive 0) h)
      ∙ ap (λ o. waits_until m o && nat_lt now m) (sym (slice_get-get_or tests t (inactive 0) h)))
      (λ past.
      ap (waits_until m) (slice_get_past after t (omega (arith, as_many_by_index (ticked_test now next tests) tests)))
      ∙ ap (λ o. waits_until m o && nat_lt now m) (sym (slice_get_past tests t past)))
      (cases_lt t (length tests))

  -- The entries after the front are those of the tests that wait still.
  module _ (entries : List (ℕ × TestId)) (are : AreIdle tests entries) where
    abbrev n : ℕ
    n = prefix_len (λ e. nat_le e.0 now) entries

    pub are_left : AreIdle after (drop (prefix_len (λ e. nat_le e.0 now) entries) entries)
    are_left = record {
      ascending = ascending-drop entries n are.ascending;
      each = λ e. (
        λ (k, h, q).
            let in' : n + k < length entries = omega (arith, length-drop n entries) in
            let at : get_or entries (n + k) e ≡ e = sym (get_or-drop n entries k e) ∙ q in
            let late : now < e.0 = subst (λ y. now < y.0) at (late_behind entries are.ascending now (n + k) e (omega arith) in') in
            let waits : is_idle tests e ≡ true = ap (is_idle tests) (sym at) ∙ entry_waits tests entries are (n + k) e in' in
            waits_after e.1.0 e.0 ∙ ap (λ b. b && nat_lt now e.0) waits ∙ grind (arith, nat_tests),
        λ h.
            let both : (is_idle tests e && nat_lt now e.0) ≡ true = sym (waits_after e.1.0 e.0) ∙ h in
            let waits : is_idle tests e ≡ true = first_of_both (is_idle tests e) (nat_lt now e.0) both in
            let late : now < e.0 = let l : nat_lt now e.0 ≡ true = second_of_both (is_idle tests e) (nat_lt now e.0) both in grind (arith, nat_tests) in
            let (k, in', at) = (are.each e).1 waits in
            let behind : n ≤ k =
            ⊎_elim
            (λ here. absurd (let d = due_in_front entries are.ascending now k e here in let q : (get_or entries k e).0 ≡ e.0 = ap (λ y. y.0) at in omega arith))
            (λ l. l)
            (cases_lt k n) in
            let back : n + (k - n) ≡ k = omega arith in
            (k - n, omega (arith, length-drop n entries), get_or-drop n entries (k - n) e ∙ ap (λ j. get_or entries j e) back ∙ at),
      );
    }

-- The tests of the entries at the front exist.
pub front_within : (tests : List Timer) (entries : List (ℕ × TestId)) (n limit : ℕ) → AreIdle tests entries → n ≤ length entries → length tests ≤ limit
    → All (λ e. e.1.0 < limit) (take n entries)
front_within tests entries n limit are le room k d h =
    let there : k < n = omega (arith, length-take-le n entries le) in
    let within = entry_within tests entries are k d (omega arith) in
    let e = ap (λ x. x.1.0) (get_or-take n entries k d there) in
    omega arith

-- The settled entries are those of the tests after a tick.
pub settled_entries : (now next : ℕ) (tests ticked : List Timer) (entries settled : List (ℕ × TestId)) (exhausted : Bool) → AreIdle tests entries
    → ticked ≡ map_by_index (ticked_test now next tests) tests
    → exhausted ≡ any_by_index (is_left_over now next tests) tests
    → (exhausted ≡ true → AreIdle ticked settled)
    → (exhausted ≡ false → settled ≡ drop (prefix_len (λ e. nat_le e.0 now) entries) entries)
    → AreIdle ticked settled
settled_entries now next tests ticked entries settled true are e f left started = left refl
settled_entries now next tests ticked entries settled false are e f left started =
    let P : List Timer → Type 0 = λ xs. AreIdle xs settled in
    let Q : List (ℕ × TestId) → Type 0 = λ es. AreIdle (map_by_index (ticked_test now next tests) tests) es in
    subst P (sym e) (subst Q (sym (started refl)) (are_left now next tests (sym f) entries are))
