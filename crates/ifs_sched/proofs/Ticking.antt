-- A tick, test by test.
use Rattle.std.proofs.Common.{◌≡◌, ℕ, zero, suc, ◌+◌, ◌-◌, ◌*◌, ◌%◌, ◌<◌, ◌≤◌, ◌^◌, min, bit_and, w64, subst, ⊎_elim, Bool, true, false, not, cond, ◌&&◌}
use Rattle.std.proofs.Common.{◌||◌, List, [], ◌∷◌, ◌++◌, Option, Some, None, length, map}
use Rattle.std.proofs.Common.{get_or, take, set, refl, ap, sym, ◌∙◌, arith, append-nil}
use Rattle.std.specs.List.{cons_option, range_with_len}
use Rattle.std.specs.Option.{SomeIff}
use Rattle.std.specs.Int.{bit_not}
use Rattle.std.proofs.Math.ListN.{get_or-eq_default}
use Rattle.std.proofs.lemmas.Bool.{cases_eq, cases_lt, lt-ltb, le-ltb}
use Rattle.std.proofs.lemmas.List.{length_push, map_push, map-id, get_or_default, take_all}
use Rattle.std.proofs.lemmas.List.FromFn.{map-range_with_len_more}
use Rattle.std.proofs.lemmas.List.Sums.{count_by_more_no, count_by_more_yes}
use Rattle.ifs_sched.specs.declared.start.Start.{Start}
use Rattle.ifs_sched.specs.declared.timer.Timer.{Timer}
use Rattle.ifs_sched.specs.Timer.{inactive, is_due, started}
use Rattle.ifs_sched.specs.Schedule.{any_by_index, collect_by_index, has_number, has_test, is_left_over}
use Rattle.ifs_sched.specs.Schedule.{run_number_at, run_as_number, start_of, starts_at, ticked_test}
use Rattle.ifs_sched.specs.inner.Due.{IsDueSet, IsTicked}
use Rattle.ifs_sched.proofs.Masks.{IsFirstTest, has_test-empty, has_test-others, has_test-taken}
use Rattle.ifs_sched.proofs.ByIndex.{any_by_index-more, changed_below, changed_below-all, changed_below-more, changed_below-same}
use Rattle.ifs_sched.proofs.ByIndex.{changed_below-read, collect_by_index-more}

-- The first i tests have had their turn in a tick.
pub record IsTickedBelow (now next : ℕ) (old : List Timer) (i : ℕ) (tests : List Timer) (starts : List Start) (exhausted : Bool) (number : ℕ) : Type 0 where
  pub tests_so_far : tests ≡ changed_below (ticked_test now next old) i old
  pub starts_so_far : starts ≡ collect_by_index (start_of now next old) (take i old)
  pub number_so_far : number ≡ min (run_number_at now next old i) (2 ^ 64)
  pub exhausted_so_far : exhausted ≡ any_by_index (is_left_over now next old) (take i old)
  pub numbered_so_far : map (λ start. start.run) starts ≡ range_with_len next (length starts)
  pub in_sequence : number ≡ next + length starts
  pub starts_fit : length starts ≤ i

-- One more operand of `||`.
or_no : (b : Bool) → b ≡ (b || (false || false))
or_no true = refl
or_no false = refl

or_yes : (b : Bool) → true ≡ (b || (true || false))
or_yes true = refl
or_yes false = refl

-- One more number of a sequence.
range_with_len-more : (a n : ℕ) → range_with_len a (n + 1) ≡ range_with_len a n ++ (a + n) ∷ []
range_with_len-more a n =
    sym (map-id (range_with_len a (n + 1)))
    ∙ map-range_with_len_more (λ k. k) a n (a + n) refl
    ∙ ap (λ r. r ++ (a + n) ∷ []) (map-id (range_with_len a n))

-- The number after one that is left.
pub run_as_number-checked : (r : Option ℕ) (run : ℕ) → SomeIff r (run + 1 < 2 ^ 64) (run + 1) → run < 2 ^ 64
    → run_as_number r ≡ run + 1
run_as_number-checked None run h k = let n = h in omega arith
run_as_number-checked (Some x) run h k = h.1

-- One more run, with the next number.
numbered-push : (next : ℕ) (starts : List Start) (start : Start)
    → map (λ s. s.run) starts ≡ range_with_len next (length starts) → start.run ≡ next + length starts
    → map (λ s. s.run) (starts ++ start ∷ []) ≡ range_with_len next (length (starts ++ start ∷ []))
numbered-push next starts start so is =
    map_push (λ s. s.run) starts start
    ∙ ap (λ r. r ++ start.run ∷ []) so
    ∙ ap (λ k. range_with_len next (length starts) ++ k ∷ []) is
    ∙ sym (range_with_len-more next (length starts))
    ∙ ap (range_with_len next) (sym (length_push starts start))

-- One test: not due, due with a number left, due with none left.
module _ (now next : ℕ) (old : List Timer) (i : ℕ) (timer : Timer) where
  skipped_test : is_due now timer ≡ false → timer ≡ ticked_test now next old i timer
  skipped_test off =
      ap (λ b. cond (b && has_number now next old i) (started now (run_number_at now next old i) timer) timer) (sym off)

  skipped_start : is_due now timer ≡ false → start_of now next old i timer ≡ None
  skipped_start off =
      ap (λ b. cond (b && has_number now next old i) (Some (record { test = record { 0 = i }; run = run_number_at now next old i })) None) off

  skipped_left : is_due now timer ≡ false → is_left_over now next old i timer ≡ false
  skipped_left off = ap (λ b. b && not (has_number now next old i)) off

  starts_if : (b : Bool) → is_due now timer ≡ true → has_number now next old i ≡ b → starts_at now next old i timer ≡ b
  starts_if b on has = ap (λ d. d && has_number now next old i) on ∙ has

  left_if : (b : Bool) → is_due now timer ≡ true → has_number now next old i ≡ b → is_left_over now next old i timer ≡ not b
  left_if b on has = ap (λ d. d && not (has_number now next old i)) on ∙ ap not has

  test_if : (b : Bool) (run : ℕ) → starts_at now next old i timer ≡ b → run ≡ run_number_at now next old i
      → cond b (started now run timer) timer ≡ ticked_test now next old i timer
  test_if b run h is =
      ap (λ k. cond b (started now k timer) timer) is
      ∙ ap (λ d. cond d (started now (run_number_at now next old i) timer) timer) (sym h)

  start_if : (b : Bool) (run : ℕ) → starts_at now next old i timer ≡ b → run ≡ run_number_at now next old i
      → start_of now next old i timer ≡ cond b (Some (record { test = record { 0 = i }; run = run })) None
  start_if b run h is =
      ap (λ d. cond d (Some (record { test = record { 0 = i }; run = run_number_at now next old i })) None) h
      ∙ ap (λ k. cond b (Some (record { test = record { 0 = i }; run = k })) None) (sym is)

-- No test has had its turn.
pub IsTickedBelow-none : (now next : ℕ) (old : List Timer) → next ≤ 2 ^ 64 → IsTickedBelow now next old 0 old [] false next
IsTickedBelow-none now next old h = record {
  tests_so_far = refl;
  starts_so_far = refl;
  number_so_far = omega arith;
  exhausted_so_far = refl;
  numbered_so_far = refl;
  in_sequence = omega arith;
  starts_fit = omega arith;
}

module _ (now next : ℕ) (old : List Timer) (i : ℕ) (tests : List Timer) (starts : List Start) (exhausted : Bool) (number : ℕ) (d : Timer) (so : IsTickedBelow now next old i tests starts exhausted number) (within : i < length old) where
  same : get_or tests i d ≡ get_or old i d
  same = changed_below-read (ticked_test now next old) old tests i d so.tests_so_far within

  starts_more : (o : Option Start) → start_of now next old i (get_or old i d) ≡ o
      → starts ++ cons_option o [] ≡ collect_by_index (start_of now next old) (take (i + 1) old)
  starts_more o e =
      ap (λ s. s ++ cons_option o []) so.starts_so_far
      ∙ ap (λ p. collect_by_index (start_of now next old) (take i old) ++ cons_option p []) (sym e)
      ∙ sym (collect_by_index-more (start_of now next old) old i d within)

  exhausted_more : (b : Bool) → is_left_over now next old i (get_or old i d) ≡ b
      → (exhausted || (b || false)) ≡ any_by_index (is_left_over now next old) (take (i + 1) old)
  exhausted_more b e =
      ap (λ x. x || (b || false)) so.exhausted_so_far
      ∙ ap (λ x. any_by_index (is_left_over now next old) (take i old) || (x || false)) (sym e)
      ∙ sym (any_by_index-more (is_left_over now next old) old i d within)

  -- The test at i is not due.
  pub IsTickedBelow-skipped : is_due now (get_or tests i d) ≡ false
      → IsTickedBelow now next old (i + 1) tests starts exhausted number
  IsTickedBelow-skipped h =
      let off : is_due now (get_or old i d) ≡ false = ap (is_due now) (sym same) ∙ h in
      let count = count_by_more_no (is_due now) old i d within off in
      record {
        tests_so_far = changed_below-same (ticked_test now next old) old tests i d so.tests_so_far within (sym (skipped_test now next old i (get_or tests i d) h));
        starts_so_far = sym (append-nil starts) ∙ starts_more None (skipped_start now next old i (get_or old i d) off);
        number_so_far = so.number_so_far ∙ ap (λ c. min (next + c) (2 ^ 64)) (sym count);
        exhausted_so_far = or_no exhausted ∙ exhausted_more false (skipped_left now next old i (get_or old i d) off);
        numbered_so_far = so.numbered_so_far;
        in_sequence = so.in_sequence;
        starts_fit = let f = so.starts_fit in omega arith;
      }

  -- The test at i is due, and a number is left.
  pub IsTickedBelow-started : (run after : ℕ) → is_due now (get_or tests i d) ≡ true → number ≡ run → run < 2 ^ 64 → after ≡ run + 1
      → IsTickedBelow now next old (i + 1) (set tests i (started now run (get_or tests i d))) (starts ++ record { test = record { 0 = i }; run = run } ∷ []) exhausted after
  IsTickedBelow-started run after h is_run left e =
      let on : is_due now (get_or old i d) ≡ true = ap (is_due now) (sym same) ∙ h in
      let count = count_by_more_yes (is_due now) old i d within on in
      let is : run ≡ run_number_at now next old i = let k = so.number_so_far in omega arith in
      let some : has_number now next old i ≡ true = lt-ltb _ _ (omega arith) in
      let many = length_push starts (record { test = record { 0 = i }; run = run }) in
      let changed = test_if now next old i (get_or tests i d) true run (starts_if now next old i (get_or tests i d) true h some) is in
      let one = start_if now next old i (get_or old i d) true run (starts_if now next old i (get_or old i d) true on some) is in
      record {
        tests_so_far = changed_below-more (ticked_test now next old) old tests i d so.tests_so_far within _ changed;
        starts_so_far = starts_more (Some (record { test = record { 0 = i }; run = run })) one;
        number_so_far = omega arith;
        exhausted_so_far = or_no exhausted ∙ exhausted_more false (left_if now next old i (get_or old i d) true on some);
        numbered_so_far = numbered-push next starts _ so.numbered_so_far (sym is_run ∙ so.in_sequence);
        in_sequence = let q = so.in_sequence in omega arith;
        starts_fit = let f = so.starts_fit in omega arith;
      }

  -- The test at i is due, and no number is left.
  pub IsTickedBelow-left : is_due now (get_or tests i d) ≡ true → number ≡ 2 ^ 64
      → IsTickedBelow now next old (i + 1) tests starts true number
  IsTickedBelow-left h none_is =
      let on : is_due now (get_or old i d) ≡ true = ap (is_due now) (sym same) ∙ h in
      let count = count_by_more_yes (is_due now) old i d within on in
      let none : has_number now next old i ≡ false = le-ltb _ _ (let k = so.number_so_far in omega arith) in
      let stays = test_if now next old i (get_or tests i d) false _ (starts_if now next old i (get_or tests i d) false h none) refl in
      let nothing = start_if now next old i (get_or old i d) false _ (starts_if now next old i (get_or old i d) false on none) refl in
      record {
        tests_so_far = changed_below-same (ticked_test now next old) old tests i d so.tests_so_far within (sym stays);
        starts_so_far = sym (append-nil starts) ∙ starts_more None nothing;
        number_so_far = let k = so.number_so_far in omega arith;
        exhausted_so_far = or_yes exhausted ∙ exhausted_more true (left_if now next old i (get_or old i d) false on none);
        numbered_so_far = so.numbered_so_far;
        in_sequence = so.in_sequence;
        starts_fit = let f = so.starts_fit in omega arith;
      }

differ : false ≡ true → ⊥
differ e = cc

-- Whether a test is due. An index without a test counts as off.
abbrev pub due_at : ℕ → List Timer → ℕ → Bool
due_at now tests t = is_due now (get_or tests t (inactive 0))

-- The tests below a place have had their turn in a tick, and a mask has the due ones from there on.
pub record IsTickedSoFar (now next : ℕ) (old : List Timer) (left : ℕ) (tests : List Timer) (starts : List Start) (exhausted : Bool) (number : ℕ) : Type 0 where
  pub place : ℕ
  pub within : place ≤ length old
  pub ticked : IsTickedBelow now next old place tests starts exhausted number
  pub below : (t : ℕ) → t < place → has_test left t ≡ false
  pub behind : (t : ℕ) → place ≤ t → t < 64 → has_test left t ≡ due_at now old t

-- The tests up to a later place are not due.
skipped_further : (now next : ℕ) (old tests : List Timer) (starts : List Start) (exhausted : Bool) (number place n : ℕ)
    → IsTickedBelow now next old place tests starts exhausted number → place + n ≤ length old
    → ((t : ℕ) → place ≤ t → t < place + n → due_at now old t ≡ false)
    → IsTickedBelow now next old (place + n) tests starts exhausted number
skipped_further now next old tests starts exhausted number place zero so h off =
    let e : place ≡ place + 0 = omega arith in
    subst (λ i. IsTickedBelow now next old i tests starts exhausted number) e so
skipped_further now next old tests starts exhausted number place (suc n) so h off =
    let at = place + n in
    let d = inactive 0 in
    let before = skipped_further now next old tests starts exhausted number place n so (omega arith) (λ t k l. off t k (omega arith)) in
    let within : at < length old = omega arith in
    let same = changed_below-read (ticked_test now next old) old tests at d before.tests_so_far within in
    let not_due : is_due now (get_or tests at d) ≡ false = ap (is_due now) same ∙ off at (omega arith) (omega arith) in
    let one = IsTickedBelow-skipped now next old at tests starts exhausted number d before within not_due in
    let e : at + 1 ≡ place + suc n = omega arith in
    subst (λ i. IsTickedBelow now next old i tests starts exhausted number) e one

-- No test has had its turn, and the mask has all due tests.
pub ticked_so_far-none : (now next : ℕ) (old : List Timer) (due : ℕ) → next ≤ 2 ^ 64 → IsDueSet now old due → IsTickedSoFar now next old due old [] false next
ticked_so_far-none now next old due h set = record {
  place = 0;
  within = omega arith;
  ticked = IsTickedBelow-none now next old h;
  below = λ t k. absurd (omega arith);
  behind = λ t k l. set t l;
}

-- A due test exists.
pub due_is_there : (now : ℕ) (old : List Timer) (t : ℕ) → due_at now old t ≡ true → t < length old
due_is_there now old t h =
    ⊎_elim (λ k. k) (λ past. absurd (differ (sym (ap (is_due now) (get_or-eq_default old (inactive 0) past)) ∙ h))) (cases_lt t (length old))

module _ (now next : ℕ) (old : List Timer) (left : ℕ) (tests : List Timer) (starts : List Start) (exhausted : Bool) (number : ℕ) (so : IsTickedSoFar now next old left tests starts exhausted number) (room : length old ≤ 64) where
  module _ (index : ℕ) (first : IsFirstTest left index) where
    behind_place : so.place ≤ index
    behind_place = ⊎_elim (λ h. absurd (differ (sym (so.below index h) ∙ first.has))) (λ h. h) (cases_lt index so.place)

    pub due_there : due_at now old index ≡ true
    due_there = sym (so.behind index behind_place first.there) ∙ first.has

    pub index_within : index < length old
    index_within = due_is_there now old index due_there

    -- The tests before the first one of the mask are not due.
    pub ticked_to_index : IsTickedBelow now next old index tests starts exhausted number
    ticked_to_index =
        let behind = behind_place in
        let within = index_within in
        let e : so.place + (index - so.place) ≡ index = omega arith in
        subst (λ i. IsTickedBelow now next old i tests starts exhausted number) e
        (skipped_further now next old tests starts exhausted number so.place (index - so.place) so.ticked (omega arith)
        (λ t k l. sym (so.behind t k (omega (arith, first.there))) ∙ first.lower t (omega arith)))

    pub due_here : (d : Timer) → is_due now (get_or tests index d) ≡ true
    due_here d =
        let same = changed_below-read (ticked_test now next old) old tests index d ticked_to_index.tests_so_far index_within in
        ap (is_due now) (same ∙ get_or_default old index d (inactive 0) index_within) ∙ due_there

    -- The test has had its turn, and is out of the mask.
    pub one_more_turn : (tests' : List Timer) (starts' : List Start) (exhausted' : Bool) (number' : ℕ)
        → IsTickedBelow now next old (index + 1) tests' starts' exhausted' number'
        → IsTickedSoFar now next old (bit_and left (bit_not w64 (1 * 2 ^ index % 2 ^ 64))) tests' starts' exhausted' number'
    one_more_turn tests' starts' exhausted' number' ticked = record {
      place = index + 1;
      within = let k = index_within in omega arith;
      ticked = ticked;
      below = λ t h. ⊎_elim
          (λ e. ap (has_test (bit_and left (bit_not w64 (1 * 2 ^ index % 2 ^ 64)))) e ∙ has_test-taken left index first.there)
          (λ ne. has_test-others left index t first.there (omega (arith, first.there)) ne ∙ first.lower t (omega arith))
          (cases_eq t index);
      behind = λ t h in'. has_test-others left index t first.there in' (λ e. absurd (omega arith)) ∙ so.behind t (let b = behind_place in omega arith) in';
    }

  -- If the mask is empty, all tests have had their turn.
  pub ticked_all : left ≡ 0 → IsTickedBelow now next old (length old) tests starts exhausted number
  ticked_all none =
      let within = so.within in
      let e : so.place + (length old - so.place) ≡ length old = omega arith in
      subst (λ i. IsTickedBelow now next old i tests starts exhausted number) e
      (skipped_further now next old tests starts exhausted number so.place (length old - so.place) so.ticked (omega arith)
      (λ t k l. sym (so.behind t k (omega arith)) ∙ ap (λ m. has_test m t) none ∙ has_test-empty t))

-- All tests have had their turn.
pub is_ticked : (now next : ℕ) (old tests : List Timer) (starts : List Start) (exhausted : Bool) (number : ℕ)
    → IsTickedBelow now next old (length old) tests starts exhausted number → IsTicked now next old tests starts exhausted number
is_ticked now next old tests starts exhausted number all =
    let whole = take_all (length old) old (omega arith) in
    record {
      tests_are = all.tests_so_far ∙ changed_below-all (ticked_test now next old) old (length old) refl;
      starts_are = all.starts_so_far ∙ ap (collect_by_index (start_of now next old)) whole;
      exhausted_is = all.exhausted_so_far ∙ ap (any_by_index (is_left_over now next old)) whole;
      number_is = all.number_so_far;
      numbered = all.numbered_so_far;
      in_sequence = all.in_sequence;
    }
