-- The end of a run.
use Rattle.std.proofs.Common.{◌≡◌, ℕ, ◌+◌, ◌<◌, ◌≤◌, true, false, cond, eqb, refl, List}
use Rattle.std.proofs.Common.{length, get_or, set, slice_get, ap, sym, ◌∙◌, arith, ⊎_elim}
use Rattle.std.specs.List.{enumerate_from}
use Rattle.std.proofs.lemmas.Bool.{cases_eq, cases_lt}
use Rattle.std.proofs.lemmas.Bool.Decides.{nat_tests}
use Rattle.std.proofs.lemmas.List.{get_or-map, get_or-set_same, get_or-set_other, get_or_default, set-get_or}
use Rattle.std.proofs.lemmas.List.{length-set, same_lists, set_past, get_or_read}
use Rattle.std.proofs.lemmas.Option.{slice_get_read}
use Rattle.std.proofs.lemmas.List.FromFn.{get_or-enumerate_from, length-enumerate_from}
use Rattle.ifs_sched.specs.declared.timer.Timer.{Timer}
use Rattle.ifs_sched.specs.Schedule.{map_by_index, runs_under}
use Rattle.ifs_sched.specs.declared.timer.Status.{Status}
use Rattle.ifs_sched.specs.declared.timer.Status.TheVariants.{Idle, Running}
use Rattle.ifs_sched.specs.Timer.{ended, ended_status, inactive, is_run}
use Rattle.ifs_sched.proofs.ByIndex.{as_many_by_index}

-- The test at k of tests that are changed by index.
pub get_or-map_by_index : (f : ℕ → Timer → Timer) (xs : List Timer) (k : ℕ) (d : Timer) → k < length xs
    → get_or (map_by_index f xs) k d ≡ f k (get_or xs k d)
get_or-map_by_index f xs k d within =
    get_or-map (λ p. f p.0 p.1) (enumerate_from 0 xs) k (0, d) d (omega (arith, length-enumerate_from 0 xs))
    ∙ ap (λ p. f p.0 p.1) (get_or-enumerate_from 0 xs k (0, d) within)
    ∙ (let e : 0 + k ≡ k = omega arith in ap (λ n. f n (get_or xs k d)) e)

-- A change of the test at t alone.
abbrev pub at_only : ℕ → (Timer → Timer) → ℕ → Timer → Timer
at_only t g k x = cond (eqb k t) (g x) x

at_same : (t k : ℕ) (g : Timer → Timer) (x : Timer) → k ≡ t → at_only t g k x ≡ g x
at_same t k g x e = let b : eqb k t ≡ true = grind (arith, nat_tests) in ap (λ b. cond b (g x) x) b

at_other : (t k : ℕ) (g : Timer → Timer) (x : Timer) → (k ≡ t → ⊥) → at_only t g k x ≡ x
at_other t k g x ne = let b : eqb k t ≡ false = grind (arith, nat_tests) in ap (λ b. cond b (g x) x) b

-- A change of the test at t alone writes it.
pub map_by_index-at_only : (g : Timer → Timer) (xs : List Timer) (t : ℕ) (y : Timer) → ((d : Timer) → t < length xs → y ≡ g (get_or xs t d))
    → map_by_index (at_only t g) xs ≡ set xs t y
map_by_index-at_only g xs t y is =
    same_lists _ _ (as_many_by_index (at_only t g) xs ∙ sym (length-set xs t y))
    (λ k d h.
    let within : k < length xs = omega (arith, as_many_by_index (at_only t g) xs) in
    get_or-map_by_index (at_only t g) xs k d within
    ∙ ⊎_elim
    (λ e.
    let t_within : t < length xs = omega arith in
    at_same t k g (get_or xs k d) e
    ∙ ap (λ n. g (get_or xs n d)) e
    ∙ sym (is d t_within)
    ∙ sym (get_or-set_same xs t y d t_within)
    ∙ ap (λ n. get_or (set xs t y) n d) (sym e))
    (λ ne. at_other t k g (get_or xs k d) ne ∙ sym (get_or-set_other xs t k y d ne))
    (cases_eq k t))

pub runs_under-read : (xs : List Timer) (t run : ℕ) (x : Timer) → t < length xs → x ≡ get_or xs t x
    → runs_under run (slice_get xs t) ≡ is_run run x.status
runs_under-read xs t run x h e = ap (runs_under run) (slice_get_read xs (length xs) t x refl h e)

-- The end of a run of no test.
pub ended_past : (xs : List Timer) (t run : ℕ) → length xs ≤ t → map_by_index (at_only t (ended run)) xs ≡ xs
ended_past xs t run h =
    let blank = inactive 0 in
    map_by_index-at_only (ended run) xs t blank (λ d k. absurd (omega arith)) ∙ set_past xs t blank h

-- The end of a run of the test at t.
pub ended_read : (xs : List Timer) (t run : ℕ) (x : Timer) → t < length xs → x ≡ get_or xs t x
    → map_by_index (at_only t (ended run)) xs ≡ set xs t (ended run x)
ended_read xs t run x h e =
    map_by_index-at_only (ended run) xs t (ended run x) (λ d k. ap (ended run) (get_or_read xs t x h e d))

-- The end of a run leaves a test that does not run under its number.
ended_status_same : (run : ℕ) (status : Status) → is_run run status ≡ false → ended_status run status ≡ status
ended_status_same run (Running number due) h = ap (λ b. cond b (Idle due) (Running number due)) h
ended_status_same run status h = refl

-- The end of a run that does not exist leaves all tests.
pub finished_same : (xs : List Timer) (t run : ℕ) → runs_under run (slice_get xs t) ≡ false → map_by_index (at_only t (ended run)) xs ≡ xs
finished_same xs t run none =
    ⊎_elim
    (λ h.
    let x = get_or xs t (inactive 0) in
    let here : x ≡ get_or xs t x = get_or_default xs t (inactive 0) x h in
    let still = ended_status_same run x.status (sym (runs_under-read xs t run x h here) ∙ none) in
    ended_read xs t run x h here
    ∙ ap (λ s. set xs t (record x { status = s })) still
    ∙ set-get_or xs t (inactive 0))
    (λ past. ended_past xs t run past)
    (cases_lt t (length xs))
