-- Tests that have a value, or are not off, are active in the current state.
use Rattle.std.proofs.Common.{◌≡◌, ℕ, zero, suc, ◌+◌, ◌⊎◌, inl, inr, ⊎_elim, Bool, true, false, not, ◌&&◌, ◌||◌, List, [], ◌∷◌, ◌++◌, map, Option, Some, None, eqb, refl, sym, ap, ◌∙◌, arith}
use Rattle.std.specs.Prelude.{slice_get, slice_set, nat_lt, option_map, if◌then◌else◌}
use Rattle.std.specs.List.{enumerate_from}
use Rattle.std.proofs.lemmas.Bool.{false≢true, true≢false}
use Rattle.std.proofs.lemmas.Option.{none-some, same_Some}
use Rattle.ifs_base.specs.Facts.{is_link}
use Rattle.ifs_base.specs.Effects.{later_wish}
use Rattle.ifs_base.specs.declared.ids.CommandId.{CommandId}
use Rattle.ifs_base.specs.declared.ids.IfaceId.{IfaceId}
use Rattle.ifs_base.specs.declared.ids.StateId.{StateId}
use Rattle.ifs_base.specs.declared.ids.TestId.{TestId}
use Rattle.ifs_base.specs.declared.op.LinkState.{LinkState}
use Rattle.ifs_sched.specs.declared.timer.Status.{Status}
use Rattle.ifs_sched.specs.declared.timer.Status.TheVariants.{Off, Idle, Running}
use Rattle.ifs_sched.specs.declared.timer.Timer.{Timer}
use Rattle.ifs_sched.specs.Timer.{entered_status, is_due_status, is_run, started, ended, ended_status}
use Rattle.ifs_sched.specs.Schedule.{Timetable, all_off, entered, entered_test, finished, has_number, has_test, is_running, run_number_at, runs_under, starts_at, ticked, ticked_test}
use Rattle.ifs_core.specs.declared.step.Step.{Step}
use Rattle.ifs_core.specs.declared.step.Step.TheVariants.{Link, Finished, Tick, Take}
use Rattle.ifs_core.specs.declared.step.Reply.TheVariants.{Busy, Stale, Backwards}
use Rattle.ifs_core.specs.Event.{AlwaysBody, Body, Behaviour, Position, change_of, entering, evaluation, kept_value, kept_values, opening_position, with_change}
use Rattle.ifs_core.specs.Steps.{CoreState, Turn, commands_told, unchanged, same, done, ticked_after, no_event, lacks_room, with_link, with_value, with_run_over, has_value, changing}
use Rattle.ifs_solver.specs.Situations.{situation_of}
use Rattle.ifs_claims.specs.Moves.{seen}
use Rattle.ifs_core.specs.Steps.{at_position, link_turn, finished_turn, tick_turn, take_turn, turn, after_steps}

-- A test that is not off.
abbrev pub is_on : Status → Bool
is_on Off = false
is_on (Idle due) = true
is_on (Running run due) = true

-- A test is in the always set, or in that of a state.
abbrev pub active : Behaviour → StateId → ℕ → Bool
active b state t = has_test b.always t || has_test (b.active state.0) t

-- Only active tests are on, and only they have a value.
pub record Keeps (b : Behaviour) (p : Position) : Type 0 where
  pub timers : (t : ℕ) (timer : Timer) → slice_get p.schedule.tests t ≡ Some timer → is_on timer.status ≡ true → active b p.current t ≡ true
  pub values : (t : ℕ) (value : Bool) → slice_get p.facts.tests t ≡ Some (Some value) → active b p.current t ≡ true

-- What is made of the items of a list by their indexes.
by_index : {X Y : Type 0} (f : ℕ → X → Y) (n : ℕ) (xs : List X) (k : ℕ) → slice_get (map (λ e. f e.0 e.1) (enumerate_from n xs)) k ≡ option_map (f (n + k)) (slice_get xs k)
by_index f n [] k = refl
by_index f n (x ∷ xs) zero = let e : n ≡ n + 0 = omega arith in ap (λ m. Some (f m x)) e
by_index f n (x ∷ xs) (suc k) = by_index f (n + 1) xs k ∙ (let e : n + 1 + k ≡ n + suc k = omega arith in ap (λ m. option_map (f m) (slice_get xs k)) e)

by_index_from_0 : {X Y : Type 0} (f : ℕ → X → Y) (xs : List X) (k : ℕ) → slice_get (map (λ e. f e.0 e.1) (enumerate_from 0 xs)) k ≡ option_map (f k) (slice_get xs k)
by_index_from_0 f xs k = by_index f 0 xs k ∙ (let e : 0 + k ≡ k = omega arith in ap (λ m. option_map (f m) (slice_get xs k)) e)

-- Of a changed timer, the one before.
before_of : {P : Type 0} (f : Timer → Timer) (o : Option Timer) (timer : Timer) → option_map f o ≡ Some timer → ((old : Timer) → o ≡ Some old → f old ≡ timer → P) → P
before_of f None timer e go = absurd (none-some timer e)
before_of f (Some old) timer e go = go old refl (same_Some (f old) timer e)

entered_on : (always own : Bool) (now : ℕ) (status : Status) → is_on (entered_status always own now status) ≡ true → (always || own) ≡ true
entered_on true own now status e = refl
entered_on false true now status e = refl
entered_on false false now status e = absurd (false≢true e)

entered_timers : (always own now : ℕ) (s : Timetable) (t : ℕ) (timer : Timer) → slice_get (entered always own now s).tests t ≡ Some timer → is_on timer.status ≡ true → (has_test always t || has_test own t) ≡ true
unfolding entered
entered_timers always own now s t timer e on =
    before_of (entered_test always own now t) (slice_get s.tests t) timer (sym (by_index_from_0 (entered_test always own now) s.tests t) ∙ e)
    (λ old is made. entered_on (has_test always t) (has_test own t) now old.status (ap (λ x. is_on x.status) made ∙ on))

ended_on : (run : ℕ) (status : Status) → is_on (ended_status run status) ≡ true → is_on status ≡ true
ended_on run Off e = e
ended_on run (Idle due) e = refl
ended_on run (Running number due) e = refl

finished_timer : (test run t : ℕ) (old : Timer) → is_on (if eqb t test then ended run old else old).status ≡ true → is_on old.status ≡ true
finished_timer test run t old e = by (eqb t test) e
  where
    by : (c : Bool) → is_on (if c then ended run old else old).status ≡ true → is_on old.status ≡ true
    by true h = ended_on run old.status h
    by false h = h

finished_timers : (test run : ℕ) (s : Timetable) (t : ℕ) (timer : Timer) → slice_get (finished test run s).tests t ≡ Some timer → is_on timer.status ≡ true → (old : Timer) × (slice_get s.tests t ≡ Some old) × (is_on old.status ≡ true)
unfolding finished
finished_timers test run s t timer e on =
    before_of (λ old. if eqb t test then ended run old else old) (slice_get s.tests t) timer (sym (by_index_from_0 (λ k old. if eqb k test then ended run old else old) s.tests t) ∙ e)
    (λ old is made. (old, is, finished_timer test run t old (ap (λ x. is_on x.status) made ∙ on)))

due_on : (now : ℕ) (status : Status) → is_due_status now status ≡ true → is_on status ≡ true
due_on now Off e = e
due_on now (Idle due) e = refl
due_on now (Running run due) e = refl

first_of : (a b : Bool) → (a && b) ≡ true → a ≡ true
first_of true b e = refl
first_of false b e = e

ticked_timer : (now next : ℕ) (tests : List Timer) (t : ℕ) (old : Timer) → is_on (ticked_test now next tests t old).status ≡ true → is_on old.status ≡ true
ticked_timer now next tests t old e = by (starts_at now next tests t old) refl e
  where
    by : (c : Bool) → starts_at now next tests t old ≡ c → is_on (if c then started now (run_number_at now next tests t) old else old).status ≡ true → is_on old.status ≡ true
    by true is h = due_on now old.status (first_of (is_due_status now old.status) (has_number now next tests t) is)
    by false is h = h

ticked_timers : (now : ℕ) (s : Timetable) (t : ℕ) (timer : Timer) → slice_get (ticked now s).tests t ≡ Some timer → is_on timer.status ≡ true → (old : Timer) × (slice_get s.tests t ≡ Some old) × (is_on old.status ≡ true)
unfolding ticked
ticked_timers now s t timer e on =
    before_of (ticked_test now s.next_run s.tests t) (slice_get s.tests t) timer (sym (by_index_from_0 (ticked_test now s.next_run s.tests) s.tests t) ∙ e)
    (λ old is made. (old, is, ticked_timer now s.next_run s.tests t old (ap (λ x. is_on x.status) made ∙ on)))

run_on : (run : ℕ) (status : Status) → is_run run status ≡ true → is_on status ≡ true
run_on run Off e = e
run_on run (Idle due) e = refl
run_on run (Running number due) e = refl

running_on : (test run : ℕ) (s : Timetable) → is_running test run s ≡ true → (old : Timer) × (slice_get s.tests test ≡ Some old) × (is_on old.status ≡ true)
unfolding is_running
running_on test run s e = by (slice_get s.tests test) refl e
  where
    by : (o : Option Timer) → slice_get s.tests test ≡ o → runs_under run o ≡ true → (old : Timer) × (slice_get s.tests test ≡ Some old) × (is_on old.status ≡ true)
    by None is h = absurd (false≢true h)
    by (Some old) is h = (old, is, run_on run old.status h)

-- Values after an entry, and with another one.
kept_active : (c : Bool) (o : Option Bool) (value : Bool) → (if c then o else None) ≡ Some value → c ≡ true
kept_active true o value e = refl
kept_active false o value e = absurd (none-some value e)

kept_has : (always t : ℕ) (o : Option (Option Bool)) (value : Bool) → option_map (kept_value always t) o ≡ Some (Some value) → has_test always t ≡ true
kept_has always t None value e = absurd (none-some (Some value) e)
kept_has always t (Some o) value e = kept_active (has_test always t) o value (same_Some (kept_value always t o) (Some value) e)

pub kept_values_active : (always : ℕ) (values : List (Option Bool)) (t : ℕ) (value : Bool) → slice_get (kept_values always values) t ≡ Some (Some value) → has_test always t ≡ true
kept_values_active always values t value e = kept_has always t (slice_get values t) value (sym (by_index_from_0 (kept_value always) values t) ∙ e)

set_value_at : (xs : List (Option Bool)) (i k : ℕ) (new : Option Bool) (value : Bool) → slice_get (slice_set xs i new) k ≡ Some (Some value) → (i ≡ k) ⊎ (slice_get xs k ≡ Some (Some value))
set_value_at [] i k new value e = inr e
set_value_at (x ∷ xs) zero zero new value e = inl refl
set_value_at (x ∷ xs) zero (suc k) new value e = inr e
set_value_at (x ∷ xs) (suc i) zero new value e = inr e
set_value_at (x ∷ xs) (suc i) (suc k) new value e = ⊎_elim (λ s. inl (ap suc s)) (λ h. inr h) (set_value_at xs i k new value e)

or_left : (a b : Bool) → a ≡ true → (a || b) ≡ true
or_left true b e = refl
or_left false b e = absurd (false≢true e)

not_false : (c : Bool) → not c ≡ false → c ≡ true
not_false true e = refl
not_false false e = absurd (true≢false e)

no_value_in : (periods : List ℕ) (t : ℕ) (value : Bool) → slice_get (map {A = ℕ} {B = Option Bool} (λ _. None) periods) t ≡ Some (Some value) → ⊥
no_value_in [] t value e = none-some (Some value) e
no_value_in (x ∷ xs) zero value e = none-some value (same_Some None (Some value) e)
no_value_in (x ∷ xs) (suc t) value e = no_value_in xs t value e

module _ (b : Behaviour) where
  pub opening_keeps : (links : List LinkState) (periods : List ℕ) (run : ℕ) (initial : StateId) → Keeps b (opening_position b links periods run initial)
  opening_keeps links periods run initial = record {
    timers = λ t timer e on. entered_timers b.always (b.active initial.0) 0 (all_off periods run) t timer e on;
    values = λ t value e. absurd (no_value_in periods t value e);
  }

  entering_keeps : (next : StateId) (p : Position) → Keeps b (entering b next p)
  entering_keeps next p = record {
    timers = λ t timer e on. entered_timers b.always (b.active next.0) p.schedule.present p.schedule t timer e on;
    values = λ t value e. or_left (has_test b.always t) (has_test (b.active next.0) t) (kept_values_active b.always p.facts.tests t value e);
  }

  paid_keeps : (p : Position) → Keeps b p → Keeps b (record p { owed = false })
  paid_keeps p h = record { timers = h.timers; values = h.values }

  change_keeps : (p : Position) (o : Option StateId) (commands : List CommandId) (cost : ℕ) → Keeps b p → Keeps b (with_change b o (record { position = record p { owed = false }; commands = commands; cost = cost })).position
  change_keeps p None commands cost h = paid_keeps p h
  change_keeps p (Some next) commands cost h = entering_keeps next (record p { owed = false })

  evaluation_keeps : (p : Position) → Keeps b p → Keeps b (evaluation b p).position
  evaluation_keeps p h =
      let always = b.answer AlwaysBody p.facts in
      let own = b.answer (Body p.current.0) p.facts in
      change_keeps p (change_of p.current (later_wish always.wish own.wish)) (always.commands ++ own.commands) (b.cost AlwaysBody p.facts + b.cost (Body p.current.0) p.facts) h

  link_keeps : (interface : ℕ) (link : LinkState) (p : Position) → Keeps b p → Keeps b (with_link interface link p)
  link_keeps interface link p h = record { timers = h.timers; values = h.values }

  over_keeps : (test run : ℕ) (p : Position) → Keeps b p → Keeps b (with_run_over test run p)
  over_keeps test run p h = record {
    timers = λ t timer e on. let old = finished_timers test run p.schedule t timer e on in h.timers t old.0 old.1 old.2;
    values = h.values;
  }

  value_keeps : (test : ℕ) (value : Bool) (p : Position) → active b p.current test ≡ true → Keeps b p → Keeps b (with_value test value p)
  value_keeps test value p on h = record {
    timers = h.timers;
    values = λ t other e. ⊎_elim (λ is. ap (active b p.current) (sym is) ∙ on) (λ before. h.values t other before) (set_value_at p.facts.tests test t (Some value) other e);
  }

  ticked_keeps : (now : ℕ) (p : Position) → Keeps b p → Keeps b (record p { schedule = ticked now p.schedule })
  ticked_keeps now p h = record {
    timers = λ t timer e on. let old = ticked_timers now p.schedule t timer e on in h.timers t old.0 old.1 old.2;
    values = h.values;
  }

  abbrev After : Turn → Type 0
  After t = Keeps b t.next.position

  either : (c : Bool) (x y : Turn) → After x → After y → After (if c then x else y)
  either true x y h k = h
  either false x y h k = k

  either_as : (c : Bool) (x y : Turn) → (c ≡ true → After x) → (c ≡ false → After y) → After (if c then x else y)
  either_as true x y h k = h refl
  either_as false x y h k = k refl

  module _ (room : ℕ) (s : CoreState) (h : Keeps b s.position) where
    changing_keeps : (step : Step) (p : Position) → Keeps b p → After (changing b room step p s)
    changing_keeps step p k = either (lacks_room room s) (unchanged Busy s) (done step (evaluation b p) s) h (evaluation_keeps p k)

    link_turn_keeps : (interface : IfaceId) (link : LinkState) (o : Option LinkState) → After (link_turn b room (record { interface = interface; link = link }) o s)
    link_turn_keeps interface link None = h
    link_turn_keeps interface link (Some before) =
        let step = Link interface link in
        let p = with_link interface.0 link s.position in
        either (is_link before link) (same step s) (changing b room step p s) h (changing_keeps step p (link_keeps interface.0 link s.position h))

    by_running : (t number : ℕ) → is_running t number s.position.schedule ≡ true → active b s.position.current t ≡ true
    by_running t number e = let old = running_on t number s.position.schedule e in h.timers t old.0 old.1 old.2

    finished_turn_keeps : (test : TestId) (run : ℕ) (value : Bool) (o : Option (Option Bool)) → After (finished_turn b room (record { test = test; run = run; value = value }) o s)
    finished_turn_keeps test run value None = h
    finished_turn_keeps test run value (Some before) =
        let step = Finished test run value in
        let over = with_run_over test.0 run s.position in
        let p = with_value test.0 value over in
        let over_kept = over_keeps test.0 run s.position h in
        either_as (not (is_running test.0 run s.position.schedule)) (unchanged Stale s) (if has_value value before then same step (at_position over s) else changing b room step p s)
        (λ stale. h)
        (λ runs.
        either (has_value value before) (same step (at_position over s)) (changing b room step p s) over_kept
        (changing_keeps step p (value_keeps test.0 value over (by_running test.0 run (not_false (is_running test.0 run s.position.schedule) runs)) over_kept)))

    tick_turn_keeps : (now : ℕ) → After (tick_turn b room now s)
    tick_turn_keeps now =
        let p = s.position in
        let evaluates = ticked_after now true (evaluation b p) s in
        let rests = ticked_after now false (no_event p) s in
        let owed = if lacks_room room s then unchanged Busy s else evaluates in
        either (nat_lt now p.schedule.present) (unchanged Backwards s) (if p.owed then owed else rests) h
        (either p.owed owed rests
        (either (lacks_room room s) (unchanged Busy s) evaluates h (ticked_keeps now (evaluation b p).position (evaluation_keeps p h)))
        (ticked_keeps now p h))

    take_turn_keeps : (queue : List CommandId) → After (take_turn queue s)
    take_turn_keeps [] = h
    take_turn_keeps (command ∷ commands) = h

    turn_keeps : (step : Step) → After (turn b room step s)
    turn_keeps (Link interface link) = link_turn_keeps interface link (slice_get s.position.facts.links interface.0)
    turn_keeps (Finished test run value) = finished_turn_keeps test run value (slice_get s.position.facts.tests test.0)
    turn_keeps (Tick now) = tick_turn_keeps now
    turn_keeps Take = take_turn_keeps s.queue

  -- A turn evaluates nothing, or facts in which only active tests have a value.
  abbrev pub IsSeen : CoreState → Step → Turn → Type 0
  IsSeen s step t =
      ((situation_of t.next.position ≡ situation_of s.position) × (commands_told t.reply ≡ []))
      ⊎ ((k : ℕ) (value : Bool) → slice_get (seen step s.position.facts).tests k ≡ Some (Some value) → active b s.position.current k ≡ true)

  either_seen : (s : CoreState) (step : Step) (c : Bool) (x y : Turn) → IsSeen s step x → IsSeen s step y → IsSeen s step (if c then x else y)
  either_seen s step true x y h k = h
  either_seen s step false x y h k = k

  either_seen_as : (s : CoreState) (step : Step) (c : Bool) (x y : Turn) → IsSeen s step x → (c ≡ false → IsSeen s step y) → IsSeen s step (if c then x else y)
  either_seen_as s step true x y h k = h
  either_seen_as s step false x y h k = k refl

  module _ (room : ℕ) (s : CoreState) (h : Keeps b s.position) where
    link_seen : (interface : IfaceId) (link : LinkState) (o : Option LinkState) → IsSeen s (Link interface link) (link_turn b room (record { interface = interface; link = link }) o s)
    link_seen interface link None = inl (refl, refl)
    link_seen interface link (Some before) =
        let step = Link interface link in
        let p = with_link interface.0 link s.position in
        either_seen s step (is_link before link) (same step s) (changing b room step p s) (inl (refl, refl))
        (either_seen s step (lacks_room room s) (unchanged Busy s) (done step (evaluation b p) s) (inl (refl, refl)) (inr h.values))

    finished_seen : (test : TestId) (run : ℕ) (value : Bool) (o : Option (Option Bool)) → IsSeen s (Finished test run value) (finished_turn b room (record { test = test; run = run; value = value }) o s)
    finished_seen test run value None = inl (refl, refl)
    finished_seen test run value (Some before) =
        let step = Finished test run value in
        let over = with_run_over test.0 run s.position in
        let p = with_value test.0 value over in
        either_seen_as s step (not (is_running test.0 run s.position.schedule)) (unchanged Stale s) (if has_value value before then same step (at_position over s) else changing b room step p s) (inl (refl, refl))
        (λ runs.
        either_seen s step (has_value value before) (same step (at_position over s)) (changing b room step p s) (inl (refl, refl))
        (either_seen s step (lacks_room room s) (unchanged Busy s) (done step (evaluation b p) s) (inl (refl, refl))
        (inr (value_keeps test.0 value over (by_running room s h test.0 run (not_false (is_running test.0 run s.position.schedule) runs)) (over_keeps test.0 run s.position h)).values)))

    tick_seen : (now : ℕ) → IsSeen s (Tick now) (tick_turn b room now s)
    tick_seen now =
        let step = Tick now in
        let p = s.position in
        let evaluates = ticked_after now true (evaluation b p) s in
        let rests = ticked_after now false (no_event p) s in
        let owed = if lacks_room room s then unchanged Busy s else evaluates in
        either_seen s step (nat_lt now p.schedule.present) (unchanged Backwards s) (if p.owed then owed else rests) (inl (refl, refl))
        (either_seen s step p.owed owed rests (either_seen s step (lacks_room room s) (unchanged Busy s) evaluates (inl (refl, refl)) (inr h.values)) (inl (refl, refl)))

    take_seen : (queue : List CommandId) → IsSeen s Take (take_turn queue s)
    take_seen [] = inl (refl, refl)
    take_seen (command ∷ commands) = inl (refl, refl)

    pub turn_seen : (step : Step) → IsSeen s step (turn b room step s)
    turn_seen (Link interface link) = link_seen interface link (slice_get s.position.facts.links interface.0)
    turn_seen (Finished test run value) = finished_seen test run value (slice_get s.position.facts.tests test.0)
    turn_seen (Tick now) = tick_seen now
    turn_seen Take = take_seen s.queue

  pub steps_keep : (room : ℕ) (steps : List Step) (s : CoreState) → Keeps b s.position → Keeps b (after_steps b room steps s).position
  steps_keep room [] s h = h
  steps_keep room (step ∷ steps) s h = steps_keep room steps (turn b room step s).next (turn_keeps room s h step)
