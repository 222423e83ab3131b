-- Levels after any steps.
use Rattle.std.proofs.Common.{◌≡◌, ℕ, inl, inr, Bool, true, false, not, ◌&&◌, List, [], ◌∷◌, ◌++◌, Option, Some, None, option_to_list, refl, sym, ap, ◌∙◌, subst, append_assoc}
use Rattle.std.specs.Prelude.{slice_get, nat_lt, if◌then◌else◌, IsTrue, ℤ}
use Rattle.std.proofs.lemmas.Bool.{false≢true}
use Rattle.std.proofs.lemmas.List.{append-nil}
use Rattle.ifs_base.specs.Facts.{Facts, is_link}
use Rattle.ifs_base.specs.declared.ids.CommandId.{CommandId}
use Rattle.ifs_base.specs.declared.ids.IfaceId.{IfaceId}
use Rattle.ifs_base.specs.declared.ids.TestId.{TestId}
use Rattle.ifs_base.specs.declared.op.LinkState.{LinkState}
use Rattle.ifs_sched.specs.Schedule.{is_running}
use Rattle.ifs_core.specs.declared.step.Step.{Step}
use Rattle.ifs_core.specs.declared.step.Step.TheVariants.{Link, Finished, Tick, Take}
use Rattle.ifs_core.specs.declared.step.Reply.TheVariants.{Busy, Stale, Backwards}
use Rattle.ifs_core.specs.Event.{Behaviour, Position, evaluation}
use Rattle.ifs_core.specs.Gateway.{Known, opened}
use Rattle.ifs_core.specs.Steps.{CoreState, Turn, unchanged, same, done, ticked_after, no_event, lacks_room, with_link, with_value, with_run_over, has_value, changing, commands_told, command_taken}
use Rattle.ifs_core.specs.Steps.{at_position, link_turn, finished_turn, tick_turn, take_turn, turn, after_steps}
use Rattle.ifs_gen.specs.Trees.{Policy}
use Rattle.ifs_gen.specs.PlainSizes.{room_of}
use Rattle.ifs_gen.specs.PolicyImage.{image_of}
use Rattle.ifs_gen.specs.Events.{behaviour_of, policy_opened}
use Rattle.ifs_solver.specs.FactSets.{AreFactsOf, scope_of}
use Rattle.ifs_solver.specs.Situations.{Situation, situation_of, situation_after, IsKnownFor, evaluated}
use Rattle.ifs_solver.proofs.Situated.{rests_stay}
use Rattle.ifs_claims.specs.Claims.{queued_by_core, CoresAreInSituations}
use Rattle.ifs_claims.specs.Moves.{IsOneStep, StepsEvaluateOnce, seen, commands_of, state_after, queued_by}
use Rattle.ifs_claims.proofs.Standing.{by_last}
use Rattle.ifs_levels.specs.Metering.{Meter, changed, level_by}
use Rattle.ifs_levels.specs.Levels.{queued_from, taken_from, queued_after, run_after, RunsInOrder, level_after, LevelsClosed}
use Rattle.ifs_levels.specs.Levels.{MayBegin, at_first, again, HoldsFromOpenings, LevelsClosedFromOpenings, LevelsRestWithin}
use Rattle.ifs_levels.specs.Levels.{stays_by, StaysWithin, LevelsStayWithin, queued_after_core, LevelsCarryOver}

-- Levels of commands in a row.
level_joined : (meter : Meter) (level : ℤ) (xs ys : List CommandId) → level_by meter level (xs ++ ys) ≡ level_by meter (level_by meter level xs) ys
level_joined meter level [] ys = refl
level_joined meter level (x ∷ xs) ys = level_joined meter (changed (meter x) level) xs ys

-- One more step.
queued_more : (b : Behaviour) (room : ℕ) (steps : List Step) (step : Step) (s : CoreState)
    → queued_from b room (steps ++ step ∷ []) s ≡ queued_from b room steps s ++ commands_told (turn b room step (after_steps b room steps s)).reply
queued_more b room [] step s = append-nil (commands_told (turn b room step s).reply)
queued_more b room (first ∷ steps) step s =
    let told = commands_told (turn b room first s).reply in
    let next = (turn b room first s).next in
    ap (λ xs. told ++ xs) (queued_more b room steps step next) ∙ sym (append_assoc told (queued_from b room steps next) (commands_told (turn b room step (after_steps b room steps next)).reply))

pub queued_once_more : (policy : Policy) (known : Known) (steps : List Step) (step : Step) → queued_after policy known (steps ++ step ∷ []) ≡ queued_after policy known steps ++ queued_by policy known steps step
queued_once_more policy known steps step =
    let s = policy_opened policy known in
    ap (λ xs. s.queue ++ xs) (queued_more (behaviour_of policy) (room_of policy) steps step s)
    ∙ sym (append_assoc s.queue (queued_from (behaviour_of policy) (room_of policy) steps s) (queued_by policy known steps step))

level_more : (policy : Policy) (meter : Meter) (begun : ℤ) (known : Known) (steps : List Step) (step : Step)
    → level_after policy meter begun known (steps ++ step ∷ []) ≡ level_by meter (level_after policy meter begun known steps) (queued_by policy known steps step)
level_more policy meter begun known steps step =
    ap (level_by meter begun) (queued_once_more policy known steps step) ∙ level_joined meter begun (queued_after policy known steps) (queued_by policy known steps step)

-- What is kept by an evaluation is kept by all steps, from any level at the opening.
module _ (once : StepsEvaluateOnce) (policy : Policy) (meter : Meter) (P : Situation → ℤ → Type 0)
    (kept : (s : Situation) (level : ℤ) → P s level → (facts : Facts) → AreFactsOf (scope_of policy) facts → P (evaluated policy facts s.current) (level_by meter level (commands_of policy facts s.current))) where
  step_kept : (step : Step) (before after : Situation) (commands : List CommandId) (level level_then : ℤ) → IsOneStep policy step before after commands → level_then ≡ level_by meter level commands
      → P before level → P after level_then
  step_kept step before after commands level level_then (inl quiet) is h =
      subst (P after) (sym (is ∙ ap (level_by meter level) quiet.queued)) (subst (λ s. P s level) (sym quiet.situation) h)
  step_kept step before after commands level level_then (inr comes) is h =
      let facts = seen step before.facts in
      subst (P after) (sym (is ∙ ap (level_by meter level) comes.queued))
      (subst (λ s. P s (level_by meter level (commands_of policy facts before.current))) (sym comes.situation) (kept before level h facts comes.are))

  steps_kept : (begun : ℤ) (known : Known) → IsKnownFor policy known → P (situation_of (policy_opened policy known).position) (level_by meter begun (policy_opened policy known).queue)
      → (steps : List Step) → P (situation_after policy known steps) (level_after policy meter begun known steps)
  steps_kept begun known fits opening steps =
      by_last (λ done. P (situation_after policy known done) (level_after policy meter begun known done))
      (λ done step h.
      step_kept step (situation_after policy known done) (situation_after policy known (done ++ step ∷ [])) (queued_by policy known done step) (level_after policy meter begun known done)
      (level_after policy meter begun known (done ++ step ∷ [])) (once policy known fits done step) (level_more policy meter begun known done step) h)
      [] steps (subst (λ xs. P (situation_of (policy_opened policy known).position) (level_by meter begun xs)) (sym (append-nil (policy_opened policy known).queue)) opening)

  -- And from each opening, if openings are kept too.
  module _ (keeps : Bool) (first : ℤ) (opening : (known : Known) → IsKnownFor policy known → P (situation_of (policy_opened policy known).position) (level_by meter first (policy_opened policy known).queue))
      (reopening : keeps ≡ true → (s : Situation) (level : ℤ) → P s level → (known : Known) → IsKnownFor policy known
      → P (situation_of (policy_opened policy known).position) (level_by meter level (policy_opened policy known).queue)) where
    openings_kept : (begun : ℤ) → MayBegin policy meter keeps first begun → (known : Known) → IsKnownFor policy known
        → P (situation_of (policy_opened policy known).position) (level_by meter begun (policy_opened policy known).queue)
    openings_kept begun at_first known fits = opening known fits
    openings_kept begun (again keeps_is before may other other_fits steps) known fits =
        reopening keeps_is (situation_after policy other steps) (level_after policy meter before other steps) (steps_kept before other other_fits (openings_kept before may other other_fits) steps) known fits

    pub from_openings : HoldsFromOpenings policy meter keeps first P
    from_openings begun may known fits steps = steps_kept begun known fits (openings_kept begun may known fits) steps

pub levels_closed : StepsEvaluateOnce → LevelsClosed
levels_closed once policy meter begun set closed known fits steps = steps_kept once policy meter (λ s level. IsTrue (set s level)) closed.evaluation begun known fits (closed.opening known fits) steps

pub levels_closed_from_openings : StepsEvaluateOnce → LevelsClosedFromOpenings
levels_closed_from_openings once policy meter keeps first set closed =
    from_openings once policy meter (λ s level. IsTrue (set s level)) closed.closed.evaluation keeps first closed.closed.opening closed.again

-- At rest.
pub levels_rest_within : StepsEvaluateOnce → LevelsRestWithin
levels_rest_within once policy meter keeps first set state guard range closed each begun may known fits steps settled =
    each (situation_after policy known steps) (level_after policy meter begun known steps)
    (record { within = levels_closed_from_openings once policy meter keeps first set closed begun may known fits steps; settled = settled; stays = rests_stay policy known fits steps settled.owed })

-- What is run is what was queued, in order.
module _ (b : Behaviour) (room : ℕ) where
  abbrev Keeps : CoreState → Turn → Type 0
  Keeps s t = option_to_list (command_taken t.reply) ++ t.next.queue ≡ s.queue ++ commands_told t.reply

  either_keeps : (s : CoreState) (c : Bool) (x y : Turn) → Keeps s x → Keeps s y → Keeps s (if c then x else y)
  either_keeps s true x y h k = h
  either_keeps s false x y h k = k

  changing_keeps : (step : Step) (p : Position) (s : CoreState) → Keeps s (changing b room step p s)
  changing_keeps step p s = either_keeps s (lacks_room room s) (unchanged Busy s) (done step (evaluation b p) s) (sym (append-nil s.queue)) refl

  same_keeps : (step : Step) (p : Position) (s : CoreState) → Keeps s (same step (at_position p s))
  same_keeps step p s = refl

  link_keeps : (interface : IfaceId) (link : LinkState) (o : Option LinkState) (s : CoreState) → Keeps s (link_turn b room (record { interface = interface; link = link }) o s)
  link_keeps interface link None s = sym (append-nil s.queue)
  link_keeps interface link (Some before) s =
      let step = Link interface link in
      let p = with_link interface.0 link s.position in
      either_keeps s (is_link before link) (same step s) (changing b room step p s) refl (changing_keeps step p s)

  finished_keeps : (test : TestId) (run : ℕ) (value : Bool) (o : Option (Option Bool)) (s : CoreState) → Keeps s (finished_turn b room (record { test = test; run = run; value = value }) o s)
  finished_keeps test run value None s = sym (append-nil s.queue)
  finished_keeps test run value (Some before) s =
      let step = Finished test run value in
      let over = with_run_over test.0 run s.position in
      let changed = changing b room step (with_value test.0 value over) s in
      let unmoved = same step (at_position over s) in
      either_keeps s (not (is_running test.0 run s.position.schedule)) (unchanged Stale s) (if has_value value before then unmoved else changed) (sym (append-nil s.queue))
      (either_keeps s (has_value value before) unmoved changed refl (changing_keeps step (with_value test.0 value over) s))

  tick_keeps : (now : ℕ) (s : CoreState) → Keeps s (tick_turn b room now s)
  tick_keeps now s =
      let p = s.position in
      let evaluates = ticked_after now true (evaluation b p) s in
      let rests = ticked_after now false (no_event p) s in
      let owed = if lacks_room room s then unchanged Busy s else evaluates in
      either_keeps s (nat_lt now p.schedule.present) (unchanged Backwards s) (if p.owed then owed else rests) (sym (append-nil s.queue))
      (either_keeps s p.owed owed rests (either_keeps s (lacks_room room s) (unchanged Busy s) evaluates (sym (append-nil s.queue)) refl) refl)

  take_keeps : (queue : List CommandId) (s : CoreState) → s.queue ≡ queue → Keeps s (take_turn queue s)
  take_keeps [] s is = sym (append-nil s.queue)
  take_keeps (command ∷ commands) s is = ap (λ xs. command ∷ xs) (append-nil commands) ∙ sym is ∙ sym (append-nil s.queue)

  turn_keeps : (step : Step) (s : CoreState) → Keeps s (turn b room step s)
  turn_keeps (Link interface link) s = link_keeps interface link (slice_get s.position.facts.links interface.0) s
  turn_keeps (Finished test run value) s = finished_keeps test run value (slice_get s.position.facts.tests test.0) s
  turn_keeps (Tick now) s = tick_keeps now s
  turn_keeps Take s = take_keeps s.queue s refl

  all_keep : (steps : List Step) (s : CoreState) → taken_from b room steps s ++ (after_steps b room steps s).queue ≡ s.queue ++ queued_from b room steps s
  all_keep [] s = sym (append-nil s.queue)
  all_keep (step ∷ steps) s =
      let t = turn b room step s in
      let taken = option_to_list (command_taken t.reply) in
      let told = commands_told t.reply in
      append_assoc taken (taken_from b room steps t.next) (after_steps b room steps t.next).queue ∙ ap (λ xs. taken ++ xs) (all_keep steps t.next)
      ∙ sym (append_assoc taken t.next.queue (queued_from b room steps t.next)) ∙ ap (λ xs. xs ++ queued_from b room steps t.next) (turn_keeps step s)
      ∙ append_assoc s.queue told (queued_from b room steps t.next)

pub runs_in_order : RunsInOrder
runs_in_order policy known steps = all_keep (behaviour_of policy) (room_of policy) steps (policy_opened policy known)

-- A range on the way.
and_first : (a b : Bool) → (a && b) ≡ true → a ≡ true
and_first true b e = refl
and_first false b e = e

and_second : (a b : Bool) → (a && b) ≡ true → b ≡ true
and_second true b e = e
and_second false b e = absurd (false≢true e)

and_both : (a b : Bool) → a ≡ true → b ≡ true → (a && b) ≡ true
and_both true b e f = f
and_both false b e f = e

module _ (meter : Meter) (range : ℤ → Bool) where
  begins_within : (level : ℤ) (xs : List CommandId) → stays_by meter range level xs ≡ true → range level ≡ true
  begins_within level [] h = h
  begins_within level (x ∷ xs) h = and_first (range level) (stays_by meter range (changed (meter x) level) xs) h

  front_within : (level : ℤ) (xs ys : List CommandId) → stays_by meter range level (xs ++ ys) ≡ true → range (level_by meter level xs) ≡ true
  front_within level [] ys h = begins_within level ys h
  front_within level (x ∷ xs) ys h = front_within (changed (meter x) level) xs ys (and_second (range level) (stays_by meter range (changed (meter x) level) (xs ++ ys)) h)

  joined_within : (level : ℤ) (xs ys : List CommandId) → stays_by meter range level xs ≡ true → stays_by meter range (level_by meter level xs) ys ≡ true → stays_by meter range level (xs ++ ys) ≡ true
  joined_within level [] ys h k = k
  joined_within level (x ∷ xs) ys h k =
      let rest = stays_by meter range (changed (meter x) level) xs in
      and_both (range level) (stays_by meter range (changed (meter x) level) (xs ++ ys)) (and_first (range level) rest h) (joined_within (changed (meter x) level) xs ys (and_second (range level) rest h) k)

module _ (once : StepsEvaluateOnce) (policy : Policy) (meter : Meter) (keeps : Bool) (first : ℤ) (range : ℤ → Bool) (P : Situation → ℤ → Type 0) (holds : HoldsFromOpenings policy meter keeps first P)
    (opening : (known : Known) → IsKnownFor policy known → stays_by meter range first (policy_opened policy known).queue ≡ true)
    (reopening : keeps ≡ true → (s : Situation) (level : ℤ) → P s level → (known : Known) → IsKnownFor policy known → stays_by meter range level (policy_opened policy known).queue ≡ true)
    (evaluation : (s : Situation) (level : ℤ) → P s level → (facts : Facts) → AreFactsOf (scope_of policy) facts → stays_by meter range level (commands_of policy facts s.current) ≡ true) where
  opening_within : (begun : ℤ) → MayBegin policy meter keeps first begun → (known : Known) → IsKnownFor policy known → stays_by meter range begun (policy_opened policy known).queue ≡ true
  opening_within begun at_first known fits = opening known fits
  opening_within begun (again keeps_is before may other other_fits steps) known fits =
      reopening keeps_is (situation_after policy other steps) (level_after policy meter before other steps) (holds before may other other_fits steps) known fits

  told_by : (step : Step) (before after : Situation) (commands : List CommandId) (level : ℤ) → IsOneStep policy step before after commands → P before level → range level ≡ true
      → stays_by meter range level commands ≡ true
  told_by step before after commands level (inl quiet) h at = subst (λ xs. stays_by meter range level xs ≡ true) (sym quiet.queued) at
  told_by step before after commands level (inr comes) h at =
      subst (λ xs. stays_by meter range level xs ≡ true) (sym comes.queued) (evaluation before level h (seen step before.facts) comes.are)

  told_within : (begun : ℤ) → MayBegin policy meter keeps first begun → (known : Known) → IsKnownFor policy known → (steps : List Step) (step : Step) → stays_by meter range begun (queued_after policy known steps) ≡ true
      → stays_by meter range (level_after policy meter begun known steps) (queued_by policy known steps step) ≡ true
  told_within begun may known fits steps step h =
      told_by step (situation_after policy known steps) (situation_after policy known (steps ++ step ∷ [])) (queued_by policy known steps step) (level_after policy meter begun known steps)
      (once policy known fits steps step) (holds begun may known fits steps)
      (front_within meter range begun (queued_after policy known steps) [] (subst (λ xs. stays_by meter range begun xs ≡ true) (sym (append-nil (queued_after policy known steps))) h))

  queued_within : (begun : ℤ) → MayBegin policy meter keeps first begun → (known : Known) → IsKnownFor policy known → (steps : List Step) → stays_by meter range begun (queued_after policy known steps) ≡ true
  queued_within begun may known fits steps =
      by_last (λ done. stays_by meter range begun (queued_after policy known done) ≡ true)
      (λ done step h. subst (λ xs. stays_by meter range begun xs ≡ true) (sym (queued_once_more policy known done step))
      (joined_within meter range begun (queued_after policy known done) (queued_by policy known done step) h (told_within begun may known fits done step h)))
      [] steps (subst (λ xs. stays_by meter range begun xs ≡ true) (sym (append-nil (policy_opened policy known).queue)) (opening_within begun may known fits))

  pub run_within : StaysWithin policy meter keeps first range
  run_within begun may known fits steps =
      front_within meter range begun (run_after policy known steps) (state_after policy known steps).queue
      (subst (λ xs. stays_by meter range begun xs ≡ true) (sym (runs_in_order policy known steps)) (queued_within begun may known fits steps))

pub levels_stay_within : StepsEvaluateOnce → LevelsStayWithin
levels_stay_within once policy meter keeps first range set within =
    run_within once policy meter keeps first range (λ s level. IsTrue (set s level)) (levels_closed_from_openings once policy meter keeps first set within.closed) within.opening within.again within.evaluation

-- Cores of the image.
pub levels_carry_over : CoresAreInSituations → LevelsCarryOver
levels_carry_over cores policy fits code b is known known_is steps =
    let core = cores policy fits code b is known known_is in
    let s = opened b (image_of policy) known in
    by_last (λ done. queued_after_core policy b known done ≡ queued_after policy known done)
    (λ done step h.
    ap (λ xs. s.queue ++ xs) (queued_more b (room_of policy) done step s) ∙ sym (append_assoc s.queue (queued_from b (room_of policy) done s) (queued_by_core policy b known done step))
    ∙ ap (λ xs. xs ++ queued_by_core policy b known done step) h ∙ ap (λ xs. queued_after policy known done ++ xs) (core.queued done step) ∙ sym (queued_once_more policy known done step))
    [] steps (append-nil s.queue ∙ core.opening ∙ sym (append-nil (policy_opened policy known).queue))
