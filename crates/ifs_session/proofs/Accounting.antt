-- Accounts: each action changes them by its function.
use Rattle.std.proofs.Common.{◌≡◌, ℕ, ◌-◌, Bool, true, false, cond, nat_lt, ◌<◌, ◌≤◌, length, List, [], ◌∷◌, ◌++◌}
use Rattle.std.proofs.Common.{Option, Some, None, refl, sym, ap, ◌∙◌, subst, arith}
use Rattle.std.specs.Prelude.{if◌then◌else◌}
use Rattle.std.proofs.lemmas.Bool.Decides.{nat_tests}
use Rattle.ifs_image.specs.declared.parts.ImageParts.{ImageParts}
use Rattle.ifs_core.specs.declared.step.Step.{Step}
use Rattle.ifs_core.specs.declared.step.Step.TheVariants.{Finished}
use Rattle.ifs_core.specs.declared.step.Reply.{Reply}
use Rattle.ifs_core.specs.Event.{Behaviour}
use Rattle.ifs_core.specs.Steps.{CoreState, turn, after_steps}
use Rattle.ifs_session.specs.Hosts.{Ending, HostLog, Adds, ran, launched, polled}
use Rattle.ifs_session.specs.Accounts.{Account, Exchange, attended, listened, takes_of, texts_of, launches_told, made}
use Rattle.ifs_session.specs.Accounts.{emptied, acted, heard, heard_out, run_ended, runs_ended, served, all_served, AsksWithRoomFor130}
use Rattle.ifs_session.specs.inner.Connections.{Progress, HasComeTo, Carries, HasFollowed}
use Rattle.ifs_session.proofs.Logs.{adds_both}

-- A step was made, and the host started its tests.
pub makes : (b : Behaviour) (image : ImageParts) (step : Step) (origin : Option HostLog) (a : Account) (before : Progress) (state : CoreState) (reply : Reply) (told : Option HostLog)
    → HasComeTo origin a before → state ≡ (turn b image.budgets.commands step before.state).next → reply ≡ (turn b image.budgets.commands step before.state).reply
    → Adds (launched (launches_told image reply)) before.told told
    → HasComeTo origin (made b image step a) (record { state = state; steps = before.steps ++ step ∷ []; told = told })
makes b image step origin a before state reply told h next is starts = record {
  state_is = next ∙ ap (λ s. (turn b image.budgets.commands step s).next) h.state_is;
  steps_are = ap (λ steps. steps ++ step ∷ []) h.steps_are;
  told_is = adds_both a.log _ origin before.told told h.told_is
      (subst (λ r. Adds (launched (launches_told image r)) before.told told) (is ∙ ap (λ s. (turn b image.budgets.commands step s).reply) h.state_is) starts);
}

-- The host started the tests of a step, and then ran the texts of commands.
pub followed : (image image' : ImageParts) (reply : Reply) (texts : List (List ℕ)) (earlier between told : Option HostLog) → image' ≡ image
    → Adds (launched (launches_told image reply)) earlier between → Adds (ran texts) between told → HasFollowed image' reply told
followed image image' reply texts earlier between told same starts runs = record {
  earlier = earlier;
  texts = texts;
  given = subst (λ i. Adds (launched (launches_told i reply) ++ ran texts) earlier told) (sym same)
      (adds_both (launched (launches_told image reply)) (ran texts) earlier between told starts runs);
}

-- The queue was emptied.
pub empties : (b : Behaviour) (image : ImageParts) (origin : Option HostLog) (a : Account) (before after : Progress) → HasComeTo origin a before
    → after.state ≡ after_steps b image.budgets.commands (takes_of before.state.queue) before.state → after.steps ≡ before.steps ++ takes_of before.state.queue
    → Adds (ran (texts_of image before.state.queue)) before.told after.told → HasComeTo origin (emptied b image a) after
empties b image origin a before after h state steps texts = record {
  state_is = state ∙ ap (λ s. after_steps b image.budgets.commands (takes_of s.queue) s) h.state_is;
  steps_are = steps ∙ ap (λ l. l ++ takes_of before.state.queue) h.steps_are ∙ ap (λ s. a.steps ++ takes_of s.queue) h.state_is;
  told_is = adds_both a.log _ origin before.told after.told h.told_is (subst (λ s. Adds (ran (texts_of image s.queue)) before.told after.told) h.state_is texts);
}

-- The host was polled.
pub hears : (origin : Option HostLog) (a : Account) (before : Progress) (answer : Option Ending) (told : Option HostLog) → HasComeTo origin a before
    → Adds (polled answer) before.told told → HasComeTo origin (heard answer a) (record { state = before.state; steps = before.steps; told = told })
hears origin a before answer told h heard = record {
  state_is = h.state_is;
  steps_are = h.steps_are;
  told_is = adds_both a.log _ origin before.told told h.told_is heard;
}

-- One more end of a test.
pub runs_ended-push : (b : Behaviour) (image : ImageParts) (endings : List Ending) (e : Ending) (a : Account)
    → runs_ended b image (endings ++ e ∷ []) a ≡ run_ended b image e (runs_ended b image endings a)
runs_ended-push b image [] e a = refl
runs_ended-push b image (first ∷ endings) e a = runs_ended-push b image endings e (run_ended b image first a)

-- One more exchange.
pub all_served-push : (b : Behaviour) (image : ImageParts) (exchanges : List Exchange) (exchange : Exchange) (a : Account)
    → all_served b image (exchanges ++ exchange ∷ []) a ≡ served b image exchange (all_served b image exchanges a)
all_served-push b image [] exchange a = refl
all_served-push b image (first ∷ exchanges) exchange a = all_served-push b image exchanges exchange (served b image first a)

is_few : (steps : ℕ) → nat_lt (512 - steps) 130 ≡ true → 512 - steps < 130
is_few steps h = grind (arith, nat_tests)

is_many : (steps : ℕ) → nat_lt (512 - steps) 130 ≡ false → 130 ≤ 512 - steps
is_many steps h = grind (arith, nat_tests)

heard_by : (few : Bool) (origin : Option HostLog) (a : Account) (before : Progress) (told : Option HostLog) → nat_lt (512 - length before.steps) 130 ≡ few → HasComeTo origin a before
    → (512 - length before.steps < 130 → told ≡ before.told) → (130 ≤ 512 - length before.steps → Adds (polled None) before.told told)
    → HasComeTo origin (cond few a (heard None a)) (record { state = before.state; steps = before.steps; told = told })
heard_by true origin a before told is h unasked asked = record { state_is = h.state_is; steps_are = h.steps_are; told_is = subst (Adds a.log origin) (sym (unasked (is_few _ is))) h.told_is }
heard_by false origin a before told is h unasked asked = hears origin a before None told h (asked (is_many _ is))

-- The host was polled to the end, or there is too little room.
pub heard_no_more : (origin : Option HostLog) (a : Account) (before : Progress) (told : Option HostLog) → HasComeTo origin a before
    → (512 - length before.steps < 130 → told ≡ before.told) → (130 ≤ 512 - length before.steps → Adds (polled None) before.told told)
    → HasComeTo origin (heard_out a) (record { state = before.state; steps = before.steps; told = told })
heard_no_more origin a before told h unasked asked =
    heard_by (nat_lt (512 - length a.steps) 130) origin a before told (ap (λ steps. nat_lt (512 - length steps) 130) h.steps_are) h unasked asked

-- A poll returned one more end of a test, and its step was made.
pub hear_more : (b : Behaviour) (image image' : ImageParts) (endings : List Ending) (e : Ending) (start before after : Progress) (told : Option HostLog) → image' ≡ image
    → Carries (runs_ended b image endings) start before → Adds (polled (Some e)) before.told told
    → Carries (acted b image' (Some (Finished e.0 e.1 e.2))) (record { state = before.state; steps = before.steps; told = told }) after
    → Carries (runs_ended b image (endings ++ e ∷ [])) start after
hear_more b image image' endings e start before after told same so_far answer more origin a h =
    subst (λ account. HasComeTo origin account after) (sym (runs_ended-push b image endings e a))
    (subst (λ i. HasComeTo origin (run_ended b i e (runs_ended b image endings a)) after) same
    (more origin _ (hears origin (runs_ended b image endings a) before (Some e) told (so_far origin a h) answer)))

-- ---- what was written

ended_said : (b : Behaviour) (image : ImageParts) (endings : List Ending) (a : Account) → (runs_ended b image endings a).said ≡ a.said
ended_said b image [] a = refl
ended_said b image (e ∷ endings) a = ended_said b image endings (run_ended b image e a)

either_said : (c : Bool) (x y : Account) → x.said ≡ y.said → (cond c x y).said ≡ y.said
either_said true x y e = e
either_said false x y e = refl

acted_said : (b : Behaviour) (image : ImageParts) (wanted : Option Step) (a : Account) → (acted b image wanted a).said ≡ a.said
acted_said b image None a = refl
acted_said b image (Some step) a = refl

-- The steps of an exchange write nothing.
pub attended_said : (b : Behaviour) (image : ImageParts) (exchange : Exchange) (a : Account) → (attended b image exchange a).said ≡ a.said
attended_said b image exchange a =
    acted_said b image _ (listened b image exchange a)
    ∙ either_said _ (runs_ended b image exchange.endings a) (heard None (runs_ended b image exchange.endings a)) refl
    ∙ ended_said b image exchange.endings a

not_few : (w : Bool) (steps : ℕ) (answer : Option Ending) (e : Ending) → nat_lt (512 - steps) 130 ≡ w → (512 - steps < 130 → answer ≡ None) → answer ≡ Some e → 130 ≤ 512 - steps
not_few true steps answer e w few is = let none = few (is_few steps w) in cc
not_few false steps answer e w few is = is_many steps w

-- If a poll returned the end of a test, there is enough room.
pub room_asked : (steps : ℕ) (answer : Option Ending) (e : Ending) → (512 - steps < 130 → answer ≡ None) → answer ≡ Some e → 130 ≤ 512 - steps
room_asked steps answer e few is = not_few (nat_lt (512 - steps) 130) steps answer e refl few is

pub asks_with_room_for_130 : AsksWithRoomFor130
asks_with_room_for_130 = record {
  room = λ a e. ap (λ n. if nat_lt (512 - n) 130 then a else heard None a) e;
  no_room = λ a e. ap (λ n. if nat_lt (512 - n) 130 then a else heard None a) e;
}
