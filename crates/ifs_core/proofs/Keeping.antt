-- The headline is kept by each step, by the opening, and so by each run.
use Rattle.std.proofs.Common.{◌≡◌, List, [], ◌∷◌, length, sym, ap, ◌∙◌, subst, arith}
use Rattle.ifs_base.specs.Facts.{Facts}
use Rattle.ifs_image.specs.declared.parts.ImageParts.{ImageParts}
use Rattle.ifs_image.specs.Limits.{Fits}
use Rattle.ifs_verify.specs.Accepted.{IsAccepted}
use Rattle.ifs_base.specs.Effects.{Effects, nothing_yet, followed}
use Rattle.ifs_machine.specs.Run.{HandlersEnd, RunsAreUnique, RunsFollow, RunsStayWithin}
use Rattle.ifs_core.specs.declared.step.Step.{Step}
use Rattle.ifs_core.specs.declared.step.Reply.{Reply}
use Rattle.ifs_core.specs.Event.{Handler, AlwaysInit, AlwaysBody, Init, Body, Behaviour, Position, entering}
use Rattle.ifs_core.specs.Machine.{IsBehaviour}
use Rattle.ifs_core.specs.Gateway.{IsStateOf, Known, IsKnownOf, opening_of, opened}
use Rattle.ifs_core.specs.Steps.{CoreState, Makes, turn}
use Rattle.ifs_core.specs.HeadlineParts.{IsWithinBudgets, EachRun, BothRuns, after_always, after_bodies, changed_by}
use Rattle.ifs_core.specs.Headline.{StepKeeps, OpeningKeeps, StepsKeep, RunKeeps, IsKept}
use Rattle.ifs_core.proofs.Exists.{exists}
use Rattle.ifs_core.proofs.Evaluating.{evaluation_runs, OpeningHolds, opening_holds}
use Rattle.ifs_core.proofs.Turning.{step_holds, changed_at, state_after}
use Rattle.ifs_core.proofs.Alike.{turn_alike, run_alike}

module _ (ends : HandlersEnd) (unique : RunsAreUnique) (follow : RunsFollow) (stay : RunsStayWithin) (image : ImageParts) (accepted : IsAccepted image) (fits : Fits image) where
  within : (handler : Handler) (facts : Facts) (before : Effects) → IsWithinBudgets image handler facts before
  within handler facts before = λ routine is. stay image facts routine before

  each_within : (b : Behaviour) (p : Position) → EachRun (IsWithinBudgets image) b p
  each_within b p = record {
    always = within AlwaysBody p.facts nothing_yet;
    body = within (Body p.current.0) p.facts (after_always b p);
    init = λ next e. within (Init next.0) (entering b next p).facts (after_bodies b p);
  }

  both_within : (b : Behaviour) (known : Known) → BothRuns (IsWithinBudgets image) b image known
  both_within b known =
      let facts = (opening_of b image known).position.facts in
      record {
        always = within AlwaysInit facts nothing_yet;
        init = within (Init image.initial.0) facts (followed nothing_yet (b.answer AlwaysInit facts));
      }

  module _ (b : Behaviour) (is_b : IsBehaviour image b) where
    pub step_keeps : (s : CoreState) → IsStateOf image s → (step : Step) → StepKeeps image s step (turn b image.budgets.commands step s)
    step_keeps s is step =
        let holds = (step_holds ends unique image accepted b is_b s is step).turn in
        record {
          behaviour = (b, is_b);
          no_trap = λ a is_a. evaluation_runs ends unique image accepted a is_a (changed_by step s.position) (changed_at ends unique image accepted b is_b s is step);
          instructions = holds.budgets.cost;
          stack_and_frames = λ a is_a. each_within a (changed_by step s.position);
          commands = holds.budgets.count;
          from_table = holds.budgets.known;
          state_of_list = holds.state.position.current;
          of_table = λ a is_a. turn_alike ends unique image accepted b a is_b is_a s is step;
          busy = holds.busy;
          not_busy = λ empty e. let room = holds.busy e in absurd (omega (arith, room, ap length empty, fits.budgets.commands));
          nothing = holds.nothing;
          told = holds.told;
          named = holds.named;
          next = holds.state;
        }

    pub opening_keeps : (known : Known) → IsKnownOf image known → OpeningKeeps image known (opened b image known)
    opening_keeps known links =
        let holds : (a : Behaviour) → IsBehaviour image a → OpeningHolds image known a = λ a is_a. opening_holds ends unique image accepted a is_a known links fits in
        let state = (holds b is_b).state in
        record {
          behaviour = (b, is_b);
          no_trap = λ a is_a. (holds a is_a).runs;
          instructions = λ a is_a. (holds a is_a).budgets.cost;
          stack_and_frames = λ a is_a. both_within a known;
          commands = (holds b is_b).budgets.count;
          from_table = (holds b is_b).budgets.known;
          state_of_list = state.position.current;
          of_table = λ a is_a. (run_alike ends unique image accepted b a is_b is_a known links fits []).state;
          state = state;
        }

    steps_keep : (steps : List Step) (s : CoreState) → IsStateOf image s → StepsKeep image b steps s
    steps_keep [] s is = tt
    steps_keep (step ∷ steps) s is = let one = step_keeps s is step in (one, steps_keep steps (turn b image.budgets.commands step s).next one.next)

    pub run_keeps : (known : Known) → IsKnownOf image known → (steps : List Step) → RunKeeps image known b steps
    run_keeps known links steps =
        let opening = opening_keeps known links in
        record {
          opening = opening;
          each = steps_keep steps (opened b image known) opening.state;
          state = state_after ends unique image accepted b is_b steps (opened b image known) opening.state;
        }

  pub is_kept : IsKept image
  is_kept = record {
    behaviour = exists ends follow image accepted;
    runs = λ b is. run_keeps b is;
    one = λ a b is_a is_b known links steps. run_alike ends unique image accepted a b is_a is_b known links fits steps;
    anywhere = λ b is s at step. step_keeps b is s at step;
  }

-- A turn from a state of an image's run keeps the headline.
pub answer_keeps : (image : ImageParts) (s next : CoreState) (step : Step) (reply : Reply) → IsKept image → IsStateOf image s
    → ((b : Behaviour) → IsBehaviour image b → Makes (turn b image.budgets.commands step s) reply next)
    → StepKeeps image s step (record { reply = reply; next = next })
answer_keeps image s next step reply kept is makes =
    let b = kept.behaviour.0 in
    let t = turn b image.budgets.commands step s in
    let made = makes b kept.behaviour.1 in
    let same : t ≡ record { reply = reply; next = next } =
    sym (ap (λ (r : Reply). record { reply = r; next = next }) made.replied ∙ ap (λ (n : CoreState). record { reply = t.reply; next = n }) made.came_to) in
    subst (StepKeeps image s step) same (kept.anywhere b kept.behaviour.1 s is step)

-- The opening keeps the headline.
pub opened_keeps : (image : ImageParts) (known : Known) (s : CoreState) → IsKept image → IsKnownOf image known
    → ((b : Behaviour) → IsBehaviour image b → s ≡ opened b image known) → OpeningKeeps image known s
opened_keeps image known s kept links is =
    let b = kept.behaviour.0 in
    subst (OpeningKeeps image known) (sym (is b kept.behaviour.1)) (kept.runs b kept.behaviour.1 known links []).opening
