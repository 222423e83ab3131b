-- The effect of lists of steps on a core and on a host's log.
use Rattle.std.proofs.Common.{◌≡◌, ◌≢◌, ℕ, Bool, true, false, not, nat_lt, if◌then◌else◌, cond, List, [], ◌∷◌, ◌++◌}
use Rattle.std.proofs.Common.{All, Option, Some, None, refl, sym, ap, ◌∙◌, subst, append-nil}
use Rattle.std.specs.List.{flat_map, filter_map}
use Rattle.std.proofs.lemmas.Grind.{flat_map-append}
use Rattle.std.proofs.lemmas.List.Elements.{All-nil, All-cons, All-append, filter_map-append}
use Rattle.ifs_base.specs.declared.ids.CommandId.{CommandId}
use Rattle.ifs_base.specs.declared.op.LinkState.{LinkState}
use Rattle.ifs_image.specs.declared.parts.ImageParts.{ImageParts}
use Rattle.ifs_core.specs.declared.step.Step.{Step}
use Rattle.ifs_core.specs.declared.step.Step.TheVariants.{Link, Finished, Take}
use Rattle.ifs_core.specs.declared.step.Reply.TheVariants.{Taken, Busy, Stale, Backwards}
use Rattle.ifs_core.specs.Event.{Behaviour}
use Rattle.ifs_core.specs.Machine.{IsBehaviour}
use Rattle.ifs_core.specs.Gateway.{IsStateOf}
use Rattle.ifs_core.specs.Headline.{IsKept}
use Rattle.ifs_base.specs.Facts.{is_link}
use Rattle.ifs_sched.specs.Schedule.{is_running}
use Rattle.ifs_core.specs.Event.{Position, evaluation}
use Rattle.ifs_core.specs.Steps.{CoreState, Turn, LinkSeen, RunEnded, turn, take_turn, link_turn, finished_turn}
use Rattle.ifs_core.specs.Steps.{tick_turn, changing, unchanged, same, done, ticked_after, no_event, at_position}
use Rattle.ifs_core.specs.Steps.{with_link, with_value, with_run_over, lacks_room, has_value, replies, after_steps}
use Rattle.ifs_session.specs.Hosts.{HostLog, ran, launched}
use Rattle.ifs_session.specs.Accounts.{client_asked, step_asked, takes_of, texts_of, launches_told}
use Rattle.ifs_session.specs.Service.{ending_made, ending_heard, request_made, text_taken, given_to_host, gives}
use Rattle.ifs_session.proofs.Logs.{launched_heard, launched_given}

-- ---- replies to steps

replies-append : (b : Behaviour) (room : ℕ) (steps more : List Step) (s : CoreState)
    → replies b room (steps ++ more) s ≡ replies b room steps s ++ replies b room more (after_steps b room steps s)
replies-append b room [] more s = refl
replies-append b room (step ∷ steps) more s = ap (λ rest. (turn b room step s).reply ∷ rest) (replies-append b room steps more (turn b room step s).next)

after_steps-append : (b : Behaviour) (room : ℕ) (steps more : List Step) (s : CoreState)
    → after_steps b room (steps ++ more) s ≡ after_steps b room more (after_steps b room steps s)
after_steps-append b room [] more s = refl
after_steps-append b room (step ∷ steps) more s = after_steps-append b room steps more (turn b room step s).next

-- ---- lists of steps that are joined

-- The step of a line.
abbrev pub line_step : ImageParts → List ℕ → Option Step
line_step image line = step_asked image (client_asked line)

-- Steps lead from one state to another, the reply to none of them is `Busy`, and they are those of these lines and of this log.
pub record Grows (b : Behaviour) (image : ImageParts) (lines : List (List ℕ)) (steps : List Step) (log : HostLog) (s s' : CoreState) : Type 0 where
  pub stands : IsStateOf image s'
  pub made : s' ≡ after_steps b image.budgets.commands steps s
  pub never_busy : All (λ reply. reply ≢ Busy) (replies b image.budgets.commands steps s)
  pub endings : filter_map ending_made steps ≡ filter_map ending_heard log
  pub requests : filter_map request_made steps ≡ filter_map (line_step image) lines
  pub given_in : filter_map given_to_host log ≡ flat_map (gives image) (replies b image.budgets.commands steps s)

append_both : {X : Type 0} {a b c d : List X} → a ≡ b → c ≡ d → a ++ c ≡ b ++ d
append_both {a = a} {d = d} e f = ap (λ x. a ++ x) f ∙ ap (λ x. x ++ d) e

filter_both : {X Y Z : Type 0} (f : X → Option Z) (g : Y → Option Z) (xs xs' : List X) (ys ys' : List Y)
    → filter_map f xs ≡ filter_map g ys → filter_map f xs' ≡ filter_map g ys' → filter_map f (xs ++ xs') ≡ filter_map g (ys ++ ys')
filter_both f g xs xs' ys ys' e e' = filter_map-append f xs xs' ∙ append_both e e' ∙ sym (filter_map-append g ys ys')

-- Two such lists of steps are joined.
pub grows_more : (b : Behaviour) (image : ImageParts) (lines lines' : List (List ℕ)) (steps steps' : List Step) (log log' : HostLog) (s mid s' : CoreState)
    → Grows b image lines steps log s mid → Grows b image lines' steps' log' mid s' → Grows b image (lines ++ lines') (steps ++ steps') (log ++ log') s s'
grows_more b image lines lines' steps steps' log log' s mid s' g h =
    let room = image.budgets.commands in
    let all : replies b room (steps ++ steps') s ≡ replies b room steps s ++ replies b room steps' mid =
    replies-append b room steps steps' s ∙ ap (λ m. replies b room steps s ++ replies b room steps' m) (sym g.made) in
    record {
      stands = h.stands;
      made = h.made ∙ ap (after_steps b room steps') g.made ∙ sym (after_steps-append b room steps steps' s);
      never_busy = subst (All (λ reply. reply ≢ Busy)) (sym all) (All-append (λ reply. reply ≢ Busy) _ _ g.never_busy h.never_busy);
      endings = filter_both ending_made ending_heard steps steps' log log' g.endings h.endings;
      requests = filter_both request_made (line_step image) steps steps' lines lines' g.requests h.requests;
      given_in = filter_map-append given_to_host log log' ∙ append_both g.given_in h.given_in ∙ sym (flat_map-append (gives image) (replies b room steps s) (replies b room steps' mid)) ∙ ap (flat_map (gives image)) (sym all);
    }

-- ---- takes

-- Taking all commands leaves the queue empty.
pub record Empties (b : Behaviour) (image : ImageParts) (queue : List CommandId) (s s' : CoreState) : Type 0 where
  pub grows : Grows b image [] (takes_of queue) (ran (texts_of image queue)) s s'
  pub empty : s'.queue ≡ []

pub takes_grow : (b : Behaviour) (image : ImageParts) (queue : List CommandId) (s : CoreState) → IsKept image → IsBehaviour image b → IsStateOf image s → s.queue ≡ queue
    → Empties b image queue s (after_steps b image.budgets.commands (takes_of queue) s)
takes_grow b image [] s kept is stands e = record {
  grows = record { stands = stands; made = refl; never_busy = All-nil _; endings = refl; requests = refl; given_in = refl };
  empty = e;
}
takes_grow b image (command ∷ queue) s kept is stands e =
    let room = image.budgets.commands in
    let t : turn b room Take s ≡ take_turn (command ∷ queue) s = ap (λ q. take_turn q s) e in
    let next_queue : (turn b room Take s).next.queue ≡ queue = ap (λ x. x.next.queue) t ∙ append-nil queue in
    let rest = takes_grow b image queue (turn b room Take s).next kept is (kept.anywhere b is s stands Take).next next_queue in
    let reply : (turn b room Take s).reply ≡ Taken command = ap (λ x. x.reply) t in
    record {
      grows = record {
        stands = rest.grows.stands;
        made = refl;
        never_busy = All-cons (λ reply. reply ≢ Busy) _ _ (λ busy. cc) rest.grows.never_busy;
        endings = rest.grows.endings;
        requests = rest.grows.requests;
        given_in = append_both (ap (gives image) (sym reply)) rest.grows.given_in;
      };
      empty = rest.empty;
    }

-- ---- a step other than a take

-- The reply of a turn takes no command.
pub record TakesNone (image : ImageParts) (t : Turn) : Type 0 where
  pub none : text_taken image t.reply ≡ []

either : (image : ImageParts) (c : Bool) (x y : Turn) → TakesNone image x → TakesNone image y → TakesNone image (cond c x y)
either image true x y p q = p
either image false x y p q = q

changing_takes : (b : Behaviour) (image : ImageParts) (room : ℕ) (step : Step) (p : Position) (s : CoreState) → TakesNone image (changing b room step p s)
changing_takes b image room step p s =
    either image (lacks_room room s) (unchanged Busy s) (done step (evaluation b p) s) (record { none = refl }) (record { none = refl })

pub link_takes : (b : Behaviour) (image : ImageParts) (room : ℕ) (seen : LinkSeen) (before : Option LinkState) (s : CoreState) → TakesNone image (link_turn b room seen before s)
link_takes b image room seen None s = record { none = refl }
link_takes b image room seen (Some before) s =
    let step = Link seen.interface seen.link in
    let p = with_link seen.interface.0 seen.link s.position in
    either image (is_link before seen.link) (same step s) (changing b room step p s) (record { none = refl }) (changing_takes b image room step p s)

pub finished_takes : (b : Behaviour) (image : ImageParts) (room : ℕ) (ended : RunEnded) (before : Option (Option Bool)) (s : CoreState) → TakesNone image (finished_turn b room ended before s)
finished_takes b image room ended None s = record { none = refl }
finished_takes b image room ended (Some before) s =
    let step = Finished ended.test ended.run ended.value in
    let over = with_run_over ended.test.0 ended.run s.position in
    let late = same step (at_position over s) in
    let p = with_value ended.test.0 ended.value over in
    let change = changing b room step p s in
    either image (not (is_running ended.test.0 ended.run s.position.schedule)) (unchanged Stale s) (if has_value ended.value before then late else change) (record { none = refl })
    (either image (has_value ended.value before) late change (record { none = refl }) (changing_takes b image room step p s))

pub tick_takes : (b : Behaviour) (image : ImageParts) (room now : ℕ) (s : CoreState) → TakesNone image (tick_turn b room now s)
tick_takes b image room now s =
    let p = s.position in
    let full = ticked_after now true (evaluation b p) s in
    let plain = ticked_after now false (no_event p) s in
    either image (nat_lt now p.schedule.present) (unchanged Backwards s) (if p.owed then (if lacks_room room s then unchanged Busy s else full) else plain) (record { none = refl })
    (either image p.owed (if lacks_room room s then unchanged Busy s else full) plain
    (either image (lacks_room room s) (unchanged Busy s) full (record { none = refl }) (record { none = refl })) (record { none = refl }))

-- One step other than a take is such a list, if the queue is empty. It comes after these polls.
pub step_grows : (b : Behaviour) (image : ImageParts) (step : Step) (lines : List (List ℕ)) (heard : HostLog) (s : CoreState)
    → IsKept image → IsBehaviour image b → IsStateOf image s → s.queue ≡ []
    → TakesNone image (turn b image.budgets.commands step s)
    → filter_map ending_made (step ∷ []) ≡ filter_map ending_heard heard → filter_map given_to_host heard ≡ [] → filter_map request_made (step ∷ []) ≡ filter_map (line_step image) lines
    → Grows b image lines (step ∷ []) (heard ++ launched (launches_told image (turn b image.budgets.commands step s).reply)) s (turn b image.budgets.commands step s).next
step_grows b image step lines heard s kept is stands empty none endings quiet requests =
    let keeps = kept.anywhere b is s stands step in
    let reply = (turn b image.budgets.commands step s).reply in
    let starts = launched (launches_told image reply) in
    record {
      stands = keeps.next;
      made = refl;
      never_busy = All-cons (λ reply. reply ≢ Busy) reply [] (keeps.not_busy empty) (All-nil (λ reply. reply ≢ Busy));
      endings = endings ∙ sym (append-nil (filter_map ending_heard heard)) ∙ ap (λ x. filter_map ending_heard heard ++ x) (sym (launched_heard (launches_told image reply)))
          ∙ sym (filter_map-append ending_heard heard starts);
      requests = requests;
      given_in = filter_map-append given_to_host heard starts ∙ append_both quiet (launched_given (launches_told image reply))
          ∙ sym (append-nil (gives image reply) ∙ ap (λ texts. starts ++ ran texts) none.none ∙ append-nil starts);
    }
