-- The law of accounts: its steps lead from the state at its beginning to its own, and are those of its lines and of its log.
use Rattle.std.proofs.Common.{◌≡◌, ℕ, Bool, true, false, cond, List, [], ◌∷◌, ◌++◌, Option, slice_get, Some, None}
use Rattle.std.proofs.Common.{option_map, refl, sym, ap, subst, append_assoc, append-nil}
use Rattle.std.specs.List.{filter_map}
use Rattle.std.proofs.lemmas.List.Elements.{All-nil}
use Rattle.ifs_base.specs.declared.ids.IfaceId.{IfaceId}
use Rattle.ifs_base.specs.declared.op.LinkState.{LinkState}
use Rattle.ifs_image.specs.declared.parts.ImageParts.{ImageParts}
use Rattle.ifs_core.specs.declared.step.Step.{Step}
use Rattle.ifs_core.specs.declared.step.Step.TheVariants.{Link, Finished, Tick}
use Rattle.ifs_core.specs.Event.{Behaviour}
use Rattle.ifs_core.specs.Machine.{IsBehaviour}
use Rattle.ifs_core.specs.Gateway.{IsStateOf, interface_of}
use Rattle.ifs_core.specs.Headline.{IsKept}
use Rattle.ifs_core.specs.Steps.{CoreState, turn}
use Rattle.ifs_session.specs.Requests.{Asked, ALink, AResult, ATick, ATake, AQuestion, AStop, AReload}
use Rattle.ifs_session.specs.Requests.{AFault}
use Rattle.ifs_session.specs.Hosts.{Ending, HostLog, ran, launched, polled}
use Rattle.ifs_session.specs.Accounts.{Account, Exchange, client_asked, step_asked, takes_of, texts_of, launches_told}
use Rattle.ifs_session.specs.Accounts.{begun, emptied, heard, run_ended, runs_ended, acted, listened, served}
use Rattle.ifs_session.specs.Accounts.{all_served}
use Rattle.ifs_session.specs.Accounts.{account}
use Rattle.ifs_session.specs.Service.{ending_made, ending_heard, request_made, given_to_host, lines_in, ConnectionKeeps}
use Rattle.ifs_session.proofs.Growing.{Grows, TakesNone, line_step, grows_more, takes_grow, step_grows, link_takes}
use Rattle.ifs_session.proofs.Growing.{finished_takes, tick_takes}

-- The facts about a core's image.
pub record Kept (b : Behaviour) (image : ImageParts) : Type 0 where
  pub kept : IsKept image
  pub behaves : IsBehaviour image b

-- An account obeys the law, and its queue is empty.
pub record Lawful (b : Behaviour) (image : ImageParts) (lines : List (List ℕ)) (s : CoreState) (a : Account) : Type 0 where
  pub grows : Grows b image lines a.steps a.log s a.state
  pub empty : a.state.queue ≡ []

-- The queue was emptied first.
pub begun_lawful : (b : Behaviour) (image : ImageParts) (s : CoreState) → Kept b image → IsStateOf image s → Lawful b image [] s (emptied b image (begun s))
begun_lawful b image s k stands =
    let e = takes_grow b image s.queue s k.kept k.behaves stands refl in
    record { grows = e.grows; empty = e.empty }

no_more_lines : {b : Behaviour} {image : ImageParts} {lines : List (List ℕ)} {steps : List Step} {log : HostLog} {s s' : CoreState} → Grows b image (lines ++ []) steps log s s' → Grows b image lines steps log s s'
no_more_lines {b} {image} {lines} {steps} {log} {s} {s'} g = subst (λ ls. Grows b image ls steps log s s') (append-nil lines) g

same_log : {b : Behaviour} {image : ImageParts} {lines : List (List ℕ)} {steps : List Step} {log log' : HostLog} {s s' : CoreState} → log ≡ log' → Grows b image lines steps log s s' → Grows b image lines steps log' s s'
same_log {b} {image} {lines} {steps} {s = s} {s'} e g = subst (λ l. Grows b image lines steps l s s') e g

-- A step was made, and the commands after it were taken.
acts_lawful : (b : Behaviour) (image : ImageParts) (step : Step) (lines more : List (List ℕ)) (heard_before : HostLog) (s : CoreState) (a : Account)
    → Kept b image → Lawful b image lines s a → TakesNone image (turn b image.budgets.commands step a.state)
    → filter_map ending_made (step ∷ []) ≡ filter_map ending_heard heard_before → filter_map given_to_host heard_before ≡ [] → filter_map request_made (step ∷ []) ≡ filter_map (line_step image) more
    → Lawful b image (lines ++ more) s (emptied b image (record {
      state = (turn b image.budgets.commands step a.state).next;
      steps = a.steps ++ step ∷ [];
      log = a.log ++ (heard_before ++ launched (launches_told image (turn b image.budgets.commands step a.state).reply));
      said = a.said;
    }))
acts_lawful b image step lines more heard_before s a k l none endings quiet requests =
    let next = (turn b image.budgets.commands step a.state).next in
    let one = step_grows b image step more heard_before a.state k.kept k.behaves l.grows.stands l.empty none endings quiet requests in
    let made = grows_more b image lines more a.steps (step ∷ []) a.log _ s a.state next l.grows one in
    let takes = takes_grow b image next.queue next k.kept k.behaves one.stands refl in
    let all = grows_more b image (lines ++ more) [] _ (takes_of next.queue) _ _ s next _ made takes.grows in
    record {
      grows = no_more_lines all;
      empty = takes.empty;
    }

-- ---- the ends of tests

ended_lawful : (b : Behaviour) (image : ImageParts) (e : Ending) (lines : List (List ℕ)) (s : CoreState) (a : Account) → Kept b image → Lawful b image lines s a
    → Lawful b image lines s (run_ended b image e a)
ended_lawful b image e lines s a k l =
    let acts = acts_lawful b image (Finished e.0 e.1 e.2) lines [] (polled (Some e)) s a k l (finished_takes b image image.budgets.commands (record { test = e.0; run = e.1; value = e.2 }) (slice_get a.state.position.facts.tests e.0.0) a.state) refl refl refl in
    let same = append_assoc a.log (polled (Some e)) (launched (launches_told image (turn b image.budgets.commands (Finished e.0 e.1 e.2) a.state).reply)) in
    record {
      grows = same_log (ap (λ x. x ++ (ran (texts_of image (turn b image.budgets.commands (Finished e.0 e.1 e.2) a.state).next.queue))) (sym same)) (no_more_lines acts.grows);
      empty = acts.empty;
    }

all_ended_lawful : (b : Behaviour) (image : ImageParts) (endings : List Ending) (lines : List (List ℕ)) (s : CoreState) (a : Account) → Kept b image → Lawful b image lines s a
    → Lawful b image lines s (runs_ended b image endings a)
all_ended_lawful b image [] lines s a k l = l
all_ended_lawful b image (e ∷ endings) lines s a k l = all_ended_lawful b image endings lines s (run_ended b image e a) k (ended_lawful b image e lines s a k l)

heard_lawful : (b : Behaviour) (image : ImageParts) (lines : List (List ℕ)) (s : CoreState) (a : Account) → Lawful b image lines s a → Lawful b image lines s (heard None a)
heard_lawful b image lines s a l =
    let quiet : Grows b image [] [] (polled None) a.state a.state = record { stands = l.grows.stands; made = refl; never_busy = All-nil _; endings = refl; requests = refl; given_in = refl } in
    let more = grows_more b image lines [] a.steps [] a.log (polled None) s a.state a.state l.grows quiet in
    record {
      grows = subst (λ steps. Grows b image lines steps (a.log ++ polled None) s a.state) (append-nil a.steps)
          (subst (λ ls. Grows b image ls (a.steps ++ []) (a.log ++ polled None) s a.state) (append-nil lines) more);
      empty = l.empty;
    }

lawful_either : (b : Behaviour) (image : ImageParts) (lines : List (List ℕ)) (s : CoreState) (c : Bool) (x y : Account) → Lawful b image lines s x → Lawful b image lines s y → Lawful b image lines s (cond c x y)
lawful_either b image lines s true x y p q = p
lawful_either b image lines s false x y p q = q

listened_lawful : (b : Behaviour) (image : ImageParts) (exchange : Exchange) (lines : List (List ℕ)) (s : CoreState) (a : Account) → Kept b image → Lawful b image lines s a
    → Lawful b image lines s (listened b image exchange a)
listened_lawful b image exchange lines s a k l =
    let all = all_ended_lawful b image exchange.endings lines s a k l in
    lawful_either b image lines s _ _ _ all (heard_lawful b image lines s _ all)

-- ---- requests

-- The step of a request is no end of a test and takes no command.
record Requested (image : ImageParts) (step : Step) : Type 0 where
  pub request : request_made step ≡ Some step
  pub no_ending : ending_made step ≡ None
  pub no_take : (b : Behaviour) (s : CoreState) → TakesNone image (turn b image.budgets.commands step s)

linked : (image : ImageParts) (link : LinkState) (found : Option IfaceId) (step : Step) → option_map (λ interface. Link interface link) found ≡ Some step → Requested image step
linked image link None step e = cc
linked image link (Some interface) step e =
    let same : Link interface link ≡ step = cc in
    subst (Requested image) same (record { request = refl; no_ending = refl; no_take = λ b s. link_takes b image image.budgets.commands (record { interface = interface; link = link }) (slice_get s.position.facts.links interface.0) s })

requested : (image : ImageParts) (a : Asked) (step : Step) → step_asked image a ≡ Some step → Requested image step
requested image (ALink name link) step e = linked image link (interface_of image.interfaces name) step e
requested image (ATick moment) step e =
    let same : Tick moment ≡ step = cc in
    subst (Requested image) same (record { request = refl; no_ending = refl; no_take = λ b s. tick_takes b image image.budgets.commands moment s })
requested image (AResult test run value) step e = cc
requested image ATake step e = cc
requested image (AQuestion question) step e = cc
requested image AStop step e = cc
requested image AReload step e = cc
requested image (AFault fault) step e = cc

acted_lawful : (b : Behaviour) (image : ImageParts) (line : List ℕ) (wanted : Option Step) (lines : List (List ℕ)) (s : CoreState) (a : Account) → line_step image line ≡ wanted → Kept b image
    → Lawful b image lines s a → Lawful b image (lines ++ line ∷ []) s (acted b image wanted a)
acted_lawful b image line None lines s a e k l =
    let quiet : Grows b image (line ∷ []) [] [] a.state a.state =
    record { stands = l.grows.stands; made = refl; never_busy = All-nil _; endings = refl; requests = rw e refl; given_in = refl } in
    let more = grows_more b image lines (line ∷ []) a.steps [] a.log [] s a.state a.state l.grows quiet in
    record {
      grows = rw (append-nil a.steps, append-nil a.log) at more;
      empty = l.empty;
    }
acted_lawful b image line (Some step) lines s a e k l =
    let r = requested image (client_asked line) step e in
    acts_lawful b image step lines (line ∷ []) [] s a k l (r.no_take b a.state) (rw r.no_ending refl) refl (rw (r.request, e) refl)

served_lawful : (b : Behaviour) (image : ImageParts) (exchange : Exchange) (lines : List (List ℕ)) (s : CoreState) (a : Account) → Kept b image → Lawful b image lines s a
    → Lawful b image (lines ++ exchange.line ∷ []) s (served b image exchange a)
served_lawful b image exchange lines s a k l =
    let acts = acted_lawful b image exchange.line (line_step image exchange.line) lines s (listened b image exchange a) refl k (listened_lawful b image exchange lines s a k l) in
    record { grows = acts.grows; empty = acts.empty }

all_served_lawful : (b : Behaviour) (image : ImageParts) (exchanges : List Exchange) (lines : List (List ℕ)) (s : CoreState) (a : Account) → Kept b image → Lawful b image lines s a
    → Lawful b image (lines ++ lines_in exchanges) s (all_served b image exchanges a)
all_served_lawful b image [] lines s a k l = subst (λ ls. Lawful b image ls s a) (sym (append-nil lines)) l
all_served_lawful b image (exchange ∷ exchanges) lines s a k l =
    subst (λ ls. Lawful b image ls s (all_served b image exchanges (served b image exchange a))) (append_assoc lines (exchange.line ∷ []) (lines_in exchanges))
    (all_served_lawful b image exchanges (lines ++ exchange.line ∷ []) s (served b image exchange a) k (served_lawful b image exchange lines s a k l))

-- The account of a connection obeys the law.
pub account_keeps : (b : Behaviour) (image : ImageParts) (exchanges : List Exchange) (s : CoreState) → Kept b image → IsStateOf image s
    → ConnectionKeeps b image (lines_in exchanges) (account b image exchanges s).steps (account b image exchanges s).log s (account b image exchanges s).state
account_keeps b image exchanges s k stands =
    let l = all_served_lawful b image exchanges [] s _ k (begun_lawful b image s k stands) in
    record {
      made = l.grows.made;
      never_busy = l.grows.never_busy;
      endings = l.grows.endings;
      requests = l.grows.requests;
      given_in = l.grows.given_in;
      empty = l.empty;
    }
