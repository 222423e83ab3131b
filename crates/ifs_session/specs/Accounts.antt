-- Accounts: the effect of a connection's requests and of ends of tests on a core and on a host.
use Rattle.std.specs.Prelude.{ℕ, ◌≡◌, ◌-◌, nat_lt, Bool, ◌||◌, if◌then◌else◌, List, [], ◌∷◌, ◌++◌, length, map, slice_get}
use Rattle.std.specs.Prelude.{codes, Option, Some, None, unwrap_or, option_map}
use Rattle.std.specs.Str.{bytes_eq}
use Rattle.ifs_base.specs.declared.ids.CommandId.{CommandId}
use Rattle.ifs_image.specs.declared.parts.ImageParts.{ImageParts}
use Rattle.ifs_sched.specs.declared.start.Start.{Start}
use Rattle.ifs_core.specs.declared.step.Step.{Step}
use Rattle.ifs_core.specs.declared.step.Step.TheVariants.{Link, Finished, Tick, Take}
use Rattle.ifs_core.specs.declared.step.Reply.{Reply}
use Rattle.ifs_core.specs.declared.step.Reply.TheVariants.{Ticked}
use Rattle.ifs_core.specs.Event.{Behaviour}
use Rattle.ifs_core.specs.Steps.{CoreState, turn, after_steps}
use Rattle.ifs_core.specs.Gateway.{interface_of}
use Rattle.ifs_session.specs.declared.request.RequestFault.TheVariants.{NoRequest, TooLong, NoInterface}
use Rattle.ifs_session.specs.Requests.{Asked, ALink, ATick, AQuestion, AStop, AReload, AFault, starts_with}
use Rattle.ifs_session.specs.Requests.{short_asked}
use Rattle.ifs_session.specs.Questions.{reply_to}
use Rattle.ifs_session.specs.Replies.{command_text, reply_line, fault_line, bye_line}
use Rattle.ifs_session.specs.Hosts.{Ending, Launch, HostLog, ran, launched, polled}

-- Whether a line asks for an action of the host: `result` or `take`.
abbrev pub asks_of_hosts : List ℕ → Bool
asks_of_hosts line = starts_with (codes "result ") line || bytes_eq line (codes "take")

-- What a client's line asks for, or its fault. It is as in a session, except that a client has no requests `take` and `result`.
abbrev pub client_asked : List ℕ → Asked
client_asked line =
    if nat_lt 256 (length line) then AFault TooLong else
    if asks_of_hosts line then AFault NoRequest else
    short_asked line

-- The step of a request, if it has one.
abbrev pub step_asked : ImageParts → Asked → Option Step
step_asked image (ALink name link) = option_map (λ interface. Link interface link) (interface_of image.interfaces name)
step_asked image (ATick moment) = Some (Tick moment)
step_asked image _ = None

-- The reply to a request without a step. `reload` has none.
abbrev pub told_line : ImageParts → Asked → CoreState → List ℕ
told_line image (AQuestion question) s = reply_to question image s
told_line image AStop s = bye_line
told_line image AReload s = []
told_line image (AFault fault) s = fault_line fault
told_line image (ALink name link) s = fault_line NoInterface
told_line image _ s = fault_line NoRequest

-- The test that starts, with the text of its command.
abbrev pub launch_of : ImageParts → Start → Launch
launch_of image start = record {
  test = start.test;
  run = start.run;
  text = unwrap_or (option_map (λ test. test.text) (slice_get image.tests start.test.0)) [];
}

-- The tests that a reply starts.
abbrev pub launches_told : ImageParts → Reply → List Launch
launches_told image (Ticked evaluated state queued cost starts exhausted) = map (launch_of image) starts.items
launches_told image _ = []

-- The account of a connection: the core's state, the steps made, the host's events, and the bytes written.
pub record Account : Type 0 where
  pub state : CoreState
  pub steps : List Step
  pub log : HostLog
  pub said : List ℕ

-- The account at the beginning.
abbrev pub begun : CoreState → Account
begun s = record { state = s; steps = []; log = []; said = [] }

-- A step is made, and the host starts its tests.
abbrev pub made : Behaviour → ImageParts → Step → Account → Account
made b image step a =
    let t = turn b image.budgets.commands step a.state in
    record { state = t.next; steps = a.steps ++ step ∷ []; log = a.log ++ launched (launches_told image t.reply); said = a.said }

-- The steps that take the commands of a queue, and their texts.
abbrev pub takes_of : List CommandId → List Step
takes_of queue = map (λ _. Take) queue

abbrev pub texts_of : ImageParts → List CommandId → List (List ℕ)
texts_of image queue = map (λ command. command_text image command.0) queue

-- The queue is emptied: each command is taken, and the host runs its text, in order.
abbrev pub emptied : Behaviour → ImageParts → Account → Account
emptied b image a = record {
  state = after_steps b image.budgets.commands (takes_of a.state.queue) a.state;
  steps = a.steps ++ takes_of a.state.queue;
  log = a.log ++ ran (texts_of image a.state.queue);
  said = a.said;
}

-- A poll of the host returned this.
abbrev pub heard : Option Ending → Account → Account
heard answer a = record { state = a.state; steps = a.steps; log = a.log ++ polled answer; said = a.said }

-- A poll returned the end of a test's run, its step is made, and the queue is emptied.
abbrev pub run_ended : Behaviour → ImageParts → Ending → Account → Account
run_ended b image e a = emptied b image (made b image (Finished e.0 e.1 e.2) (heard (Some e) a))

-- The same for several ends of runs, in order.
abbrev pub runs_ended : Behaviour → ImageParts → List Ending → Account → Account
runs_ended b image [] a = a
runs_ended b image (e ∷ es) a = runs_ended b image es (run_ended b image e a)

-- The last poll, if there is room for at least 130 steps: the host reports no further end.
abbrev pub heard_out : Account → Account
heard_out a = if nat_lt (512 - length a.steps) 130 then a else heard None a

-- After 382 of 512 steps there is room for 130, and the host is asked; after 383 it is not.
pub record AsksWithRoomFor130 : Type 0 where
  pub room : (a : Account) → length a.steps ≡ 382 → heard_out a ≡ heard None a
  pub no_room : (a : Account) → length a.steps ≡ 383 → heard_out a ≡ a

-- The step of a request, if it has one, is made, and the queue is emptied.
abbrev pub acted : Behaviour → ImageParts → Option Step → Account → Account
acted b image None a = a
acted b image (Some step) a = emptied b image (made b image step a)

-- The reply to a step, or this reply if there is no step.
abbrev pub replied : Behaviour → ImageParts → Option Step → List ℕ → CoreState → List ℕ
replied b image None told s = told
replied b image (Some step) told s = reply_line image (turn b image.budgets.commands step s).reply

-- A reply is written.
abbrev pub with_said : List ℕ → Account → Account
with_said more a = record { state = a.state; steps = a.steps; log = a.log; said = a.said ++ more }

-- One exchange of a connection: a request line, and the ends of tests that polls returned before it was done.
pub record Exchange : Type 0 where
  pub line : List ℕ
  pub endings : List Ending

-- The account after the polls of an exchange, and after its request.
abbrev pub listened : Behaviour → ImageParts → Exchange → Account → Account
listened b image exchange a = heard_out (runs_ended b image exchange.endings a)

abbrev pub attended : Behaviour → ImageParts → Exchange → Account → Account
attended b image exchange a = acted b image (step_asked image (client_asked exchange.line)) (listened b image exchange a)

-- The reply to a request, from the core's state before it.
abbrev pub answered : Behaviour → ImageParts → Asked → CoreState → List ℕ
answered b image asked s = replied b image (step_asked image asked) (told_line image asked s) s

abbrev pub exchange_reply : Behaviour → ImageParts → Exchange → Account → List ℕ
exchange_reply b image exchange a = answered b image (client_asked exchange.line) (listened b image exchange a).state

-- The account after an exchange and its reply.
abbrev pub served : Behaviour → ImageParts → Exchange → Account → Account
served b image exchange a = with_said (exchange_reply b image exchange a) (attended b image exchange a)

-- The account after exchanges, in order.
abbrev pub all_served : Behaviour → ImageParts → List Exchange → Account → Account
all_served b image [] a = a
all_served b image (exchange ∷ exchanges) a = all_served b image exchanges (served b image exchange a)

-- The account of a connection with these exchanges on a core of this state. The queue is emptied first.
abbrev pub account : Behaviour → ImageParts → List Exchange → CoreState → Account
account b image exchanges s = all_served b image exchanges (emptied b image (begun s))
