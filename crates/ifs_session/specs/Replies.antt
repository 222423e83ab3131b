-- Replies: the bytes of each reply line.
use Rattle.std.specs.Prelude.{ℕ, Bool, true, false, if◌then◌else◌, List, [], ◌++◌, length, map, slice_get, codes}
use Rattle.std.specs.Prelude.{decimal, unwrap_or}
use Rattle.std.specs.Option.{option_map}
use Rattle.std.specs.List.{flat_map}
use Rattle.ifs_base.specs.declared.ids.CommandId.{CommandId}
use Rattle.ifs_image.specs.declared.parts.ImageParts.{ImageParts}
use Rattle.ifs_sched.specs.declared.start.Start.{Start}
use Rattle.ifs_sched.specs.Schedule.{running_count}
use Rattle.ifs_core.specs.declared.step.Step.{Step}
use Rattle.ifs_core.specs.declared.step.Step.TheVariants.{Link, Finished, Tick, Take}
use Rattle.ifs_core.specs.declared.step.Reply.{Reply}
use Rattle.ifs_core.specs.declared.step.Reply.TheVariants.{Done, Same, Ticked, Taken, Empty, Busy, Stale, Backwards}
use Rattle.ifs_core.specs.declared.step.Reply.TheVariants.{NoSuch}
use Rattle.ifs_core.specs.declared.step.Answer.{Answer}
use Rattle.ifs_core.specs.declared.step.Answer.TheVariants as answers
use Rattle.ifs_core.specs.declared.step.Record.{Record}
use Rattle.ifs_core.specs.Steps.{CoreState}
use Rattle.ifs_session.specs.declared.request.RequestFault.{RequestFault}
use Rattle.ifs_session.specs.declared.request.RequestFault.TheVariants.{NoRequest, TooLong, OutOfRange, NoInterface}
use Rattle.ifs_base.specs.Words.{quoted, listed, link_word}

-- The name of a state of an image, and the text of a command.
abbrev pub state_name : ImageParts → ℕ → List ℕ
state_name image state = unwrap_or (option_map (λ s. s.name) (slice_get image.states state)) []

abbrev pub command_text : ImageParts → ℕ → List ℕ
command_text image command = unwrap_or (slice_get image.commands command) []

-- The numbers of commands.
abbrev pub command_numbers : List CommandId → List (List ℕ)
command_numbers commands = map (λ command. decimal command.0) commands

-- A state, a cost and the queued commands of an evaluation.
abbrev pub evaluation_words : ImageParts → ℕ → ℕ → List CommandId → List ℕ
evaluation_words image state cost commands =
    quoted (state_name image state) ++ codes " cost " ++ decimal cost ++ codes " queue " ++ listed (command_numbers commands)

-- A test and the number of its run.
abbrev pub start_word : Start → List ℕ
start_word start = decimal start.test.0 ++ codes ":" ++ decimal start.run

-- The starts of a tick, and whether there was no run number left for a test that was due.
abbrev pub starts_words : List Start → Bool → List ℕ
starts_words starts exhausted =
    codes "starts " ++ listed (map start_word starts) ++ (if exhausted then codes " exhausted" else [])

-- Words and the end of their line.
abbrev pub ended_line : List ℕ → List ℕ
ended_line words = words ++ codes "\n"

-- The words before the starts of a tick: its evaluation, if it made one.
abbrev pub before_starts : Bool → List ℕ → List ℕ
before_starts true evaluation = evaluation ++ codes " "
before_starts false evaluation = []

-- The line of a tick, from whether it made an evaluation.
abbrev pub tick_line : Bool → List ℕ → List ℕ → List ℕ
tick_line evaluated evaluation starts = ended_line (codes "tick " ++ before_starts evaluated evaluation ++ starts)

-- The line of a taken command.
abbrev pub taken_line : ImageParts → ℕ → List ℕ
taken_line image command = ended_line (codes "taken " ++ decimal command ++ codes " " ++ quoted (command_text image command))

-- The reply line of a step.
abbrev pub reply_line : ImageParts → Reply → List ℕ
reply_line image (Done state queued cost) = ended_line (codes "done " ++ evaluation_words image state.0 cost queued.items)
reply_line image Same = codes "same\n"
reply_line image (Ticked evaluated state queued cost starts exhausted) =
    tick_line evaluated (evaluation_words image state.0 cost queued.items) (starts_words starts.items exhausted)
reply_line image (Taken command) = taken_line image command.0
reply_line image Empty = codes "empty\n"
reply_line image Busy = codes "busy\n"
reply_line image Stale = codes "stale\n"
reply_line image Backwards = codes "backwards\n"
reply_line image NoSuch = codes "nosuch\n"

-- The word of a truth.
abbrev pub yes_or_no : Bool → List ℕ
yes_or_no answer = if answer then codes "yes" else codes "no"

-- The numbers of the status line: the commands in the queue, the tests that run, and the present moment.
abbrev pub status_numbers : CoreState → List ℕ
status_numbers s = codes " queue " ++ decimal (length s.queue)
    ++ codes " running " ++ decimal (running_count s.position.schedule)
    ++ codes " now " ++ decimal s.position.schedule.present

-- The status line: its words, and with its end.
abbrev pub status_words : ImageParts → CoreState → List ℕ
status_words image s = codes "status " ++ quoted (state_name image s.position.current.0)
    ++ codes " owed " ++ yes_or_no s.position.owed ++ status_numbers s

abbrev pub status_line : ImageParts → CoreState → List ℕ
status_line image s = ended_line (status_words image s)

-- The reply to a `reload` that was done: the name of the state, and the number of queued commands.
abbrev pub reloaded_line : ImageParts → CoreState → List ℕ
reloaded_line image s = ended_line (codes "reloaded " ++ quoted (state_name image s.position.current.0) ++ codes " queue " ++ decimal (length s.queue))

-- The word of a test's value.
abbrev pub value_word : Bool → List ℕ
value_word value = if value then codes "ok" else codes "fail"

-- A step, with the index of its interface.
abbrev pub step_words : Step → List ℕ
step_words (Link interface link) = codes "link " ++ decimal interface.0 ++ codes " " ++ link_word link
step_words (Finished test run value) = codes "result " ++ decimal test.0 ++ codes " " ++ decimal run ++ codes " " ++ value_word value
step_words (Tick now) = codes "tick " ++ decimal now
step_words Take = codes "take"

-- The word of an answer.
abbrev pub answer_word : Answer → List ℕ
answer_word answers.Done = codes "done"
answer_word answers.Same = codes "same"
answer_word answers.Ticked = codes "ticked"
answer_word answers.Taken = codes "taken"

-- A record after its step: the word of its answer, the state afterwards, the cost, and the number of commands queued.
abbrev pub answer_words : ImageParts → Record → List ℕ
answer_words image r = answer_word r.answer ++ codes " " ++ quoted (state_name image r.state.0)
    ++ codes " cost " ++ decimal r.cost ++ codes " queue " ++ decimal r.queued

-- The line of a record of the trace: its words, and with its end.
abbrev pub record_words : ImageParts → Record → List ℕ
record_words image r = step_words r.step ++ codes " -> " ++ answer_words image r

abbrev pub record_line : ImageParts → Record → List ℕ
record_line image r = ended_line (record_words image r)

-- The lines of a trace: its number of records, and each record, the oldest first.
abbrev pub trace_lines : ImageParts → List Record → List ℕ
trace_lines image trace = ended_line (codes "trace " ++ decimal (length trace)) ++ flat_map (record_line image) trace

-- The code of a request's fault.
abbrev pub fault_code : RequestFault → List ℕ
fault_code NoRequest = codes "C1"
fault_code TooLong = codes "C2"
fault_code OutOfRange = codes "C3"
fault_code NoInterface = codes "C4"

-- The line of a fault.
abbrev pub fault_line : RequestFault → List ℕ
fault_line fault = ended_line (codes "fault " ++ fault_code fault)

-- The reply to `stop`.
abbrev pub bye_line : List ℕ
bye_line = codes "bye\n"
