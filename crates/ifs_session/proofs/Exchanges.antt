-- The loop over exchanges: what was read so far, and its effect.
use Rattle.std.proofs.Common.{◌≡◌, ◌≢◌, ℕ, ◌+◌, ◌-◌, ◌<◌, ◌≤◌, Bool, true, false, nat_lt, List, [], ◌∷◌, ◌++◌}
use Rattle.std.proofs.Common.{length, All, Option, Some, None, Ok, Err, inl, inr, subst, refl, sym, ap, ◌∙◌}
use Rattle.std.proofs.Common.{append_assoc, arith, length-append}
use Rattle.std.proofs.lemmas.Bool.Decides.{nat_tests}
use Rattle.std.proofs.lemmas.List.{map-append}
use Rattle.std.proofs.lemmas.List.Elements.{All-nil, All-cons, All-append}
use Rattle.std.specs.Io.KnownBytes.{append_known, Consumes, IsAtEnd}
use Rattle.ifs_image.specs.declared.parts.ImageParts.{ImageParts}
use Rattle.ifs_core.specs.declared.step.Step.{Step}
use Rattle.ifs_core.specs.Event.{Behaviour}
use Rattle.ifs_core.specs.Gateway.{IsStateOf}
use Rattle.ifs_core.specs.Machine.{IsBehaviour}
use Rattle.ifs_core.specs.Headline.{IsKept}
use Rattle.ifs_core.specs.Steps.{after_steps}
use Rattle.ifs_session.specs.declared.fault.SessionFault.{SessionFault}
use Rattle.ifs_session.specs.declared.fault.SessionFault.TheVariants.{ReadFailed, WriteFailed, TooMuchInput}
use Rattle.ifs_session.specs.declared.service.Break.{Break}
use Rattle.ifs_session.specs.declared.service.End.{End}
use Rattle.ifs_session.specs.declared.service.End.TheVariants.{Closed, Stop, Reload, Full, Fault}
use Rattle.ifs_session.specs.declared.service.Leave.{Leave}
use Rattle.ifs_session.specs.declared.service.Leave.TheVariants as leaves
use Rattle.ifs_session.specs.declared.service.ServedLine.{ServedLine}
use Rattle.ifs_session.specs.Device.{counted, HoldsNothing}
use Rattle.ifs_session.specs.Lines.{input_lines, line_end}
use Rattle.ifs_session.specs.Sessions.{Moment, EndsLines}
use Rattle.ifs_session.specs.Hosts.{HostLog, Adds, ran}
use Rattle.ifs_session.specs.Accounts.{Account, Exchange, takes_of, texts_of, client_asked, exchange_reply, attended}
use Rattle.ifs_session.specs.Accounts.{served}
use Rattle.ifs_session.specs.Accounts.{emptied, begun, account}
use Rattle.ifs_session.specs.Service.{lines_in, leave_of, AsksNeither, AskFor, left_by, ConnectionKeeps, HasAttended}
use Rattle.ifs_session.specs.Service.{HasAnswered, EndsAs}
use Rattle.ifs_session.specs.Service.{ConnectionCompletes}
use Rattle.ifs_session.specs.Service.{ConnectionBreaksReading, ConnectionBreaksWriting, ConnectionReadsPast}
use Rattle.ifs_session.specs.Service.{ConnectionGives}
use Rattle.ifs_session.specs.inner.Reading.{ReadFails, ReadsTooMuch}
use Rattle.ifs_session.specs.inner.Serving.{OnlyReads, OnlyWrites}
use Rattle.ifs_session.specs.inner.Connections.{HasComeTo, ConnectionPoint, progress_of, taken_in, Idles, ServesExchange}
use Rattle.ifs_session.specs.inner.Connections.{AnswersExchange, ExchangeFails, ExchangeGives, FlushGives, stops_by, end_by}
use Rattle.ifs_session.specs.inner.Connections.{end_of}
use Rattle.ifs_session.proofs.Known.{consumes_nothing, consumes_more, consumes_kept, append_known-append}
use Rattle.ifs_session.proofs.Known.{append_known-nil}
use Rattle.ifs_session.proofs.Serving.{unlines, ArePlain, unlines-push, ArePlain-push, unlines-ends_lines, last_line}
use Rattle.ifs_session.proofs.Serving.{line_ends, all_lines, input_lines-unlines, whole_lines-unlines}
use Rattle.ifs_session.proofs.Accounting.{empties, all_served-push, attended_said}
use Rattle.ifs_session.proofs.Logs.{adds_nothing}
use Rattle.ifs_session.proofs.Lawful.{Kept, account_keeps}

-- The account of these exchanges since a moment.
abbrev pub so_far : Behaviour → List Exchange → Moment → Account
so_far b exchanges before = account b before.core.image exchanges before.core.state

-- These exchanges were served since a moment, at which the host had this log, and none of them ended the connection.
pub record Ongoing (b : Behaviour) (exchanges : List Exchange) (origin : Option HostLog) (before : Moment) (now : ConnectionPoint) : Type 0 where
  pub plain : ArePlain (lines_in exchanges)
  pub on : All AsksNeither (lines_in exchanges)
  pub given : Consumes before.left now.moment.left (unlines (lines_in exchanges))
  pub spent : 16777216 ≡ length (unlines (lines_in exchanges)) + now.budget
  pub read_faults : now.moment.read_faults ≡ before.read_faults
  pub write_faults : now.moment.write_faults ≡ before.write_faults
  pub image : now.moment.core.image ≡ before.core.image
  pub stands : HasComeTo origin (so_far b exchanges before) (progress_of now)
  pub written : now.moment.written ≡ append_known before.written (so_far b exchanges before).said

-- The queue was emptied, and no line was read yet.
pub ongoing_start : (b : Behaviour) (origin : Option HostLog) (before : Moment) (now : ConnectionPoint) (steps : List Step)
    → now.moment.left ≡ before.left → now.moment.written ≡ before.written → now.moment.read_faults ≡ before.read_faults → now.moment.write_faults ≡ before.write_faults
    → now.moment.core.image ≡ before.core.image → now.budget ≡ 16777216
    → now.moment.core.state ≡ after_steps b before.core.image.budgets.commands (takes_of before.core.state.queue) before.core.state
    → now.steps ≡ steps ++ takes_of before.core.state.queue → steps ≡ [] → Adds (ran (texts_of before.core.image before.core.state.queue)) origin now.told
    → Ongoing b [] origin before now
ongoing_start b origin before now steps left written reads writes image budget state made none told = record {
  plain = tt;
  on = All-nil _;
  given = subst (λ l. Consumes before.left l []) (sym left) (consumes_nothing before.left);
  spent = omega (arith, budget);
  read_faults = reads;
  write_faults = writes;
  image = image;
  stands = empties b before.core.image origin (begun before.core.state) (record { state = before.core.state; steps = []; told = origin }) (progress_of now)
      (record { state_is = refl; steps_are = refl; told_is = adds_nothing origin }) state (made ∙ ap (λ l. l ++ takes_of before.core.state.queue) none) told;
  written = written ∙ sym (append_known-nil before.written);
}

-- ---- exchanges that were done

-- The facts about the core at the beginning.
pub record Sound (b : Behaviour) (before : Moment) : Type 0 where
  pub kept : Kept b before.core.image
  pub at : IsStateOf before.core.image before.core.state

pub sound : (b : Behaviour) (before : Moment) → IsKept before.core.image → IsBehaviour before.core.image b → IsStateOf before.core.image before.core.state → Sound b before
sound b before kept behaves at = record { kept = record { kept = kept; behaves = behaves }; at = at }

attends_so_far : (b : Behaviour) (exchanges : List Exchange) (origin : Option HostLog) (before : Moment) (now : ConnectionPoint) → Sound b before
    → now.moment.core.image ≡ before.core.image → HasComeTo origin (so_far b exchanges before) (progress_of now) → HasAttended b exchanges now.steps origin now.told before now.moment
attends_so_far b exchanges origin before now sound image stands = record {
  image = image;
  state = stands.state_is;
  steps_are = stands.steps_are;
  told_is = stands.told_is;
  keeps = subst (λ steps. ConnectionKeeps b before.core.image (lines_in exchanges) steps (so_far b exchanges before).log before.core.state now.moment.core.state) (sym stands.steps_are)
      (subst (λ s. ConnectionKeeps b before.core.image (lines_in exchanges) (so_far b exchanges before).steps (so_far b exchanges before).log before.core.state s) (sym stands.state_is)
      (account_keeps b before.core.image exchanges before.core.state sound.kept sound.at));
  each_empties = λ front rest are. (account_keeps b before.core.image front before.core.state sound.kept sound.at).empty;
}

idle_stands : (origin : Option HostLog) (a : Account) (now after : ConnectionPoint) → after.moment.core ≡ now.moment.core → Idles now after → HasComeTo origin a (progress_of now) → HasComeTo origin a (progress_of after)
idle_stands origin a now after core idle stands = record {
  state_is = ap (λ c. c.state) core ∙ stands.state_is;
  steps_are = idle.steps ∙ stands.steps_are;
  told_is = subst (Adds a.log origin) (sym idle.told) stands.told_is;
}

-- Exchanges were served, and nothing was done since.
served_before : {b : Behaviour} {exchanges : List Exchange} {origin : Option HostLog} {before : Moment} {now : ConnectionPoint} (after : ConnectionPoint) → Sound b before → Ongoing b exchanges origin before now
    → OnlyReads now.moment after.moment → Idles now after → HasAttended b exchanges after.steps origin after.told before after.moment × HasAnswered b exchanges before after.moment
served_before {b} {exchanges} {origin} {before} {now} after sound u o idle = (
  attends_so_far b exchanges origin before after sound (ap (λ c. c.image) o.core ∙ u.image) (idle_stands origin _ now after o.core idle u.stands),
  record { written = o.written ∙ u.written; same_faults = o.same_faults ∙ u.write_faults },
)

-- ---- the next line was not served

reading_fails : {b : Behaviour} {exchanges : List Exchange} {origin : Option HostLog} {before : Moment} {now : ConnectionPoint} (text : List ℕ) (after : ConnectionPoint) → Sound b before → Ongoing b exchanges origin before now
    → ReadFails text (taken_in now) (taken_in after) → OnlyReads now.moment after.moment → Idles now after
    → ConnectionBreaksReading b false (unlines (lines_in exchanges) ++ text) exchanges after.steps origin after.told before after.moment
reading_fails {b} {exchanges} {origin} {before} {now} text after sound u r o idle =
    let whole = whole_lines-unlines (lines_in exchanges) text u.plain r.plain in
    let done = served_before after sound u o idle in
    record {
      read = record {
        given = consumes_more before.left now.moment.left after.moment.left (unlines (lines_in exchanges)) text u.given r.given;
        within = omega (arith, u.spent, r.within, length-append (unlines (lines_in exchanges)) text);
      };
      lines = whole;
      attended = done.0;
      answered = done.1;
      one_fault = r.one_fault ∙ ap counted u.read_faults;
      asks = subst (All AsksNeither) (sym whole) u.on;
      not_stopped = refl;
    }

reading_past : {b : Behaviour} {exchanges : List Exchange} {origin : Option HostLog} {before : Moment} {now : ConnectionPoint} (text : List ℕ) (byte : ℕ) (after : ConnectionPoint) → Sound b before → Ongoing b exchanges origin before now
    → ReadsTooMuch text byte (taken_in now) (taken_in after) → OnlyReads now.moment after.moment → Idles now after
    → ConnectionReadsPast b false (unlines (lines_in exchanges) ++ text) byte exchanges after.steps origin after.told before after.moment
reading_past {b} {exchanges} {origin} {before} {now} text byte after sound u r o idle =
    let whole = whole_lines-unlines (lines_in exchanges) text u.plain r.plain in
    let done = served_before after sound u o idle in
    record {
      given = subst (λ t. Consumes before.left after.moment.left t) (sym (append_assoc (unlines (lines_in exchanges)) text (byte ∷ [])))
          (consumes_more before.left now.moment.left after.moment.left (unlines (lines_in exchanges)) (text ++ byte ∷ []) u.given r.given);
      full = omega (arith, u.spent, r.spent, length-append (unlines (lines_in exchanges)) text);
      lines = whole;
      attended = done.0;
      answered = done.1;
      same_faults = r.same_faults ∙ u.read_faults;
      asks = subst (All AsksNeither) (sym whole) u.on;
      not_stopped = refl;
    }

-- The writer could not be flushed.
flushing_fails : {b : Behaviour} {exchanges : List Exchange} {origin : Option HostLog} {before : Moment} {now : ConnectionPoint} (after : ConnectionPoint) → Sound b before → Ongoing b exchanges origin before now
    → OnlyWrites now.moment after.moment → Idles now after → after.moment.write_faults ≡ counted now.moment.write_faults
    → ConnectionBreaksWriting b false (unlines (lines_in exchanges)) exchanges after.steps origin after.told before after.moment
flushing_fails {b} {exchanges} {origin} {before} {now} after sound u o idle one = record {
  read = record { given = subst (λ left. Consumes before.left left (unlines (lines_in exchanges))) (sym o.left) u.given; within = omega (arith, u.spent) };
  whole = unlines-ends_lines (lines_in exchanges) after.moment.left;
  lines = all_lines (lines_in exchanges) u.plain;
  attended = attends_so_far b exchanges origin before after sound (ap (λ c. c.image) o.core ∙ u.image) (idle_stands origin _ now after o.core idle u.stands);
  same_faults = o.same_faults ∙ u.read_faults;
  asks = subst (All AsksNeither) (sym (all_lines (lines_in exchanges) u.plain)) u.on;
  one_fault = one ∙ ap counted u.write_faults;
}

-- The input ended.
pub nothing_left : {b : Behaviour} {exchanges : List Exchange} {origin : Option HostLog} {before : Moment} {now : ConnectionPoint} (after : ConnectionPoint) → Sound b before → Ongoing b exchanges origin before now
    → ExchangeGives b (Ok None) now after → ConnectionCompletes b Closed false (unlines (lines_in exchanges)) exchanges after.steps origin after.told before after.moment
nothing_left {b} {exchanges} {origin} {before} {now} after sound u (r, o, idle) =
    let all = all_lines (lines_in exchanges) u.plain in
    let done = served_before after sound u o idle in
    record {
      read = record { given = consumes_kept before.left now.moment.left after.moment.left (unlines (lines_in exchanges)) u.given r.same; within = omega (arith, u.spent) };
      lines = all;
      attended = done.0;
      answered = done.1;
      same_faults = r.same_faults ∙ u.read_faults;
      asks = subst (All AsksNeither) (sym all) u.on;
      ends = (refl, r.at_end);
    }

-- ---- a line was read and done

-- One more exchange, since the moment at the beginning.
record Advances (b : Behaviour) (exchanges : List Exchange) (origin : Option HostLog) (input : List ℕ) (before : Moment) (after : ConnectionPoint) : Type 0 where
  pub given : Consumes before.left after.moment.left input
  pub spent : 16777216 ≡ length input + after.budget
  pub read_faults : after.moment.read_faults ≡ before.read_faults
  pub lines_are : input_lines input ≡ lines_in exchanges
  pub image : after.moment.core.image ≡ before.core.image
  pub stands : HasComeTo origin (so_far b exchanges before) (progress_of after)

lines_in-push : (exchanges : List Exchange) (exchange : Exchange) → lines_in (exchanges ++ exchange ∷ []) ≡ lines_in exchanges ++ exchange.line ∷ []
lines_in-push exchanges exchange = map-append (λ (p : Exchange). p.line) exchanges (exchange ∷ [])

so_far-push : (b : Behaviour) (exchanges : List Exchange) (exchange : Exchange) (before : Moment) → so_far b (exchanges ++ exchange ∷ []) before ≡ served b before.core.image exchange (so_far b exchanges before)
so_far-push b exchanges exchange before = all_served-push b before.core.image exchanges exchange (emptied b before.core.image (begun before.core.state))

served_stands : (b : Behaviour) (image : ImageParts) (exchange : Exchange) (origin : Option HostLog) (a : Account) (now : ConnectionPoint)
    → HasComeTo origin (attended b image exchange a) (progress_of now) → HasComeTo origin (served b image exchange a) (progress_of now)
served_stands b image exchange origin a now h = record { state_is = h.state_is; steps_are = h.steps_are; told_is = h.told_is }

advances : {b : Behaviour} {exchanges : List Exchange} {origin : Option HostLog} {before : Moment} {now after : ConnectionPoint} {exchange : Exchange} {ended : Bool} {leave : Leave} → Ongoing b exchanges origin before now → ServesExchange b exchange ended leave now after
    → Advances b (exchanges ++ exchange ∷ []) origin (unlines (lines_in exchanges) ++ (exchange.line ++ line_end ended)) before after
advances {b} {exchanges} {origin} {before} {now} {after} {exchange} {ended} u m = record {
  given = consumes_more before.left now.moment.left after.moment.left (unlines (lines_in exchanges)) (exchange.line ++ line_end ended) u.given m.read.given;
  spent = omega (arith, u.spent, m.read.spent, length-append (unlines (lines_in exchanges)) (exchange.line ++ line_end ended));
  read_faults = m.read.same_faults ∙ u.read_faults;
  lines_are = input_lines-unlines (lines_in exchanges) (exchange.line ++ line_end ended) u.plain ∙ ap (λ ls. lines_in exchanges ++ ls) (last_line exchange.line ended (IsAtEnd after.moment.left) m.read.plain m.read.last)
      ∙ sym (lines_in-push exchanges exchange);
  image = m.image ∙ u.image;
  stands = subst (λ a. HasComeTo origin a (progress_of after)) (sym (so_far-push b exchanges exchange before))
      (served_stands b before.core.image exchange origin (so_far b exchanges before) after
      (subst (λ image. HasComeTo origin (attended b image exchange (so_far b exchanges before)) (progress_of after)) u.image (m.attends origin (so_far b exchanges before) u.stands)));
}

AsksNeither-push : (exchanges : List Exchange) (exchange : Exchange) → All AsksNeither (lines_in exchanges) → leave_of (client_asked exchange.line) ≡ leaves.Stays → All AsksNeither (lines_in (exchanges ++ exchange ∷ []))
AsksNeither-push exchanges exchange on last = subst (All AsksNeither) (sym (lines_in-push exchanges exchange)) (All-append AsksNeither (lines_in exchanges) (exchange.line ∷ []) on (All-cons AsksNeither exchange.line [] last (All-nil AsksNeither)))

-- What follows the last line.
AskFor-push : (leave : Leave) (exchanges : List Exchange) (exchange : Exchange) → All AsksNeither (lines_in exchanges) → leave ≡ leave_of (client_asked exchange.line) → AskFor leave (lines_in (exchanges ++ exchange ∷ []))
AskFor-push leaves.Stays exchanges exchange on is = AsksNeither-push exchanges exchange on (sym is)
AskFor-push leaves.Stops exchanges exchange on is = (lines_in exchanges, exchange.line, lines_in-push exchanges exchange, on, sym is)
AskFor-push leaves.Reloads exchanges exchange on is = (lines_in exchanges, exchange.line, lines_in-push exchanges exchange, on, sym is)

-- The reply could not be written.
replying_fails : {b : Behaviour} {exchanges : List Exchange} {origin : Option HostLog} {before : Moment} {now after : ConnectionPoint} {exchange : Exchange} {ended stop : Bool} → Sound b before → Ongoing b exchanges origin before now
    → ServesExchange b exchange ended (left_by (Fault WriteFailed) stop) now after → after.moment.write_faults ≡ counted now.moment.write_faults
    → ConnectionBreaksWriting b stop (unlines (lines_in exchanges) ++ (exchange.line ++ line_end ended)) (exchanges ++ exchange ∷ []) after.steps origin after.told before after.moment
replying_fails {b} {exchanges} {origin} {before} {now} {after} {exchange} {ended} {stop} sound u m one =
    let a = advances u m in
    record {
      read = record { given = a.given; within = omega (arith, a.spent) };
      whole = inr (line_ends (unlines (lines_in exchanges)) exchange.line ended after.moment.left m.read.last);
      lines = a.lines_are;
      attended = attends_so_far b (exchanges ++ exchange ∷ []) origin before after sound a.image a.stands;
      same_faults = a.read_faults;
      asks = subst (AskFor (left_by (Fault WriteFailed) stop)) (sym a.lines_are) (AskFor-push _ exchanges exchange u.on m.asks);
      one_fault = one ∙ ap counted u.write_faults;
    }

-- The next line was not served, or not replied to.
not_done : {b : Behaviour} {exchanges : List Exchange} {origin : Option HostLog} {before : Moment} {now : ConnectionPoint} (fault : SessionFault) (stopped : Bool) (after : ConnectionPoint) → Sound b before → Ongoing b exchanges origin before now
    → ExchangeFails b fault stopped now after → ConnectionGives b (Fault fault) stopped after.steps origin after.told before after.moment
not_done {b} {exchanges} {origin} {before} {now} ReadFailed stopped after sound u (text, r, o, idle, on) =
    subst (λ s. ConnectionGives b (Fault ReadFailed) s after.steps origin after.told before after.moment) (sym on) (_, _, reading_fails text after sound u r o idle)
not_done {b} {exchanges} {origin} {before} {now} TooMuchInput stopped after sound u (text, byte, r, o, idle, on) =
    subst (λ s. ConnectionGives b (Fault TooMuchInput) s after.steps origin after.told before after.moment) (sym on) (_, byte, _, reading_past text byte after sound u r o idle)
not_done {b} {exchanges} {origin} {before} {now} WriteFailed stopped after sound u (one, inl (o, idle, on)) =
    subst (λ s. ConnectionGives b (Fault WriteFailed) s after.steps origin after.told before after.moment) (sym on) (_, _, flushing_fails after sound u o idle one)
not_done WriteFailed stopped after sound u (one, inr (exchange, ended, m)) = (_, _, replying_fails sound u m one)

pub not_served : {b : Behaviour} {exchanges : List Exchange} {origin : Option HostLog} {before : Moment} {now : ConnectionPoint} (broken : Break) (after : ConnectionPoint) → Sound b before → Ongoing b exchanges origin before now
    → ExchangeGives b (Err broken) now after → ConnectionGives b (Fault broken.fault) broken.stopped after.steps origin after.told before after.moment
not_served broken after sound u fails = not_done broken.fault broken.stopped after sound u fails

-- The line was replied to.
answers : {b : Behaviour} {exchanges : List Exchange} {origin : Option HostLog} {before : Moment} {now after : ConnectionPoint} {exchange : Exchange} → Ongoing b exchanges origin before now → AnswersExchange b exchange now after
    → HasAnswered b (exchanges ++ exchange ∷ []) before after.moment
answers {b} {exchanges} {origin} {before} {now} {after} {exchange} u r =
    let a = so_far b exchanges before in
    record {
      written = r.written origin a u.stands ∙ ap (λ image. append_known now.moment.written (exchange_reply b image exchange a)) u.image
          ∙ ap (λ k. append_known k (exchange_reply b before.core.image exchange a)) u.written
          ∙ append_known-append before.written a.said (exchange_reply b before.core.image exchange a)
          ∙ ap (λ said. append_known before.written (said ++ exchange_reply b before.core.image exchange a)) (sym (attended_said b before.core.image exchange a))
          ∙ ap (λ x. append_known before.written x.said) (sym (so_far-push b exchanges exchange before));
      same_faults = r.same_faults ∙ u.write_faults;
    }

-- The connection goes on after the line.
goes_on : {b : Behaviour} {exchanges : List Exchange} {origin : Option HostLog} {before : Moment} {now after : ConnectionPoint} {exchange : Exchange} → Ongoing b exchanges origin before now
    → ServesExchange b exchange true leaves.Stays now after → AnswersExchange b exchange now after → Ongoing b (exchanges ++ exchange ∷ []) origin before after
goes_on {b} {exchanges} {origin} {before} {now} {after} {exchange} u m r =
    let a = advances u m in
    let said = answers u r in
    let push = lines_in-push exchanges exchange in
    let all : unlines (lines_in exchanges) ++ (exchange.line ++ 10 ∷ []) ≡ unlines (lines_in (exchanges ++ exchange ∷ [])) = sym (unlines-push (lines_in exchanges) exchange.line) ∙ ap unlines (sym push) in
    record {
      plain = subst ArePlain (sym push) (ArePlain-push (lines_in exchanges) exchange.line u.plain m.read.plain);
      on = AsksNeither-push exchanges exchange u.on (sym m.asks);
      given = subst (λ t. Consumes before.left after.moment.left t) all a.given;
      spent = a.spent ∙ ap (λ t. length t + after.budget) all;
      read_faults = a.read_faults;
      write_faults = said.same_faults;
      image = a.image;
      stands = a.stands;
      written = said.written;
    }

-- ---- the end of the connection

completes : {b : Behaviour} {exchanges : List Exchange} {origin : Option HostLog} {before : Moment} {now after : ConnectionPoint} {exchange : Exchange} {ended stop : Bool} {leave : Leave} (end : End) → Sound b before → Ongoing b exchanges origin before now
    → ServesExchange b exchange ended leave now after → AnswersExchange b exchange now after → left_by end stop ≡ leave
    → EndsAs end stop (unlines (lines_in exchanges) ++ (exchange.line ++ line_end ended)) after.steps after.moment
    → ConnectionCompletes b end stop (unlines (lines_in exchanges) ++ (exchange.line ++ line_end ended)) (exchanges ++ exchange ∷ []) after.steps origin after.told before after.moment
completes {b} {exchanges} {origin} {before} {now} {after} {exchange} {stop = stop} end sound u m r left ends =
    let a = advances u m in
    record {
      read = record { given = a.given; within = omega (arith, a.spent) };
      lines = a.lines_are;
      attended = attends_so_far b (exchanges ++ exchange ∷ []) origin before after sound a.image a.stands;
      answered = answers u r;
      same_faults = a.read_faults;
      asks = subst (AskFor (left_by end stop)) (sym a.lines_are) (AskFor-push _ exchanges exchange u.on (left ∙ m.asks));
      ends = ends;
    }

no_room : (steps : ℕ) → nat_lt (512 - steps) 65 ≡ true → 447 < steps
no_room steps h = grind (arith, nat_tests)

has_room : (steps : ℕ) → nat_lt (512 - steps) 65 ≡ false → steps ≤ 512 → steps + 65 ≤ 512
has_room steps h within = grind (arith, nat_tests)

same_end : (end other : End) → Some end ≡ Some other → end ≡ other
same_end end other e = cc

-- Why it ends after a line.
data EndsBy (full ended : Bool) : Leave → End → Type 0 where
  OnStop : EndsBy full ended leaves.Stops Stop
  OnReload : EndsBy full ended leaves.Reloads Reload
  WithoutRoom : full ≡ true → EndsBy full ended leaves.Stays Full
  AtEnd : ended ≡ false → EndsBy full ended leaves.Stays Closed

ends_by : (leave : Leave) (full ended : Bool) (end : End) → end_by leave full ended ≡ Some end → EndsBy full ended leave end
ends_by leaves.Stops full ended end e = subst (EndsBy full ended leaves.Stops) (same_end Stop end e) OnStop
ends_by leaves.Reloads full ended end e = subst (EndsBy full ended leaves.Reloads) (same_end Reload end e) OnReload
ends_by leaves.Stays true ended end e = subst (EndsBy true ended leaves.Stays) (same_end Full end e) (WithoutRoom refl)
ends_by leaves.Stays false false end e = subst (EndsBy false false leaves.Stays) (same_end Closed end e) (AtEnd refl)
ends_by leaves.Stays false true end e = cc

is_full : (leave : Leave) (full ended : Bool) → end_by leave full ended ≡ Some Full → full ≡ true
is_full leaves.Stops full ended e = cc
is_full leaves.Reloads full ended e = cc
is_full leaves.Stays true ended e = refl
is_full leaves.Stays false false e = cc
is_full leaves.Stays false true e = cc

is_reload : (leave : Leave) (full ended : Bool) → end_by leave full ended ≡ Some Reload → leave ≡ leaves.Reloads
is_reload leaves.Stops full ended e = cc
is_reload leaves.Reloads full ended e = refl
is_reload leaves.Stays true ended e = cc
is_reload leaves.Stays false false e = cc
is_reload leaves.Stays false true e = cc

-- Why it goes on.
record OnBy (leave : Leave) (full ended : Bool) : Type 0 where
  pub stays : leave ≡ leaves.Stays
  pub not_full : full ≡ false
  pub is_ended : ended ≡ true

on_by : (leave : Leave) (full ended : Bool) → end_by leave full ended ≡ None → OnBy leave full ended
on_by leaves.Stops full ended e = cc
on_by leaves.Reloads full ended e = cc
on_by leaves.Stays true ended e = cc
on_by leaves.Stays false false e = cc
on_by leaves.Stays false true e = record { stays = refl; not_full = refl; is_ended = refl }

-- The end and whether the service was stopped determine what follows the line.
left_so : {leave : Leave} {full ended : Bool} {end : End} → EndsBy full ended leave end → left_by end (stops_by leave) ≡ leave
left_so OnStop = refl
left_so OnReload = refl
left_so (WithoutRoom full) = refl
left_so (AtEnd over) = refl

ends_as : {b : Behaviour} {now after : ConnectionPoint} {exchange : Exchange} {ended : Bool} {leave : Leave} (end : End) (front : List ℕ)
    → ServesExchange b exchange ended leave now after → EndsBy (nat_lt (512 - length after.steps) 65) ended leave end
    → EndsAs end (stops_by leave) (front ++ (exchange.line ++ line_end ended)) after.steps after.moment
ends_as {after = after} {exchange} {ended} Stop front m OnStop = (refl, line_ends front exchange.line ended after.moment.left m.read.last)
ends_as {after = after} {exchange} {ended} Reload front m OnReload = (refl, line_ends front exchange.line ended after.moment.left m.read.last)
ends_as {after = after} {exchange} {ended} Full front m (WithoutRoom full) = (refl, no_room (length after.steps) full, inr (line_ends front exchange.line ended after.moment.left m.read.last))
ends_as Closed front m (AtEnd over) = (refl, (m.read.last over).1)
ends_as (Fault fault) front m by = elim by [ ]

-- ---- the last flush

-- A moment with another state of the writer.
abbrev pub at_end : Moment → Option (List ℕ) → Option ℕ → Moment
at_end now written faults = record { core = now.core; left = now.left; written = written; read_faults = now.read_faults; write_faults = faults }

ends_alike : (end : End) (stopped : Bool) (input : List ℕ) (steps : List Step) (now : Moment) (written : Option (List ℕ)) (faults : Option ℕ) → EndsAs end stopped input steps now → EndsAs end stopped input steps (at_end now written faults)
ends_alike Closed stopped input steps now written faults e = e
ends_alike Stop stopped input steps now written faults e = e
ends_alike Reload stopped input steps now written faults e = e
ends_alike Full stopped input steps now written faults e = e
ends_alike (Fault fault) stopped input steps now written faults e = e

attended_alike : {b : Behaviour} {exchanges : List Exchange} {steps : List Step} {told told' : Option HostLog} {before now : Moment} (written : Option (List ℕ)) (faults : Option ℕ)
    → HasAttended b exchanges steps told told' before now → HasAttended b exchanges steps told told' before (at_end now written faults)
attended_alike written faults a = record { image = a.image; state = a.state; steps_are = a.steps_are; told_is = a.told_is; keeps = a.keeps; each_empties = a.each_empties }

goes_out : {b : Behaviour} {end : End} {stopped : Bool} {input : List ℕ} {exchanges : List Exchange} {steps : List Step} {told told' : Option HostLog} {before now : Moment} (written : Option (List ℕ)) (faults : Option ℕ)
    → ConnectionCompletes b end stopped input exchanges steps told told' before now → written ≡ append_known now.written [] → faults ≡ now.write_faults
    → ConnectionCompletes b end stopped input exchanges steps told told' before (at_end now written faults)
goes_out {end = end} {stopped} {input} {steps = steps} {now = now} written faults c put same = record {
  read = record { given = c.read.given; within = c.read.within };
  lines = c.lines;
  attended = attended_alike written faults c.attended;
  answered = record { written = put ∙ append_known-nil now.written ∙ c.answered.written; same_faults = same ∙ c.answered.same_faults };
  same_faults = c.same_faults;
  asks = c.asks;
  ends = ends_alike end stopped input steps now written faults c.ends;
}

whole_at_end : (end : End) (stopped : Bool) (input : List ℕ) (steps : List Step) (now : Moment) → EndsAs end stopped input steps now → EndsLines input now.left
whole_at_end Closed stopped input steps now e = inr (inr e.1)
whole_at_end Stop stopped input steps now e = inr e.1
whole_at_end Reload stopped input steps now e = inr e.1
whole_at_end Full stopped input steps now e = e.2
whole_at_end (Fault fault) stopped input steps now e = absurd e

-- Except at a reload, a failed write changes nothing about what follows the line.
left_alike : (end : End) (stopped : Bool) → end ≢ Reload → left_by end stopped ≡ left_by (Fault WriteFailed) stopped
left_alike Closed stopped h = refl
left_alike Stop stopped h = refl
left_alike Reload stopped h = absurd (h refl)
left_alike Full stopped h = refl
left_alike (Fault fault) stopped h = refl

stays_in : {b : Behaviour} {end : End} {stopped : Bool} {input : List ℕ} {exchanges : List Exchange} {steps : List Step} {told told' : Option HostLog} {before now : Moment} (written : Option (List ℕ)) (faults : Option ℕ)
    → ConnectionCompletes b end stopped input exchanges steps told told' before now → end ≢ Reload → faults ≡ counted now.write_faults
    → ConnectionBreaksWriting b stopped input exchanges steps told told' before (at_end now written faults)
stays_in {end = end} {stopped} {input} {steps = steps} {now = now} written faults c no_reload one = record {
  read = record { given = c.read.given; within = c.read.within };
  whole = whole_at_end end stopped input steps now c.ends;
  lines = c.lines;
  attended = attended_alike written faults c.attended;
  same_faults = c.same_faults;
  asks = subst (λ leave. AskFor leave (input_lines input)) (left_alike end stopped no_reload) c.asks;
  one_fault = one ∙ ap counted c.answered.same_faults;
}

completed : (b : Behaviour) (end : End) (stopped : Bool) (input : List ℕ) (exchanges : List Exchange) (steps : List Step) (told told' : Option HostLog) (before now : Moment)
    → ConnectionCompletes b end stopped input exchanges steps told told' before now → ConnectionGives b end stopped steps told told' before now
completed b Closed stopped input exchanges steps told told' before now c = (input, exchanges, c)
completed b Stop stopped input exchanges steps told told' before now c = (input, exchanges, c)
completed b Reload stopped input exchanges steps told told' before now c = (input, exchanges, c)
completed b Full stopped input exchanges steps told told' before now c = (input, exchanges, c)
completed b (Fault fault) stopped input exchanges steps told told' before now c = absurd c.ends

-- The connection ended after a line.
pub ends_after : {b : Behaviour} {exchanges : List Exchange} {origin : Option HostLog} {before : Moment} {now : ConnectionPoint} (line : ServedLine) (end result : End) (after : ConnectionPoint) (written : Option (List ℕ)) (faults : Option ℕ)
    → Sound b before → Ongoing b exchanges origin before now → ExchangeGives b (Ok (Some line)) now after → Some end ≡ end_of line (length after.steps)
    → FlushGives end result after.moment.written written after.moment.write_faults faults
    → ConnectionGives b result (stops_by line.leave) after.steps origin after.told before (at_end after.moment written faults)
ends_after {b} {origin = origin} {before} line end result after written faults sound u (exchange, m, r) is (inl (same, put, kept)) =
    let by = ends_by line.leave _ line.is_ended end (sym is) in
    subst (λ e. ConnectionGives b e (stops_by line.leave) after.steps origin after.told before (at_end after.moment written faults)) (sym same)
    (completed b end (stops_by line.leave) _ _ after.steps origin after.told before _ (goes_out written faults (completes end sound u m r (left_so by) (ends_as end _ m by)) put kept))
ends_after {b} {origin = origin} {before} line end result after written faults sound u (exchange, m, r) is (inr (no_reload, broken, one)) =
    let by = ends_by line.leave _ line.is_ended end (sym is) in
    subst (λ e. ConnectionGives b e (stops_by line.leave) after.steps origin after.told before (at_end after.moment written faults)) (sym broken)
    (_, _, stays_in written faults (completes end sound u m r (left_so by) (ends_as end _ m by)) no_reload one)

-- The connection goes on after a line.
pub record GoesFurther (b : Behaviour) (origin : Option HostLog) (before : Moment) (after : ConnectionPoint) : Type 0 where
  pub exchanges : List Exchange
  pub ongoing : Ongoing b exchanges origin before after

pub goes_further : {b : Behaviour} {exchanges : List Exchange} {origin : Option HostLog} {before : Moment} {now : ConnectionPoint} (line : ServedLine) (after : ConnectionPoint)
    → Ongoing b exchanges origin before now → ExchangeGives b (Ok (Some line)) now after → None ≡ end_of line (length after.steps) → GoesFurther b origin before after
goes_further {b} {exchanges} {origin} {before} {now} line after u (exchange, m, r) is =
    let on = on_by line.leave _ line.is_ended (sym is) in
    record {
      exchanges = exchanges ++ exchange ∷ [];
      ongoing = goes_on u (subst (λ leave. ServesExchange b exchange true leave now after) on.stays (subst (λ ended. ServesExchange b exchange ended line.leave now after) on.is_ended m)) r;
    }

pub room_left : (line : ServedLine) (steps : ℕ) → None ≡ end_of line steps → steps ≤ 512 → steps + 65 ≤ 512
room_left line steps is within =
    let on = on_by line.leave (nat_lt (512 - steps) 65) line.is_ended (sym is) in
    has_room steps on.not_full within

-- The connection is full only if there is no room.
pub full_without_room : (line : ServedLine) (steps : ℕ) (end result : End) (written written' : Option (List ℕ)) (faults faults' : Option ℕ)
    → Some end ≡ end_of line steps → FlushGives end result written written' faults faults' → result ≡ Full → 447 < steps
full_without_room line steps end result written written' faults faults' is (inr (no_reload, broken, one)) full = cc
full_without_room line steps end result written written' faults faults' is (inl (same, put, kept)) full =
    no_room steps (is_full line.leave (nat_lt (512 - steps) 65) line.is_ended (sym is ∙ ap Some (sym same ∙ full)))

-- At a reload nothing is held back.
pub reload_holds : (line : ServedLine) (steps : ℕ) (held : Option (List ℕ)) → (line.leave ≡ leaves.Reloads → HoldsNothing held) → Some Reload ≡ end_of line steps → HoldsNothing held
reload_holds line steps held quiet is = quiet (is_reload line.leave (nat_lt (512 - steps) 65) line.is_ended (sym is))

-- ---- any end

-- Whatever the end is, exchanges were done, and the steps are theirs.
pub record Attended (b : Behaviour) (steps : List Step) (told told' : Option HostLog) (before after : Moment) : Type 0 where
  pub exchanges : List Exchange
  pub attended : HasAttended b exchanges steps told told' before after
  pub keeps : ConnectionKeeps b before.core.image (lines_in exchanges) steps (so_far b exchanges before).log before.core.state after.core.state

these : {b : Behaviour} {exchanges : List Exchange} {steps : List Step} {told told' : Option HostLog} {before after : Moment} → HasAttended b exchanges steps told told' before after → Attended b steps told told' before after
these {exchanges = exchanges} a = record { exchanges = exchanges; attended = a; keeps = a.keeps }

pub was_attended : {b : Behaviour} {steps : List Step} {told told' : Option HostLog} {before after : Moment} (end : End) (stopped : Bool)
    → ConnectionGives b end stopped steps told told' before after → Attended b steps told told' before after
was_attended (Fault ReadFailed) stopped (input, exchanges, r) = these r.attended
was_attended (Fault WriteFailed) stopped (input, exchanges, r) = these r.attended
was_attended (Fault TooMuchInput) stopped (input, byte, exchanges, r) = these r.attended
was_attended Closed stopped (input, exchanges, r) = these r.attended
was_attended Stop stopped (input, exchanges, r) = these r.attended
was_attended Reload stopped (input, exchanges, r) = these r.attended
was_attended Full stopped (input, exchanges, r) = these r.attended
