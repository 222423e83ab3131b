-- The loop over lines: what was read so far, and its effect.
use Rattle.std.proofs.Common.{◌≡◌, ◌≢◌, ◌⊎◌, ℕ, ◌+◌, ◌<◌, ◌≤◌, Bool, true, false, ◌==◌, cond, not, List, [], ◌∷◌, ◌++◌}
use Rattle.std.proofs.Common.{length, count_by, Option, None, Ok, Err, inl, inr, subst, refl, sym, ap, ◌∙◌}
use Rattle.std.proofs.Common.{append_assoc, append-nil, arith, length-append}
use Rattle.std.specs.List.{onto_first}
use Rattle.std.proofs.lemmas.Bool.Decides.{nat_tests}
use Rattle.std.proofs.lemmas.List.Sums.{sum_by-append}
use Rattle.ifs_session.specs.declared.session.Summary.{Summary}
use Rattle.ifs_session.specs.Device.{counted}
use Rattle.ifs_session.specs.declared.fault.SessionFault.{SessionFault}
use Rattle.ifs_session.specs.declared.fault.SessionFault.TheVariants.{ReadFailed, WriteFailed, TooMuchInput}
use Rattle.std.specs.Io.KnownBytes.{append_known, Consumes, IsAtEnd}
use Rattle.ifs_image.specs.declared.parts.ImageParts.{ImageParts}
use Rattle.ifs_core.specs.Event.{Behaviour}
use Rattle.ifs_core.specs.Steps.{CoreState}
use Rattle.ifs_session.specs.inner.Reading.{HasNoNewline, ReadFails, ReadsTooMuch}
use Rattle.ifs_session.specs.Lines.{input_lines, whole_lines, onto_line, line_end}
use Rattle.ifs_session.specs.Requests.{Asked, ALink, AResult, ATick, ATake, AQuestion, AStop, AReload}
use Rattle.ifs_session.specs.Requests.{AFault, asked}
use Rattle.ifs_session.specs.declared.session.LineKind.{LineKind}
use Rattle.ifs_session.specs.declared.session.LineKind.TheVariants as kinds
use Rattle.ifs_session.specs.Sessions.{SessionGives, deed, replies_to, after_lines, is_step, is_stop, NoneStops}
use Rattle.ifs_session.specs.Sessions.{OnlyLastMayStop, Moment, HasServed, HasReplied, EndsWell, EndsLine, EndsLines}
use Rattle.ifs_session.specs.Sessions.{Completes, BreaksReading, BreaksWriting, ReadsPast}
use Rattle.ifs_session.specs.inner.Serving.{kind_of, with_request, intake, MakesLine, RepliesToLine, OnlyReads}
use Rattle.ifs_session.specs.inner.Serving.{OnlyWrites}
use Rattle.ifs_session.specs.inner.Serving.{NextServed}
use Rattle.ifs_session.proofs.Known.{consumes_nothing, consumes_more, consumes_kept, append_known-append}
use Rattle.ifs_session.proofs.Known.{append_known-nil}

-- ---- lines

-- The input that these lines make, each ended by a newline.
abbrev pub unlines : List (List ℕ) → List ℕ
unlines [] = []
unlines (line ∷ lines) = line ++ 10 ∷ unlines lines

-- None of these lines has a newline.
abbrev pub ArePlain : List (List ℕ) → Type 0
ArePlain [] = Unit {0}
ArePlain (line ∷ lines) = HasNoNewline line × ArePlain lines

-- A byte other than a newline extends a line.
other_byte : {X : Type 0} (byte : ℕ) (x y : X) → byte ≢ 10 → cond (byte == 10) x y ≡ y
other_byte byte x y h = grind (arith, nat_tests)

input_lines-ended : (text rest : List ℕ) → HasNoNewline text → input_lines (text ++ 10 ∷ rest) ≡ text ∷ input_lines rest
input_lines-ended [] rest plain = refl
input_lines-ended (byte ∷ text) rest plain =
    other_byte byte _ _ plain.0 ∙ ap (onto_first byte) (input_lines-ended text rest plain.1)

whole_lines-ended : (text rest : List ℕ) → HasNoNewline text → whole_lines (text ++ 10 ∷ rest) ≡ text ∷ whole_lines rest
whole_lines-ended [] rest plain = refl
whole_lines-ended (byte ∷ text) rest plain =
    other_byte byte _ _ plain.0 ∙ ap (onto_line byte) (whole_lines-ended text rest plain.1)

-- A rest without a newline is a line if it has a byte, but not a whole line.
input_lines-rest : (text : List ℕ) → HasNoNewline text → 0 < length text → input_lines text ≡ text ∷ []
input_lines-rest [] plain some = absurd (omega arith)
input_lines-rest (byte ∷ []) plain some = other_byte byte _ _ plain.0
input_lines-rest (byte ∷ other ∷ text) plain some =
    other_byte byte _ _ plain.0 ∙ ap (onto_first byte) (input_lines-rest (other ∷ text) plain.1 (omega arith))

whole_lines-rest : (text : List ℕ) → HasNoNewline text → whole_lines text ≡ []
whole_lines-rest [] plain = refl
whole_lines-rest (byte ∷ text) plain = other_byte byte _ _ plain.0 ∙ ap (onto_line byte) (whole_lines-rest text plain.1)

pub input_lines-unlines : (lines : List (List ℕ)) (rest : List ℕ) → ArePlain lines → input_lines (unlines lines ++ rest) ≡ lines ++ input_lines rest
input_lines-unlines [] rest plain = refl
input_lines-unlines (line ∷ lines) rest plain =
    ap input_lines (append_assoc line (10 ∷ unlines lines) rest)
    ∙ input_lines-ended line (unlines lines ++ rest) plain.0
    ∙ ap (λ ls. line ∷ ls) (input_lines-unlines lines rest plain.1)

pub whole_lines-unlines : (lines : List (List ℕ)) (rest : List ℕ) → ArePlain lines → HasNoNewline rest → whole_lines (unlines lines ++ rest) ≡ lines
whole_lines-unlines [] rest plain rest_plain = whole_lines-rest rest rest_plain
whole_lines-unlines (line ∷ lines) rest plain rest_plain =
    ap whole_lines (append_assoc line (10 ∷ unlines lines) rest)
    ∙ whole_lines-ended line (unlines lines ++ rest) plain.0
    ∙ ap (λ ls. line ∷ ls) (whole_lines-unlines lines rest plain.1 rest_plain)

pub unlines-push : (lines : List (List ℕ)) (text : List ℕ) → unlines (lines ++ text ∷ []) ≡ unlines lines ++ (text ++ 10 ∷ [])
unlines-push [] text = refl
unlines-push (line ∷ lines) text = ap (λ rest. line ++ 10 ∷ rest) (unlines-push lines text) ∙ sym (append_assoc line (10 ∷ unlines lines) (text ++ 10 ∷ []))

pub ArePlain-push : (lines : List (List ℕ)) (text : List ℕ) → ArePlain lines → HasNoNewline text → ArePlain (lines ++ text ∷ [])
ArePlain-push [] text plain last = (last, tt)
ArePlain-push (line ∷ lines) text plain last = (plain.0, ArePlain-push lines text plain.1 last)

NoneStops-push : (lines : List (List ℕ)) (text : List ℕ) → NoneStops lines → is_stop (asked text) ≡ false → NoneStops (lines ++ text ∷ [])
NoneStops-push [] text on last = (last, tt)
NoneStops-push (line ∷ lines) text on last = (on.0, NoneStops-push lines text on.1 last)

NoneStops-may_stop : (lines : List (List ℕ)) → NoneStops lines → OnlyLastMayStop lines
NoneStops-may_stop [] on = tt
NoneStops-may_stop (line ∷ []) on = tt
NoneStops-may_stop (line ∷ next ∷ lines) on = (on.0, NoneStops-may_stop (next ∷ lines) on.1)

may_stop-push : (lines : List (List ℕ)) (text : List ℕ) → NoneStops lines → OnlyLastMayStop (lines ++ text ∷ [])
may_stop-push [] text on = tt
may_stop-push (line ∷ []) text on = (on.0, tt)
may_stop-push (line ∷ next ∷ lines) text on = (on.0, may_stop-push (next ∷ lines) text on.1)

-- The input that lines make ends with a newline, if there are any lines.
unlines-end : (lines : List (List ℕ)) → (unlines lines ≡ []) ⊎ ((front : List ℕ) × (unlines lines ≡ front ++ 10 ∷ []))
unlines-end [] = inl refl
unlines-end (line ∷ lines) =
    elim (unlines-end lines) [
      | inl none ↦ inr (line, ap (λ rest. line ++ 10 ∷ rest) none)
      | inr end ↦ inr (line ++ 10 ∷ end.0, ap (λ rest. line ++ 10 ∷ rest) end.1 ∙ sym (append_assoc line (10 ∷ end.0) (10 ∷ [])))
    ]

pub unlines-ends_lines : (lines : List (List ℕ)) (left : Option (List ℕ)) → EndsLines (unlines lines) left
unlines-ends_lines lines left =
    elim (unlines-end lines) [
      | inl none ↦ inl none
      | inr end ↦ inr (inl end)
    ]

count_by-push : {X : Type 0} (p : X → Bool) (xs : List X) (x : X) → count_by p (xs ++ x ∷ []) ≡ count_by p xs + cond (p x) 1 0
count_by-push p xs x = sum_by-append (λ y. cond (p y) 1 0) xs (x ∷ []) ∙ omega arith

-- ---- the effect of lines

replies_to-append : (b : Behaviour) (image : ImageParts) (lines others : List (List ℕ)) (s : CoreState)
    → replies_to b image (lines ++ others) s ≡ replies_to b image lines s ++ replies_to b image others (after_lines b image lines s)
replies_to-append b image [] others s = refl
replies_to-append b image (line ∷ lines) others s =
    ap (λ rest. (deed b image (asked line) s).reply ++ rest) (replies_to-append b image lines others (deed b image (asked line) s).next)
    ∙ sym (append_assoc (deed b image (asked line) s).reply _ _)

after_lines-append : (b : Behaviour) (image : ImageParts) (lines others : List (List ℕ)) (s : CoreState)
    → after_lines b image (lines ++ others) s ≡ after_lines b image others (after_lines b image lines s)
after_lines-append b image [] others s = refl
after_lines-append b image (line ∷ lines) others s = after_lines-append b image lines others (deed b image (asked line) s).next

-- ---- a session that goes on

-- These lines were served since a moment, and none of them ended the session.
pub record Underway (b : Behaviour) (lines : List (List ℕ)) (summary : Summary) (budget : ℕ) (before now : Moment) : Type 0 where
  pub plain : ArePlain lines
  pub on : NoneStops lines
  pub given : Consumes before.left now.left (unlines lines)
  pub spent : 16777216 ≡ length (unlines lines) + budget
  pub read_faults : now.read_faults ≡ before.read_faults
  pub write_faults : now.write_faults ≡ before.write_faults
  pub image : now.core.image ≡ before.core.image
  pub state : now.core.state ≡ after_lines b before.core.image lines before.core.state
  pub written : now.written ≡ append_known before.written (replies_to b before.core.image lines before.core.state)
  pub requests : summary.requests ≡ length lines
  pub steps : summary.steps ≡ count_by (λ line. is_step before.core.image (asked line)) lines
  pub running : summary.stopped ≡ false

-- Nothing was served yet.
pub underway_start : (b : Behaviour) (now : Moment) → Underway b [] (record { requests = 0; steps = 0; stopped = false }) 16777216 now now
underway_start b now = record {
  plain = tt;
  on = tt;
  given = consumes_nothing now.left;
  spent = omega arith;
  read_faults = refl;
  write_faults = refl;
  image = refl;
  state = refl;
  written = sym (append_known-nil now.written);
  requests = refl;
  steps = refl;
  running = refl;
}

pub all_lines : (lines : List (List ℕ)) → ArePlain lines → input_lines (unlines lines) ≡ lines
all_lines lines plain = ap input_lines (sym (append-nil (unlines lines))) ∙ input_lines-unlines lines [] plain ∙ append-nil lines

-- The writer could not be flushed.
pub flushing_fails : {b : Behaviour} {lines : List (List ℕ)} {summary : Summary} {budget : ℕ} {before now : Moment} (after : Moment)
    → Underway b lines summary budget before now → OnlyWrites now after → after.write_faults ≡ counted now.write_faults
    → BreaksWriting b (unlines lines) before after
flushing_fails {b} {lines} {before = before} {now} after u o one = record {
  read = record { given = subst (λ left. Consumes before.left left (unlines lines)) (sym o.left) u.given; within = omega (arith, u.spent) };
  whole = unlines-ends_lines lines after.left;
  served = record { image = ap (λ c. c.image) o.core ∙ u.image; state = ap (λ c. c.state) o.core ∙ u.state ∙ ap (λ ls. after_lines b before.core.image ls before.core.state) (sym (all_lines lines u.plain)) };
  same_faults = o.same_faults ∙ u.read_faults;
  one_fault = one ∙ ap counted u.write_faults;
  go_on = NoneStops-may_stop _ (subst NoneStops (sym (all_lines lines u.plain)) u.on);
}

-- Lines were served and replied to, and nothing was done since.
served_before : {b : Behaviour} {lines : List (List ℕ)} {summary : Summary} {budget : ℕ} {before now : Moment} (others : List (List ℕ)) (after : Moment)
    → Underway b lines summary budget before now → OnlyReads now after → lines ≡ others → HasServed b others before after × HasReplied b others before after
served_before {b} {before = before} others after u o same = (
  record { image = ap (λ c. c.image) o.core ∙ u.image; state = ap (λ c. c.state) o.core ∙ u.state ∙ ap (λ ls. after_lines b before.core.image ls before.core.state) same },
  record { written = o.written ∙ u.written ∙ ap (λ ls. append_known before.written (replies_to b before.core.image ls before.core.state)) same; same_faults = o.same_faults ∙ u.write_faults },
)

-- A read failed.
reading_fails : {b : Behaviour} {lines : List (List ℕ)} {summary : Summary} {budget : ℕ} {before now : Moment} (text : List ℕ) (after : Moment) (budget' : ℕ)
    → Underway b lines summary budget before now → ReadFails text (intake now budget) (intake after budget') → OnlyReads now after
    → BreaksReading b (unlines lines ++ text) before after
reading_fails {b} {lines} {before = before} {now} text after budget' u r o =
    let whole = sym (whole_lines-unlines lines text u.plain r.plain) in
    let so_far = served_before _ after u o whole in
    record {
      read = record {
        given = consumes_more before.left now.left after.left (unlines lines) text u.given r.given;
        within = omega (arith, u.spent, r.within, length-append (unlines lines) text);
      };
      served = so_far.0;
      replied = so_far.1;
      one_fault = r.one_fault ∙ ap counted u.read_faults;
      go_on = subst NoneStops whole u.on;
    }

-- A byte after the limit was read.
reading_past : {b : Behaviour} {lines : List (List ℕ)} {summary : Summary} {budget : ℕ} {before now : Moment} (text : List ℕ) (byte : ℕ) (after : Moment) (budget' : ℕ)
    → Underway b lines summary budget before now → ReadsTooMuch text byte (intake now budget) (intake after budget') → OnlyReads now after
    → ReadsPast b (unlines lines ++ text) byte before after
reading_past {b} {lines} {before = before} {now} text byte after budget' u r o =
    let whole = sym (whole_lines-unlines lines text u.plain r.plain) in
    let so_far = served_before _ after u o whole in
    record {
      given = subst (λ t. Consumes before.left after.left t) (sym (append_assoc (unlines lines) text (byte ∷ [])))
          (consumes_more before.left now.left after.left (unlines lines) (text ++ byte ∷ []) u.given r.given);
      full = omega (arith, u.spent, r.spent, length-append (unlines lines) text);
      served = so_far.0;
      replied = so_far.1;
      same_faults = r.same_faults ∙ u.read_faults;
      go_on = subst NoneStops whole u.on;
    }

ends_running : (stopped : Bool) (input : List ℕ) (after : Moment) → stopped ≡ false → NoneStops (input_lines input) × IsAtEnd after.left → EndsWell stopped input after
ends_running false input after e end = end
ends_running true input after e end = cc

-- The input ended.
pub nothing_left : {b : Behaviour} {lines : List (List ℕ)} {summary : Summary} {budget : ℕ} {before now : Moment} (after : Moment) (budget' : ℕ)
    → Underway b lines summary budget before now → NextServed b (Ok None) now budget after budget'
    → Completes b summary (unlines lines) before after
nothing_left {b} {lines} {summary} {budget} {before} {now} after budget' u (r, o) =
    let all = sym (all_lines lines u.plain) in
    let so_far = served_before _ after u o all in
    record {
      read = record { given = consumes_kept before.left now.left after.left (unlines lines) u.given r.same; within = omega (arith, u.spent) };
      served = so_far.0;
      replied = so_far.1;
      same_faults = r.same_faults ∙ u.read_faults;
      requests = u.requests ∙ ap length all;
      steps = u.steps ∙ ap (count_by (λ line. is_step before.core.image (asked line))) all;
      end = ends_running _ _ _ u.running (subst NoneStops all u.on, r.at_end);
    }

-- ---- a line that was read and served

-- The effect of a line on the summary.
pub record Counts (image : ImageParts) (a : Asked) (s next : Summary) : Type 0 where
  pub requests : next.requests ≡ s.requests + 1
  pub steps : next.steps ≡ s.steps + cond (is_step image a) 1 0
  pub stopped : next.stopped ≡ is_stop a

counted_other : (image : ImageParts) (a : Asked) (yes : Bool) (s : Summary) → is_step image a ≡ yes → is_stop a ≡ false → s.stopped ≡ false
    → Counts image a s (with_request (cond yes kinds.Step kinds.Other) s)
counted_other image a true s e stop running = record { requests = refl; steps = ap (λ w. s.steps + cond w 1 0) (sym e); stopped = running ∙ sym stop }
counted_other image a false s e stop running = record { requests = refl; steps = omega (arith, ap (λ w. s.steps + cond w 1 0) (sym e)); stopped = running ∙ sym stop }

counted_line : (image : ImageParts) (a : Asked) (s : Summary) → s.stopped ≡ false → Counts image a s (with_request (kind_of image a) s)
counted_line image (ALink name link) s running = counted_other image (ALink name link) (is_step image (ALink name link)) s refl refl running
counted_line image (AResult test run value) s running = counted_other image (AResult test run value) true s refl refl running
counted_line image (ATick moment) s running = counted_other image (ATick moment) true s refl refl running
counted_line image ATake s running = counted_other image ATake true s refl refl running
counted_line image (AQuestion question) s running = counted_other image (AQuestion question) false s refl refl running
counted_line image AStop s running = record { requests = refl; steps = omega arith; stopped = refl }
counted_line image AReload s running = counted_other image AReload false s refl refl running
counted_line image (AFault fault) s running = counted_other image (AFault fault) false s refl refl running

-- The last line of an input, whatever ends it.
pub last_line : (text : List ℕ) (ended : Bool) (P : Type 0) → HasNoNewline text → (ended ≡ false → (0 < length text) × P) → input_lines (text ++ line_end ended) ≡ text ∷ []
last_line text true P plain last = input_lines-ended text [] plain
last_line text false P plain last = ap input_lines (append-nil text) ∙ input_lines-rest text plain (last refl).0

pub line_ends : (front text : List ℕ) (ended : Bool) (left : Option (List ℕ)) → (ended ≡ false → (0 < length text) × IsAtEnd left) → EndsLine (front ++ (text ++ line_end ended)) left
line_ends front text true left last = inl (front ++ text, sym (append_assoc front text (10 ∷ [])))
line_ends front text false left last = inr (last refl).1

same_deed : {b : Behaviour} {lines : List (List ℕ)} {summary : Summary} {budget : ℕ} {before now : Moment} (text : List ℕ)
    → Underway b lines summary budget before now
    → deed b now.core.image (asked text) now.core.state ≡ deed b before.core.image (asked text) (after_lines b before.core.image lines before.core.state)
same_deed {b} {before = before} {now} text u = ap (λ i. deed b i (asked text) now.core.state) u.image ∙ ap (deed b before.core.image (asked text)) u.state

-- A line was read, and its step was made, if it has one: the state is that after this line too.
pub record Advances (b : Behaviour) (lines : List (List ℕ)) (text input : List ℕ) (before after : Moment) (budget : ℕ) : Type 0 where
  pub given : Consumes before.left after.left input
  pub spent : 16777216 ≡ length input + budget
  pub read_faults : after.read_faults ≡ before.read_faults
  pub lines_are : input_lines input ≡ lines ++ text ∷ []
  pub image : after.core.image ≡ before.core.image
  pub state : after.core.state ≡ after_lines b before.core.image (lines ++ text ∷ []) before.core.state

pub advances : {b : Behaviour} {lines : List (List ℕ)} {summary : Summary} {budget budget' : ℕ} {before now after : Moment} {text : List ℕ} {ended : Bool}
    → Underway b lines summary budget before now → MakesLine b text ended now budget after budget'
    → Advances b lines text (unlines lines ++ (text ++ line_end ended)) before after budget'
advances {b} {lines} {before = before} {now} {after} {text} {ended} u m = record {
  given = consumes_more before.left now.left after.left (unlines lines) (text ++ line_end ended) u.given m.read.given;
  spent = omega (arith, u.spent, m.read.spent, length-append (unlines lines) (text ++ line_end ended));
  read_faults = m.read.same_faults ∙ u.read_faults;
  lines_are = input_lines-unlines lines (text ++ line_end ended) u.plain ∙ ap (λ ls. lines ++ ls) (last_line text ended (IsAtEnd after.left) m.read.plain m.read.last);
  image = m.image ∙ u.image;
  state = m.state ∙ ap (λ d. d.next) (same_deed text u) ∙ sym (after_lines-append b before.core.image lines (text ∷ []) before.core.state);
}

-- The reply could not be written.
replying_fails : {b : Behaviour} {lines : List (List ℕ)} {summary : Summary} {budget budget' : ℕ} {before now after : Moment} {text : List ℕ} {ended : Bool}
    → Underway b lines summary budget before now → MakesLine b text ended now budget after budget' → after.write_faults ≡ counted now.write_faults
    → BreaksWriting b (unlines lines ++ (text ++ line_end ended)) before after
replying_fails {b} {lines} {before = before} {after = after} {text} {ended} u m one =
    let a = advances u m in
    record {
      read = record { given = a.given; within = omega (arith, a.spent) };
      whole = inr (line_ends (unlines lines) text ended after.left m.read.last);
      served = record { image = a.image; state = a.state ∙ ap (λ ls. after_lines b before.core.image ls before.core.state) (sym a.lines_are) };
      same_faults = a.read_faults;
      one_fault = one ∙ ap counted u.write_faults;
      go_on = subst OnlyLastMayStop (sym a.lines_are) (may_stop-push lines text u.on);
    }

-- The next line was not served, or not replied to.
pub not_served : {b : Behaviour} {lines : List (List ℕ)} {summary : Summary} {budget : ℕ} {before now : Moment} (fault : SessionFault) (after : Moment) (budget' : ℕ)
    → Underway b lines summary budget before now → NextServed b (Err fault) now budget after budget'
    → SessionGives b (Err fault) before after
not_served ReadFailed after budget' u (text, r, o) = (_, reading_fails text after budget' u r o)
not_served TooMuchInput after budget' u (text, byte, r, o) = (_, byte, reading_past text byte after budget' u r o)
not_served WriteFailed after budget' u (one, inl o) = (_, flushing_fails after u o one)
not_served WriteFailed after budget' u (one, inr (text, ended, m)) = (_, replying_fails u m one)

-- The line was replied to.
pub record Replies (b : Behaviour) (lines : List (List ℕ)) (text : List ℕ) (summary : Summary) (before after : Moment) : Type 0 where
  pub written_is : after.written ≡ append_known before.written (replies_to b before.core.image (lines ++ text ∷ []) before.core.state)
  pub faults_are : after.write_faults ≡ before.write_faults
  pub requests : summary.requests ≡ length (lines ++ text ∷ [])
  pub steps : summary.steps ≡ count_by (λ line. is_step before.core.image (asked line)) (lines ++ text ∷ [])
  pub stopped : summary.stopped ≡ is_stop (asked text)

pub replied_to : {b : Behaviour} {lines : List (List ℕ)} {summary : Summary} {budget : ℕ} {before now after : Moment} {text : List ℕ} {kind : LineKind} (next : Summary)
    → Underway b lines summary budget before now → RepliesToLine b text kind now after → next ≡ with_request kind summary
    → Replies b lines text next before after
replied_to {b} {lines} {summary} {before = before} {now} {text = text} {kind} next u r next_is =
    let im = before.core.image in
    let s = before.core.state in
    let same_kind : kind ≡ kind_of im (asked text) = r.kind_is ∙ ap (λ i. kind_of i (asked text)) u.image in
    let counts : Counts im (asked text) summary next = subst (Counts im (asked text) summary) (sym (next_is ∙ ap (λ k. with_request k summary) same_kind)) (counted_line im (asked text) summary u.running) in
    record {
      written_is = r.written ∙ ap (λ d. append_known now.written d.reply) (same_deed text u)
          ∙ ap (λ k. append_known k (deed b im (asked text) (after_lines b im lines s)).reply) u.written
          ∙ append_known-append before.written (replies_to b im lines s) _
          ∙ ap (λ t. append_known before.written (replies_to b im lines s ++ t)) (sym (append-nil (deed b im (asked text) (after_lines b im lines s)).reply))
          ∙ ap (append_known before.written) (sym (replies_to-append b im lines (text ∷ []) s));
      faults_are = r.same_faults ∙ u.write_faults;
      requests = counts.requests ∙ omega (arith, u.requests, length-append lines (text ∷ []));
      steps = counts.steps ∙ ap (λ n. n + cond (is_step im (asked text)) 1 0) u.steps ∙ sym (count_by-push (λ other. is_step im (asked other)) lines text);
      stopped = counts.stopped;
    }

ends_stopped : (lines : List (List ℕ)) (text input : List ℕ) (after : Moment) (stopped : Bool) → stopped ≡ true → input_lines input ≡ lines ++ text ∷ [] → NoneStops lines → is_stop (asked text) ≡ true → EndsLine input after.left
    → EndsWell stopped input after
ends_stopped lines text input after true e are on stop line = (lines, text, are, on, stop, line)
ends_stopped lines text input after false e are on stop line = cc

-- The session ended after the line.
session_ends : {b : Behaviour} {lines : List (List ℕ)} {text input : List ℕ} {next : Summary} {before after : Moment} {budget : ℕ}
    → Advances b lines text input before after budget → Replies b lines text next before after → EndsWell next.stopped input after
    → Completes b next input before after
session_ends {b} {before = before} a p end = record {
  read = record { given = a.given; within = omega (arith, a.spent) };
  served = record { image = a.image; state = a.state ∙ ap (λ ls. after_lines b before.core.image ls before.core.state) (sym a.lines_are) };
  replied = record { written = p.written_is ∙ ap (λ ls. append_known before.written (replies_to b before.core.image ls before.core.state)) (sym a.lines_are); same_faults = p.faults_are };
  same_faults = a.read_faults;
  requests = p.requests ∙ ap length (sym a.lines_are);
  steps = p.steps ∙ ap (count_by (λ line. is_step before.core.image (asked line))) (sym a.lines_are);
  end = end;
}

not_ended : (ended : Bool) → not ended ≡ true → ended ≡ false
not_ended true h = cc
not_ended false h = refl

is_ended : (ended : Bool) → not ended ≡ false → ended ≡ true
is_ended true h = refl
is_ended false h = cc

-- The session ended with `stop`, or the input ended with the line.
pub session_closes : {b : Behaviour} {lines : List (List ℕ)} {summary next : Summary} {budget budget' : ℕ} {before now after : Moment} {text : List ℕ} {ended : Bool}
    → Underway b lines summary budget before now → MakesLine b text ended now budget after budget' → Replies b lines text next before after
    → (next.stopped ≡ true) ⊎ ((next.stopped ≡ false) × (not ended ≡ true))
    → Completes b next (unlines lines ++ (text ++ line_end ended)) before after
session_closes {lines = lines} {next = next} {after = after} {text} {ended} u m p (inl stopped) =
    let a = advances u m in
    session_ends a p (ends_stopped lines text _ _ next.stopped stopped a.lines_are u.on (sym p.stopped ∙ stopped) (line_ends (unlines lines) text ended after.left m.read.last))
session_closes {lines = lines} {next = next} {text = text} u m p (inr (running, over)) =
    let a = advances u m in
    session_ends a p (ends_running next.stopped _ _ running (subst NoneStops (sym a.lines_are) (NoneStops-push lines text u.on (sym p.stopped ∙ running)), (m.read.last (not_ended _ over)).1))

-- The session goes on after the line.
pub session_goes_on : {b : Behaviour} {lines : List (List ℕ)} {summary next : Summary} {budget budget' : ℕ} {before now after : Moment} {text : List ℕ} {ended : Bool}
    → Underway b lines summary budget before now → MakesLine b text ended now budget after budget' → Replies b lines text next before after
    → next.stopped ≡ false → not ended ≡ false
    → Underway b (lines ++ text ∷ []) next budget' before after
session_goes_on {lines = lines} {budget' = budget'} {before} {after = after} {text} u m p running more =
    let a = advances u m in
    let all : unlines lines ++ (text ++ line_end _) ≡ unlines (lines ++ text ∷ []) = ap (λ e. unlines lines ++ (text ++ line_end e)) (is_ended _ more) ∙ sym (unlines-push lines text) in
    record {
      plain = ArePlain-push lines text u.plain m.read.plain;
      on = NoneStops-push lines text u.on (sym p.stopped ∙ running);
      given = subst (λ t. Consumes before.left after.left t) all a.given;
      spent = a.spent ∙ ap (λ t. length t + budget') all;
      read_faults = a.read_faults;
      write_faults = p.faults_are;
      image = a.image;
      state = a.state;
      written = p.written_is;
      requests = p.requests;
      steps = p.steps;
      running = running;
    }

-- ---- counts, and the last flush

pub line_total : (kind : LineKind) (s next : Summary) → next ≡ with_request kind s → next.requests ≡ s.requests + 1
line_total kinds.Step s next e = ap (λ x. x.requests) e
line_total kinds.Other s next e = ap (λ x. x.requests) e
line_total kinds.Stop s next e = ap (λ x. x.requests) e

pub line_steps : (kind : LineKind) (s next : Summary) → next ≡ with_request kind s → next.steps ≤ s.steps + 1
line_steps kinds.Step s next e = omega (arith, ap (λ x. x.steps) e)
line_steps kinds.Other s next e = omega (arith, ap (λ x. x.steps) e)
line_steps kinds.Stop s next e = omega (arith, ap (λ x. x.steps) e)

ends_alike : (stopped : Bool) (input : List ℕ) (now after : Moment) → after.left ≡ now.left → EndsWell stopped input now → EndsWell stopped input after
ends_alike false input now after same end = (end.0, subst IsAtEnd (sym same) end.1)
ends_alike true input now after same end = (end.0, end.1, end.2, end.3, end.4, subst (EndsLine input) (sym same) end.5)

-- The replies of a session that has ended have gone out.
pub out_flushed : {b : Behaviour} {summary : Summary} {before now : Moment} (written : Option (List ℕ)) (faults : Option ℕ)
    → (input : List ℕ) × Completes b summary input before now → (written ≡ append_known now.written []) × (faults ≡ now.write_faults)
    → (input : List ℕ) × Completes b summary input before (record { core = now.core; left = now.left; written = written; read_faults = now.read_faults; write_faults = faults })
out_flushed {summary = summary} {now = now} written faults (input, done) put = (
  input,
  record {
    read = record { given = done.read.given; within = done.read.within };
    served = record { image = done.served.image; state = done.served.state };
    replied = record { written = put.0 ∙ append_known-nil now.written ∙ done.replied.written; same_faults = put.1 ∙ done.replied.same_faults };
    same_faults = done.same_faults;
    requests = done.requests;
    steps = done.steps;
    end = ends_alike summary.stopped input now _ refl done.end;
  },
)

-- The input of a session that ended was read to the end of a line, and only its last line may be `stop`.
ends_lines : (stopped : Bool) (input : List ℕ) (now : Moment) → EndsWell stopped input now → EndsLines input now.left
ends_lines false input now end = inr (inr end.1)
ends_lines true input now end = inr end.5

ends_may_stop : (stopped : Bool) (input : List ℕ) (now : Moment) → EndsWell stopped input now → OnlyLastMayStop (input_lines input)
ends_may_stop false input now end = NoneStops-may_stop (input_lines input) end.0
ends_may_stop true input now end = subst OnlyLastMayStop (sym end.2) (may_stop-push end.0 end.1 end.3)

-- The replies could not go out.
pub out_fails : {b : Behaviour} {summary : Summary} {before now : Moment} (written : Option (List ℕ)) (faults : Option ℕ)
    → (input : List ℕ) × Completes b summary input before now → faults ≡ counted now.write_faults
    → (input : List ℕ) × BreaksWriting b input before (record { core = now.core; left = now.left; written = written; read_faults = now.read_faults; write_faults = faults })
out_fails {summary = summary} {now = now} written faults (input, done) one = (
  input,
  record {
    read = record { given = done.read.given; within = done.read.within };
    whole = ends_lines summary.stopped input now done.end;
    served = record { image = done.served.image; state = done.served.state };
    same_faults = done.same_faults;
    one_fault = one ∙ ap counted done.replied.same_faults;
    go_on = ends_may_stop summary.stopped input now done.end;
  },
)
