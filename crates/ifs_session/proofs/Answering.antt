-- A line that was read: the host was polled, and the line was done and replied to.
use Rattle.std.proofs.Common.{◌≡◌, ◌≢◌, ℕ, Bool, false, List, [], Option, None, Err, refl, sym, ap, ◌∙◌, subst}
use Rattle.std.specs.Io.KnownBytes.{append_known}
use Rattle.ifs_image.specs.declared.parts.ImageParts.{ImageParts}
use Rattle.ifs_core.specs.Event.{Behaviour}
use Rattle.ifs_session.specs.declared.fault.SessionFault.{SessionFault}
use Rattle.ifs_session.specs.declared.service.Break.{Break}
use Rattle.ifs_session.specs.declared.service.End.TheVariants.{Fault}
use Rattle.ifs_session.specs.declared.service.Leave.{Leave}
use Rattle.ifs_session.specs.declared.service.Leave.TheVariants as leaves
use Rattle.ifs_session.specs.declared.fault.SessionFault.TheVariants.{ReadFailed, WriteFailed, TooMuchInput}
use Rattle.ifs_session.specs.Requests.{Asked, ALink, AResult, ATick, ATake, AQuestion, AStop, AReload}
use Rattle.ifs_session.specs.Requests.{AFault}
use Rattle.ifs_session.specs.Sessions.{is_stop}
use Rattle.ifs_session.specs.Hosts.{Ending}
use Rattle.ifs_session.specs.Accounts.{client_asked, step_asked, acted, runs_ended, heard_out, answered, listened}
use Rattle.ifs_session.specs.Service.{leave_of, left_by}
use Rattle.ifs_session.specs.inner.Reading.{ReadsText, LineGives}
use Rattle.ifs_session.specs.inner.Serving.{OnlyReads}
use Rattle.ifs_session.specs.inner.Connections.{Progress, HasComeTo, Carries, ConnectionPoint, progress_of, taken_in}
use Rattle.ifs_session.specs.inner.Connections.{Idles}
use Rattle.ifs_session.specs.inner.Connections.{ServesExchange, AnswersExchange, ExchangeFails}
use Rattle.ifs_session.proofs.Known.{append_known-nil}

-- No line was read.
pub not_read : (b : Behaviour) (fault : SessionFault) (before after : ConnectionPoint) → LineGives (Err fault) (taken_in before) (taken_in after)
    → OnlyReads before.moment after.moment → Idles before after → ExchangeFails b fault false before after
not_read b ReadFailed before after (text, r) o idle = (text, r, o, idle, refl)
not_read b TooMuchInput before after (text, byte, r) o idle = (text, byte, r, o, idle, refl)
not_read b WriteFailed before after r o idle = absurd r

-- The reply could not be written.
pub no_reply : (b : Behaviour) (broken : Break) (stop : Bool) (before after : ConnectionPoint) → broken ≡ record { fault = WriteFailed; stopped = stop }
    → ExchangeFails b WriteFailed stop before after → ExchangeFails b broken.fault broken.stopped before after
no_reply b broken stop before after is fails = subst (λ x. ExchangeFails b x.fault x.stopped before after) (sym is) fails

-- `reload` makes no step.
pub no_step : (image : ImageParts) (a : Asked) → leave_of a ≡ leaves.Reloads → step_asked image a ≡ None
no_step image (ALink name link) h = cc
no_step image (AResult test run value) h = cc
no_step image (ATick moment) h = cc
no_step image ATake h = cc
no_step image (AQuestion question) h = cc
no_step image AStop h = cc
no_step image AReload h = refl
no_step image (AFault fault) h = cc

-- Except for `reload`, a failed write changes nothing about what follows a line.
pub left_unanswered : (a : Asked) → leave_of a ≢ leaves.Reloads → left_by (Fault WriteFailed) (is_stop a) ≡ leave_of a
left_unanswered (ALink name link) h = refl
left_unanswered (AResult test run value) h = refl
left_unanswered (ATick moment) h = refl
left_unanswered ATake h = refl
left_unanswered (AQuestion question) h = refl
left_unanswered AStop h = refl
left_unanswered AReload h = absurd (h refl)
left_unanswered (AFault fault) h = refl

-- The line was done.
pub exchange_attended : (b : Behaviour) (text : List ℕ) (ended : Bool) (leave : Leave) (endings : List Ending) (before after : ConnectionPoint) (middle : Progress) (image : ImageParts) (a : Asked)
    → ReadsText text ended (taken_in before) (taken_in after) → image ≡ before.moment.core.image → after.moment.core.image ≡ image → a ≡ client_asked text
    → Carries (λ account. heard_out (runs_ended b before.moment.core.image endings account)) (progress_of before) middle
    → Carries (acted b image (step_asked image a)) middle (progress_of after) → leave ≡ leave_of a
    → ServesExchange b (record { line = text; endings = endings }) ended leave before after
exchange_attended b text ended leave endings before after middle image a r same kept asks heard acts left = record {
  read = r;
  image = kept ∙ same;
  attends = λ origin account h.
      subst (λ x. HasComeTo origin (acted b before.moment.core.image (step_asked before.moment.core.image x) (listened b before.moment.core.image (record { line = text; endings = endings }) account)) (progress_of after)) asks
      (subst (λ i. HasComeTo origin (acted b i (step_asked i a) (listened b before.moment.core.image (record { line = text; endings = endings }) account)) (progress_of after)) same
      (acts origin _ (heard origin account h)));
  asks = left ∙ ap leave_of asks;
}

-- The line was replied to.
pub exchange_answered : (b : Behaviour) (text : List ℕ) (endings : List Ending) (before after : ConnectionPoint) (middle : Progress) (image : ImageParts) (a : Asked) (written : Option (List ℕ)) (faults : Option ℕ)
    → written ≡ append_known before.moment.written [] → faults ≡ before.moment.write_faults → image ≡ before.moment.core.image → a ≡ client_asked text
    → Carries (λ account. heard_out (runs_ended b before.moment.core.image endings account)) (progress_of before) middle
    → (after.moment.written ≡ append_known written (answered b image a middle.state)) × (after.moment.write_faults ≡ faults)
    → AnswersExchange b (record { line = text; endings = endings }) before after
exchange_answered b text endings before after middle image a written faults out same_faults same asks heard put = record {
  written = λ origin account h.
      put.0 ∙ ap (λ k. append_known k (answered b image a middle.state)) (out ∙ append_known-nil before.moment.written)
      ∙ ap (λ i. append_known before.moment.written (answered b i a middle.state)) same
      ∙ ap (λ x. append_known before.moment.written (answered b before.moment.core.image x middle.state)) asks
      ∙ ap (λ s. append_known before.moment.written (answered b before.moment.core.image (client_asked text) s)) (heard origin account h).state_is;
  same_faults = put.1 ∙ same_faults;
}
