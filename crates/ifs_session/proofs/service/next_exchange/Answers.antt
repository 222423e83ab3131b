use Rattle.std.proofs.Common.{sym, ap, ◌∙◌, subst, refl, inr}
use Rattle.ifs_session.specs.Device.{counted, HoldsNothing}
use Rattle.ifs_core.specs.Machine.{IsBehaviour}
use Rattle.ifs_session.proofs.Known.{append_known-nil}
use Rattle.ifs_session.proofs.LineAsked.{kept_client_asked-line}
use Rattle.ifs_session.proofs.Answering.{not_read, no_reply, left_unanswered, exchange_answered, exchange_attended}
use Rattle.ifs_session.proofs.service.next_exchange.Goals as goal

pub returns-in-Ok-answer-clause-exchange : goal.returns-in-Ok-answer-clause-exchange
returns-in-Ok-answer-clause-exchange g c = λ b h.
    let r = rw c.in-Ok-Some.field-0-is at c.in-Ok-Some.ensures in
    let asks = c.client_request-asked.ensures ∙ kept_client_asked-line r.1 in
    let there = subst (λ i. IsBehaviour i b) (sym c.apply_test_results.ensures.image) h in
    let heard = c.apply_test_results.ensures.heard b h in (
      record { line = r.0; endings = heard.0 },
      exchange_attended b r.0 c.in-Ok-Some.line.is_ended _ heard.0 _ _ _ _ _ r.1.read c.apply_test_results.ensures.image c.in-Ok-answer.ensures.image asks heard.1 (c.in-Ok-answer.ensures.acts b there) c.leave_asked.ensures,
      exchange_answered b r.0 heard.0 _ _ _ _ _ _ _ c.in-Ok.ensures.puts.0 c.in-Ok.ensures.puts.1 c.apply_test_results.ensures.image asks heard.1 (c.in-Ok-answer.ensures.replies b there),
    )

pub returns-in-Ok-answer-clause-reloads : goal.returns-in-Ok-answer-clause-reloads
returns-in-Ok-answer-clause-reloads g c = λ is. subst HoldsNothing (sym (c.in-Ok-answer.ensures.quiet (sym c.leave_asked.ensures ∙ is)).1) c.in-Ok.ensures.out

pub returns-in-Err-answer-clause-exchange : goal.returns-in-Err-answer-clause-exchange
returns-in-Err-answer-clause-exchange g c = λ b h.
    let r = rw c.in-Ok-Some.field-0-is at c.in-Ok-Some.ensures in
    let asks = c.client_request-asked.ensures ∙ kept_client_asked-line r.1 in
    let there = subst (λ i. IsBehaviour i b) (sym c.apply_test_results.ensures.image) h in
    let heard = c.apply_test_results.ensures.heard b h in
    no_reply b _ _ _ _ c.unanswered.ensures (
      c.in-Err-answer.ensures.replies b there ∙ ap counted c.in-Ok.ensures.puts.1,
      inr (
        record { line = r.0; endings = heard.0 },
        c.in-Ok-Some.line.is_ended,
        exchange_attended b r.0 c.in-Ok-Some.line.is_ended _ heard.0 _ _ _ _ _ r.1.read c.apply_test_results.ensures.image c.in-Err-answer.ensures.image asks heard.1 (c.in-Err-answer.ensures.acts b there) (left_unanswered _ (λ is. let told = (c.in-Err-answer.ensures.quiet is).0 in cc)),
      ),
    )

pub returns-in-Err-clause-exchange : goal.returns-in-Err-clause-exchange
returns-in-Err-clause-exchange g c = λ b h.
    not_read b c.in-Err.fault _ _ c.in-Err.ensures
    (record { core = refl; written = c.in-Ok.ensures.puts.0 ∙ append_known-nil _; same_faults = c.in-Ok.ensures.puts.1 })
    (record { steps = refl; told = refl })
