-- Runs of an image that is the first line.
use Rattle.std.proofs.Common.{ℕ, List, Result, Ok, Err, inl, inr, subst, sym}
use Rattle.ifs_session.specs.declared.fault.SessionFault.{SessionFault}
use Rattle.ifs_session.specs.declared.fault.SessionFault.TheVariants.{ReadFailed, WriteFailed, TooMuchInput}
use Rattle.ifs_session.specs.declared.fault.RunFault.{RunFault}
use Rattle.ifs_session.specs.declared.fault.RunFault.TheVariants.{Session}
use Rattle.ifs_session.specs.declared.refusal.Refusal.{Refusal}
use Rattle.ifs_session.specs.declared.refusal.Refusal.TheVariants.{Broken, NotAccepted, Memory}
use Rattle.ifs_session.specs.Device.{Feed}
use Rattle.ifs_session.specs.Hexadecimal.{HexGives}
use Rattle.ifs_session.specs.inner.Opening.{ImageGives, RefuseGives}
use Rattle.ifs_session.specs.declared.session.Summary.{Summary}
use Rattle.ifs_session.specs.Runs.{Streams, Runs, RunGives, LineRefused}

-- The result of a run, from the result of its session.
abbrev pub run_result : Result Summary SessionFault → Result Summary RunFault
run_result (Ok summary) = Ok summary
run_result (Err fault) = Err (Session fault)

-- A run whose session has ended.
pub run_served : (before after : Streams) (result : Result Summary SessionFault) → Runs result before after → RunGives (run_result result) before after
run_served before after (Ok summary) runs = runs
run_served before after (Err ReadFailed) runs = inl runs
run_served before after (Err WriteFailed) runs = inl runs
run_served before after (Err TooMuchInput) runs = runs

-- A line is refused if the image that it spells cannot be opened.
pub image_refused : (bytes : List ℕ) (refusal : Refusal) (before after : Feed) → HexGives (Ok bytes) before after → ImageGives bytes (Err refusal) → LineRefused refusal before after
image_refused bytes Broken before after line gives = absurd gives
image_refused bytes (NotAccepted fault) before after line gives = (bytes, line, gives.0, gives.1)
image_refused bytes Memory before after line gives = inr (bytes, line)

-- A run whose first line is refused.
pub run_refused : (refusal : Refusal) (result : RunFault) (before after : Streams) → LineRefused refusal before.feed after.feed → RefuseGives refusal result before.sink after.sink → RunGives (Err result) before after
run_refused Broken result before after why (inl told) = subst (λ (fault : RunFault). RunGives (Err fault) before after) (sym told.0) (record { why = why; written = told.1; same_faults = told.2; out = told.3 })
run_refused (NotAccepted fault) result before after why (inl told) = subst (λ (fault : RunFault). RunGives (Err fault) before after) (sym told.0) (record { why = why; written = told.1; same_faults = told.2; out = told.3 })
run_refused Memory result before after why (inl told) = subst (λ (fault : RunFault). RunGives (Err fault) before after) (sym told.0) (record { why = why; written = told.1; same_faults = told.2; out = told.3 })
run_refused refusal result before after why (inr failed) = subst (λ (fault : RunFault). RunGives (Err fault) before after) (sym failed.0) (inr (record { refusal = refusal; why = why; one_fault = failed.1 }))
