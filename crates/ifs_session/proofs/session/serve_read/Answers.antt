use Rattle.std.proofs.Common.{◌∙◌}
use Rattle.ifs_session.proofs.LineAsked.{kept_asked-line}
use Rattle.ifs_session.proofs.NextLine.{line_served, line_unreplied}
use Rattle.ifs_session.proofs.session.serve_read.Goals as goal

pub returns-in-Ok-serve-clause-next : goal.returns-in-Ok-serve-clause-next
returns-in-Ok-serve-clause-next g c = λ b h.
    let r = rw c.in-Some.is at c.in_ok-line.ensures in
    line_served b c.in-Ok-serve.kind r.0 c.in-Some.line.is_ended _ c.args.budget.now _ _ _ _ _ r.1.read (c.request.ensures ∙ kept_asked-line r.1) c.in-Ok.ensures.puts.0 c.in-Ok.ensures.puts.1 c.in-Ok-serve.ensures.image (c.in-Ok-serve.ensures.served b h)

pub returns-in-Err-clause-next : goal.returns-in-Err-clause-next
returns-in-Err-clause-next g c = λ b h.
    let r = rw c.in-Some.is at c.in_ok-line.ensures in
    let served = c.in-Err.ensures.served b h in
    line_unreplied b r.0 c.in-Some.line.is_ended _ c.args.budget.now _ _ _ _ r.1.read (c.request.ensures ∙ kept_asked-line r.1) c.in-Ok.ensures.puts.1 c.in-Err.ensures.image served.0 served.1
