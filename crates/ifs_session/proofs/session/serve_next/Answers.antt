use Rattle.std.proofs.Common.{true, sym, refl}
use Rattle.ifs_session.proofs.Known.{append_known-nil}
use Rattle.ifs_session.proofs.NextLine.{line_served, line_unreplied, may_skip, lent_line}
use Rattle.ifs_session.proofs.session.serve_next.Goals as goal

pub skip-requires : goal.skip-requires
skip-requires g c = may_skip c.in-Some.line.now c.peek.result.now c.args.budget.now _ c.peek.ensures c.in-Some.ensures.first

pub returns-in-Ok-clause-next : goal.returns-in-Ok-clause-next
returns-in-Ok-clause-next g c = λ b h.
    let lent = lent_line c.in-Some.line.now c.peek.result.now c.args.budget.now _ _ _ _ _ _ c.peek.ensures c.in-Some.ensures.first c.skip.ensures in
    line_served b c.in-Ok.kind c.in-Some.line.now true _ c.args.budget.now _ _ _ _ _ lent c.request_of.ensures (sym (append_known-nil _)) refl c.in-Ok.ensures.image (c.in-Ok.ensures.served b h)

pub returns-in-Err-clause-next : goal.returns-in-Err-clause-next
returns-in-Err-clause-next g c = λ b h.
    let lent = lent_line c.in-Some.line.now c.peek.result.now c.args.budget.now _ _ _ _ _ _ c.peek.ensures c.in-Some.ensures.first c.skip.ensures in
    let served = c.in-Err.ensures.served b h in
    line_unreplied b c.in-Some.line.now true _ c.args.budget.now _ _ _ _ lent c.request_of.ensures refl c.in-Err.ensures.image served.0 served.1
