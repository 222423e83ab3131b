use Rattle.std.proofs.Common.{sym, ◌∙◌}
use Rattle.ifs_lex.proofs.Searches.{found, passed_found, not_found}
use Rattle.ifs_lex.proofs.scans.inside_len.Goals as goal

pub returns-then-not-is_after_backslash-clause-value : goal.returns-then-not-is_after_backslash-clause-value
returns-then-not-is_after_backslash-clause-value c =
    let i = c.loop-ahead.invariant in
    sym (found c.args.quote c.args.bytes.now _ c.loop-ahead.from c.in-Some.ahead c.split_at.ensures.back i.0 i.1 c.in-Some.ensures
    (sym c.is_after_backslash.ensures ∙ c.if-not-is_after_backslash.true))

pub loop-ahead-preserved : goal.loop-ahead-preserved
loop-ahead-preserved c =
    let i = c.loop-ahead.invariant in
    passed_found c.args.quote c.args.bytes.now _ c.loop-ahead.from c.in-Some.ahead c.split_at.ensures.back i.0 i.1 c.in-Some.ensures
    (sym c.is_after_backslash.ensures ∙ c.if-not-is_after_backslash.false)

pub returns-clause-value : goal.returns-clause-value
returns-clause-value c =
    let i = c.loop-ahead.invariant in
    sym (not_found c.args.quote c.args.bytes.now _ c.loop-ahead.from c.split_at.ensures.back i.0 i.1 c.in_default.ensures)
