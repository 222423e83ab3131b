use Rattle.std.proofs.Common.{sym, arith}
use Rattle.ifs_lex.proofs.Searches.{asked, dropped_at, kept_found, kept_to, kept_whole_to, place_within}
use Rattle.ifs_lex.proofs.pieces.kept_len.Goals as goal

pub returns-then-is_dropped : goal.returns-then-is_dropped
returns-then-is_dropped c =
    let i = c.loop-ahead.invariant in
    let back = c.split_at.ensures.back in
    let f = c.in-Some.ensures in
    sym (dropped_at c.args.quote c.args.bytes.now _ (place_within _ _ _ _ back i.0 f.0.high) (kept_to _ _ _ _ _ back i.1 f.0.before)
    (asked _ _ _ _ _ _ c.split_at-in-Some.ensures.back c.is_dropped.ensures c.if-is_dropped.true))

pub loop-ahead-preserved : goal.loop-ahead-preserved
loop-ahead-preserved c =
    let i = c.loop-ahead.invariant in
    let back = c.split_at.ensures.back in
    let f = c.in-Some.ensures in
    let l = place_within _ _ c.loop-ahead.from c.in-Some.ahead back i.0 f.0.high in (
      omega arith,
      kept_found c.args.quote c.args.bytes.now _ (kept_to _ _ _ _ _ back i.1 f.0.before)
          (asked _ _ _ _ _ _ c.split_at-in-Some.ensures.back c.is_dropped.ensures c.if-is_dropped.false),
    )

pub returns : goal.returns
returns c =
    let i = c.loop-ahead.invariant in
    sym (kept_whole_to c.args.quote c.args.bytes.now _ c.loop-ahead.from c.split_at.ensures.back i.0 i.1 c.in_default.ensures)
