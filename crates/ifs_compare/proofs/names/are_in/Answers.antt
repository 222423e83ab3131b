-- One entry after the other.
use Rattle.std.proofs.Common.{◌≡◌, true, sym, ◌∙◌, arith}
use Rattle.std.specs.List.{list_any}
use Rattle.ifs_compare.proofs.Listed.{all_more, all_end}
use Rattle.ifs_compare.proofs.names.are_in.Goals as goal

pub loop-index-preserved : goal.loop-index-preserved
loop-index-preserved g c =
    all_more (λ entry. list_any (g.T.PartialEq.eq entry) c.args.other.now ≡ true) c.args.one.now c.loop-index.index c.in-Some.entry.now (sym c.in-Some.ensures.value) (sym c.has.ensures ∙ c.if-not-has.false)
    c.loop-index.invariant

pub returns-clause-same : goal.returns-clause-same
returns-clause-same g c =
    all_end (λ entry. list_any (g.T.PartialEq.eq entry) c.args.other.now ≡ true) c.args.one.now c.loop-index.index (omega (arith, c.len-index-end.ensures, c.loop-index-test.false)) c.loop-index.invariant
