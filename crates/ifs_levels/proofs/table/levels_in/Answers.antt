-- One more row.
use Rattle.std.proofs.Common.{subst, take}
use Rattle.std.specs.Prelude.{All}
use Rattle.std.proofs.lemmas.List.{take_all}
use Rattle.std.proofs.lemmas.List.Elements.{All-more, All-weaker}
use Rattle.ifs_levels.specs.Within.{IsRestAmong}
use Rattle.ifs_levels.proofs.table.levels_in.Goals as goal

pub loop-row-preserved : goal.loop-row-preserved
loop-row-preserved c =
    let state = c.args.state in
    let rows = c.args.rows.now in
    let i = c.loop-row.row-index in
    let adds = c.in_ok-put_rest.ensures in
    All-more (IsRestAmong state c.put_rest.new.ranges.items) rows i _ c.loop-row-test.true
    (All-weaker (IsRestAmong state c.loop-row.ranges.items) (IsRestAmong state c.put_rest.new.ranges.items) adds.kept (take i rows) c.loop-row.invariant) adds.there

pub returns : goal.returns
returns c =
    let rows = c.args.rows.now in
    subst (All (IsRestAmong c.args.state c.loop-row.ranges.items)) (take_all c.loop-row.row-index rows c.loop-row-test.false) c.loop-row.invariant
