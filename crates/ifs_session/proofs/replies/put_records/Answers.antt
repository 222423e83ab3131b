use Rattle.std.proofs.Common.{sym, ◌∙◌}
use Rattle.ifs_session.specs.Replies.{record_line}
use Rattle.ifs_session.proofs.Known.{next_piece}
use Rattle.ifs_session.proofs.replies.put_records.Goals as goal

pub loop-index-preserved : goal.loop-index-preserved
loop-index-preserved g c = record {
  told = next_piece (record_line c.args.core.now.image) c.args.core.now.state.trace c.loop-index.index c.in-Some.item _ _ _ (sym c.trace_at.ensures.value ∙ c.in-Some.is) c.loop-index.invariant.told c.in_ok-put_record.ensures.0;
  kept = c.in_ok-put_record.ensures.1 ∙ c.loop-index.invariant.kept;
}
