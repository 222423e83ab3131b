-- State by state.
use Rattle.std.proofs.Common.{◌<◌, ◌+◌, sym, subst, arith}
use Rattle.ifs_base.specs.declared.ids.StateId.{StateId}
use Rattle.ifs_claims.specs.Changes.{WouldChange}
use Rattle.ifs_claims.specs.inner.Changing.{IsQuietEntry, AreEntriesQuiet}
use Rattle.ifs_claims.proofs.Answering.{answered_by, answered_next}
use Rattle.ifs_claims.proofs.beginning.Leaving.ask_entries.Goals as goal

pub loop-index-init : goal.loop-index-init
loop-index-init c = λ previous lt. absurd (omega (arith, lt))

pub loop-index-preserved : goal.loop-index-preserved
loop-index-preserved c =
    let previous : StateId = record { 0 = c.loop-index.index } in
    subst (AreEntriesQuiet c.args.self.reachable.now c.args.self.most c.args.self.state (c.loop-index.index + 1)) (sym c.either-extent.ensures)
    (answered_next (WouldChange c.args.self.reachable.now c.args.self.most) (IsQuietEntry c.args.self.reachable.now c.args.self.most c.args.self.state) previous c.loop-index.extent c.in_ok-more.more c.loop-index.invariant c.in_ok-more.ensures)

pub returns : goal.returns
returns c =
    let past = c.loop-index-test.false in
    answered_by ((previous : StateId) → previous.0 < c.loop-index.index → IsQuietEntry c.args.self.reachable.now c.args.self.most c.args.self.state previous)
    ((previous : StateId) → previous.0 < c.args.count → IsQuietEntry c.args.self.reachable.now c.args.self.most c.args.self.state previous) (WouldChange c.args.self.reachable.now c.args.self.most) c.loop-index.extent
    (λ quiet previous lt. quiet previous (omega (arith, lt, past))) c.loop-index.invariant

pub returns-in-Somewhere : goal.returns-in-Somewhere
returns-in-Somewhere c = subst (AreEntriesQuiet c.args.self.reachable.now c.args.self.most c.args.self.state c.loop-index.index) c.in-Somewhere.is c.loop-index.invariant
