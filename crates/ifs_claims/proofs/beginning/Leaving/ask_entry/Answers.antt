-- By what the body of the other state asks for.
use Rattle.ifs_claims.proofs.Starts.{entry_by_itself, entry_by_never, entry_by_shared}
use Rattle.ifs_claims.proofs.beginning.Leaving.ask_entry.Goals as goal

pub returns-then-previous-self : goal.returns-then-previous-self
returns-then-previous-self c = entry_by_itself c.args.self.reachable.now c.args.self.most c.args.self.state c.args.previous c.if-previous-self.true

pub returns-then-is_never : goal.returns-then-is_never
returns-then-is_never c = entry_by_never c.args.self.reachable.now c.args.self.most c.args.self.state c.args.previous c.if-is_never.ensures

pub returns-then-is_sharing : goal.returns-then-is_sharing
returns-then-is_sharing c =
    let is = c.if-is_sharing.ensures in
    entry_by_shared c.args.self.reachable.now c.args.self.most c.args.self.state c.args.previous c.active_are_mentioned.ensures is.part c.in_ok-shared.shared is.there is.shared c.in_ok-shared.ensures
