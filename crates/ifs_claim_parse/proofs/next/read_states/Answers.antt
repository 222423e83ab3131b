-- The first state, and one more.
use Rattle.ifs_claim_parse.specs.Says.{IsState}
use Rattle.ifs_claim_parse.proofs.Left.{first_value, next_value, some_pushed, with_state}
use Rattle.ifs_claim_parse.proofs.next.read_states.Goals as goal

pub names-init : goal.names-init
names-init c = record {
  named = first_value (IsState c.args.line.tables.now) c.args.tokens.now c.in_ok-first.left.now c.in_ok-first.first c.new-states.result.items c.push.new.self.items
      c.in_ok-first.ensures c.new-states.ensures.items c.in_ok-push.ensures.items;
  some = some_pushed c.new-states.result.items c.push.new.self.items c.in_ok-first.first c.in_ok-push.ensures.items;
}

pub names-preserved : goal.names-preserved
names-preserved c =
    let begins = with_state c.args.line.tables.now c.in-Some.name.now c.names.left.now c.in-Some.rest.now c.in-Some-state_named.state c.in-Some.ensures c.in-Some-state_named.ensures in
    record {
      named = next_value (IsState c.args.line.tables.now) c.args.tokens.now c.names.left.now c.in-Some.rest.now c.in-Some-state_named.state c.names.states.items
          c.push-in-Some-state_named.new.self.items c.names.invariant.named begins c.in_ok-push-in-Some-state_named.ensures.items;
      some = some_pushed c.names.states.items c.push-in-Some-state_named.new.self.items c.in-Some-state_named.state c.in_ok-push-in-Some-state_named.ensures.items;
    }
