-- The first command, and one more.
use Rattle.ifs_claim_parse.specs.Says.{IsCommand}
use Rattle.ifs_claim_parse.proofs.Left.{first_value, next_value, some_pushed, with_command}
use Rattle.ifs_claim_parse.proofs.next.read_commands.Goals as goal

pub names-init : goal.names-init
names-init c = record {
  named = first_value (IsCommand c.args.line.tables.now) c.args.tokens.now c.in_ok-first.left.now c.in_ok-first.first c.new-commands.result.items c.push.new.self.items
      c.in_ok-first.ensures c.new-commands.ensures.items c.in_ok-push.ensures.items;
  some = some_pushed c.new-commands.result.items c.push.new.self.items c.in_ok-first.first c.in_ok-push.ensures.items;
}

pub names-preserved : goal.names-preserved
names-preserved c =
    let begins = with_command c.args.line.tables.now c.in-Some.text.now c.names.left.now c.in-Some.rest.now c.in-Some-command_named.command c.in-Some.ensures c.in-Some-command_named.ensures in
    record {
      named = next_value (IsCommand c.args.line.tables.now) c.args.tokens.now c.names.left.now c.in-Some.rest.now c.in-Some-command_named.command c.names.commands.items
          c.push-in-Some-command_named.new.self.items c.names.invariant.named begins c.in_ok-push-in-Some-command_named.ensures.items;
      some = some_pushed c.names.commands.items c.push-in-Some-command_named.new.self.items c.in-Some-command_named.command c.in_ok-push-in-Some-command_named.ensures.items;
    }
