-- The command that the reply reports.
use Rattle.std.proofs.Common.{get_or, sym}
use Rattle.std.proofs.lemmas.List.Elements.{Contains-get_or}
use Rattle.ifs_base.specs.declared.ids.CommandId.{CommandId}
use Rattle.ifs_prove.proofs.making.tells_one.Goals as goal

pub returns-then-tells : goal.returns-then-tells
returns-then-tells c =
    let commands = c.args.commands.now in
    let i = c.loop-command.command-index in
    let none : CommandId = record { 0 = 0 } in
    (get_or commands i none, Contains-get_or commands i none c.loop-command-test.true, sym c.if-tells.ensures)
