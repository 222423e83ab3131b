use Rattle.ifs_lex.proofs.Tables.{values_put, macros_put, put_known}
use Rattle.std.proofs.Common.{sym, ◌∙◌}
use Rattle.ifs_lex.proofs.macros.MacroTable.put.Goals as goal

pub invariant_of-self : goal.invariant_of-self
invariant_of-self c = record {
  values = values_put _ c.args.self.now.table c.insert.new.self c.args.name.now c.args.entry c.insert.result c.requires c.args.self.now.values c.insert.ensures.updates c.insert.ensures.err;
  empty = c.args.self.now.empty;
}

pub returns-then-has_room : goal.returns-then-has_room
returns-then-has_room c =
    put_known c.args.line c.args.entry.given c.args.name.now _ _ _ (sym c.has_room.ensures ∙ c.if-has_room.true)
    (macros_put c.args.self.now.ropes c.args.self.now.table c.insert.new.self c.args.name.now c.args.entry _ c.in_ok-insert.ensures.updates c.in_ok-insert.ensures.len c.in_ok-insert.ensures.old)
