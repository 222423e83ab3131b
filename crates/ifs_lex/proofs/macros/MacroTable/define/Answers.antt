use Rattle.std.proofs.Common.{sym, ◌∙◌, ap, option_map}
use Rattle.ifs_lex.specs.inner.Kept.{whats_of_rope}
use Rattle.ifs_lex.proofs.Tables.{define_read}
use Rattle.ifs_lex.proofs.macros.MacroTable.define.Goals as goal

pub returns-in-Ok : goal.returns-in-Ok
returns-in-Ok c =
    let value = sym (ap (option_map (whats_of_rope c.value_of.new.self.ropes)) c.in-Some.is) ∙ c.in_ok-rope.ensures.whats in
    define_read c.args.line c.args.given c.args.name.now c.args.value.now _ _ _ _ (sym c.is_given.ensures ∙ c.if-is_given.false) value c.in_ok-rope.ensures.same c.in-Ok.ensures

pub returns-in-Err : goal.returns-in-Err
returns-in-Err c =
    let value = sym (ap (option_map (whats_of_rope c.value_of.new.self.ropes)) c.in-Some.is) ∙ c.in_ok-rope.ensures.whats in
    λ other. define_read c.args.line c.args.given c.args.name.now c.args.value.now _ _ _ _ (sym c.is_given.ensures ∙ c.if-is_given.false) value c.in_ok-rope.ensures.same (c.in-Err.ensures other)
