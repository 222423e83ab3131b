use Rattle.std.proofs.Common.{sym, ◌∙◌}
use Rattle.ifs_asm.proofs.Blamed.{form_late}
use Rattle.ifs_asm.proofs.building.Building.check.Goals as goal

pub returns-then-not-is_in_order-clause-blamed : goal.returns-then-not-is_in_order-clause-blamed
returns-then-not-is_in_order-clause-blamed c = form_late c.args.self.now c.args.form.now c.if-not-form.false (sym c.has_no_form.ensures ∙ c.if-has_no_form.false) (sym c.is_full.ensures ∙ c.if-is_full.false)
