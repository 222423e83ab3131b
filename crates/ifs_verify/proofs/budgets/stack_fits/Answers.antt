use Rattle.std.proofs.Common.{slice_index, subst, sym}
use Rattle.ifs_image.specs.declared.parts.Budgets.{Budgets}
use Rattle.ifs_verify.specs.Bounds.{FitsHandlers}
use Rattle.std.proofs.lemmas.Bool.{OnFalse_from}
use Rattle.ifs_verify.specs.declared.fault.At.TheVariants.{Head}
use Rattle.ifs_verify.specs.Refused.{StackIsOver}
use Rattle.ifs_verify.proofs.Assembly.{stack_unfit}
use Rattle.ifs_verify.proofs.budgets.stack_fits.Goals as goal

pub returns-clause-over : goal.returns-clause-over
returns-clause-over c = OnFalse_from c.fit_handlers.result (StackIsOver c.args.image.now Head) (λ over.
    stack_unfit c.args.image.now c.args.heights.now.items c.requires.plain.indexes c.requires.heights c.requires.low (λ fits. let held = c.fit_handlers.ensures.1 (subst (λ (b : Budgets). FitsHandlers c.args.image.now (slice_index c.args.heights.now.items) b.stack) (sym c.budgets.ensures) fits) in cc))
