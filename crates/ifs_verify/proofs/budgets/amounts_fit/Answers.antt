use Rattle.std.proofs.Common.{slice_index, sym, subst}
use Rattle.std.proofs.lemmas.Bool.{OnFalse_from}
use Rattle.ifs_verify.specs.declared.fault.At.TheVariants.{Head}
use Rattle.ifs_verify.specs.Bounds.{FitsEvents}
use Rattle.ifs_verify.specs.inner.Passes.{AmountIsOver, weight_of, limit_of, stated_of}
use Rattle.ifs_verify.proofs.Assembly.{amounts_unfit}
use Rattle.ifs_verify.proofs.budgets.amounts_fit.Goals as goal

pub returns-clause-over : goal.returns-clause-over
returns-clause-over c = OnFalse_from c.fit_events.result (AmountIsOver c.args.weight c.args.image.now Head) (λ over.
    amounts_unfit (weight_of c.args.weight) c.args.image.now (limit_of c.args.weight) (stated_of c.args.weight c.args.image.now) c.args.amounts.now.items
    c.requires.plain c.requires.amounts (λ fits.
    let held = c.fit_events.ensures.1 (subst (FitsEvents c.args.image.now (slice_index c.args.amounts.now.items)) (sym c.stated.ensures) fits) in cc))
