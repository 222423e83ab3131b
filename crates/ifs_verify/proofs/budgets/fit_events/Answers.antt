use Rattle.std.proofs.Common.{◌+◌, slice_index, ap, arith}
use Rattle.ifs_image.specs.declared.parts.Handlers.{Handlers}
use Rattle.std.proofs.lemmas.Bool.{leb-true, le-leb}
use Rattle.ifs_verify.proofs.Assembly.{events_fit, sums_fit}
use Rattle.ifs_verify.proofs.budgets.fit_events.Goals as goal

pub returns-then-opening-stated : goal.returns-then-opening-stated
returns-then-opening-stated c =
    let image = c.args.image.now in
    let first = c.opening-opening.ensures.value in
    let body = ap (λ (handlers : Handlers). slice_index c.args.amounts.now.items handlers.body.0) c.always.ensures in (
      λ yes.
          let within = leb-true (c.bound_of-always.result + c.greatest-bodies.result + c.greatest-inits.result) c.args.stated yes in
          events_fit image (slice_index c.args.amounts.now.items) c.args.stated c.greatest-bodies.result c.greatest-inits.result first.0 first.1
          c.greatest-bodies.ensures.bound c.greatest-inits.ensures.bound (omega (arith, first.2)) (omega (arith, within, c.bound_of-always.ensures, body)),
      λ fits.
          let within = sums_fit image (slice_index c.args.amounts.now.items) c.args.stated c.greatest-bodies.result c.greatest-inits.result first.0 first.1
          c.greatest-bodies.ensures.least c.greatest-inits.ensures.least fits in
          le-leb (c.bound_of-always.result + c.greatest-bodies.result + c.greatest-inits.result) c.args.stated (omega (arith, within, c.bound_of-always.ensures, body)),
    )
