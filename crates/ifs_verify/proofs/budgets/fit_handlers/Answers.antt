use Rattle.std.proofs.Common.{◌≤◌, slice_index, subst}
use Rattle.ifs_image.specs.declared.parts.Handlers.{Handlers}
use Rattle.ifs_verify.proofs.budgets.fit_handlers.Goals as goal

pub returns-then-fit_part : goal.returns-then-fit_part
returns-then-fit_part c =
    let reach = slice_index c.args.reach.now.items in
    let always = subst (λ (handlers : Handlers). (reach handlers.init.0 ≤ c.args.stated) × (reach handlers.body.0 ≤ c.args.stated)) c.always.ensures (c.fit_part.ensures.0 c.if-fit_part.true) in (
      λ yes. record {
        always_init = always.0;
        always_body = always.1;
        init = λ k state is. (c.fit_states.ensures.0 yes k state is).0;
        body = λ k state is. (c.fit_states.ensures.0 yes k state is).1;
      },
      λ fits. c.fit_states.ensures.1 (λ k state is. (fits.init k state is, fits.body k state is)),
    )
