use Rattle.std.proofs.Common.{refl, ap, ◌∙◌, ◌++◌, ◌∷◌, [], subst}
use Rattle.ifs_solver.specs.Asking.{meets_all, IsExtentOf}
use Rattle.ifs_solver.proofs.Adding.{commanded}
use Rattle.ifs_solver.proofs.Paying.{asked_paid}
use Rattle.ifs_solver.proofs.walking.Walk.command.Goals as goal

pub returns : goal.returns
returns c =
    commanded c.args.self.now _ c.in_ok-reached.reached
    (subst (λ xs. IsExtentOf c.args.self.now.scope (meets_all xs) c.in_ok-reached.reached) c.as_slice-context.ensures.value c.in_ok-reached.ensures.extent)
    (record { scope = refl; others = refl; context = refl; last = refl }) (c.in_ok-push.ensures.items ∙ ap (λ answer. c.args.self.now.answers.items ++ answer ∷ []) c.of_command.ensures)
    (asked_paid c.args.self.now.budget _ c.in_ok-reached.reached c.ask.ensures.spent c.in_ok-reached.ensures.undecided)
