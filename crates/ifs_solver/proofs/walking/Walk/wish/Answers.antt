-- Whether it is reached, whether it is the last one, and the answer.
use Rattle.std.proofs.Common.{refl, ap, ◌∙◌, ◌++◌, ◌∷◌, [], subst}
use Rattle.ifs_solver.specs.Asking.{meets_all, IsExtentOf}
use Rattle.ifs_solver.proofs.Lasting.{wished}
use Rattle.ifs_solver.proofs.Paying.{asked_paid}
use Rattle.ifs_solver.proofs.walking.Walk.wish.Goals as goal

pub returns : goal.returns
returns c =
    wished c.args.self.now c.ask_last.new.self _ c.args.rest c.in_ok-reached.reached c.in_ok-last.last
    (subst (λ xs. IsExtentOf c.args.self.now.scope (meets_all xs) c.in_ok-reached.reached) c.as_slice-context.ensures.value c.in_ok-reached.ensures.extent) c.in_ok-last.ensures.last
    (let h = c.in_ok-last.ensures.asked in record { back = record { scope = h.back.scope; others = h.back.others; context = h.back.context; last = h.back.last }; answers = h.answers }) (record { scope = refl; others = refl; context = refl; last = refl })
    (c.in_ok-push.ensures.items ∙ ap (λ answer. c.ask_last.new.self.answers.items ++ answer ∷ []) c.of_wish.ensures) _
    (asked_paid c.args.self.now.budget _ c.in_ok-reached.reached c.ask.ensures.spent c.in_ok-reached.ensures.undecided) c.in_ok-last.ensures.paid refl
