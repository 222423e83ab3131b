-- Both questions, and the answer.
use Rattle.std.proofs.Common.{refl, ap, ◌∙◌, ◌++◌, ◌∷◌, []}
use Rattle.ifs_solver.proofs.Adding.{tested}
use Rattle.ifs_solver.proofs.walking.Walk.test.Goals as goal

pub returns : goal.returns
returns c =
    tested c.args.self.now c.ask_with.new.self c.ask_with-2.new.self _ c.args.condition c.in_ok-truth.truth c.in_ok-falsehood.falsehood c.in_ok-truth.ensures.extent c.in_ok-truth.ensures.asked
    c.in_ok-falsehood.ensures.extent c.in_ok-falsehood.ensures.asked (record { scope = refl; others = refl; context = refl; last = refl })
    (c.in_ok-push.ensures.items ∙ ap (λ answer. c.ask_with-2.new.self.answers.items ++ answer ∷ []) c.of_condition.ensures) c.in_ok-truth.ensures.paid c.in_ok-falsehood.ensures.paid refl
