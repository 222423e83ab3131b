-- What is gone of a budget, over several questions.
use Rattle.std.proofs.Common.{◌∙◌, arith}
use Rattle.ifs_solver.specs.declared.searching.Budget.{Budget}
use Rattle.ifs_solver.specs.Budgets.{IsSpent}

pub spent_twice : (first mid last : Budget) → IsSpent first mid → IsSpent mid last → IsSpent first last
spent_twice first mid last h k =
    let a = h.left in
    let b = k.left in
    record { left = omega (arith, a, b); each = k.each ∙ h.each }
