use Rattle.std.proofs.Common.{◌+◌, ◌-◌, arith}
use Rattle.ifs_verify.proofs.amounts.amount_at.Goals as goal

pub overflow_add-result : goal.overflow_add-result
overflow_add-result c = omega (arith, c.weigh.ensures.low, c.called.ensures.low, c.onward.ensures.least 200000000 (λ to is. c.requires.room to))

pub returns-clause-least : goal.returns-clause-least
returns-clause-least c = λ bound holds.
    let own = c.weigh.ensures.value in
    let callee = c.called.ensures.value in
    let rest = c.onward.ensures.least (bound - (c.weigh.result + c.called.result)) (λ to is. omega (arith, own, callee, holds.own, holds.onward to is)) in
    omega (arith, own, callee, rest, holds.own)
