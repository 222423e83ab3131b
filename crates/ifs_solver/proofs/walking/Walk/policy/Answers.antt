-- The always part, before any state's body, and then the states.
use Rattle.std.specs.List.{flat_map}
use Rattle.ifs_solver.specs.Places.{bodies_after_always, nothing_after}
use Rattle.ifs_solver.specs.inner.Walking.{part_places_at}
use Rattle.ifs_solver.proofs.Blocks.{adds_then}
use Rattle.ifs_solver.proofs.walking.Walk.policy.Goals as goal

pub returns-clause-answers : goal.returns-clause-answers
returns-clause-answers c =
    let back = c.in_ok-part.ensures.back in
    adds_then (λ here later. part_places_at here later (bodies_after_always c.args.states.now) c.args.always.now) (λ here later. flat_map (part_places_at here later nothing_after) c.args.states.now) c.args.self.now c.part.new.self
    c.parts.new.self c.in_ok-part.ensures.answers (record { scope_is = back.scope; context_is = back.context; last_is = back.last }) c.in_ok-parts.ensures.answers

pub returns-clause-paid : goal.returns-clause-paid
returns-clause-paid c = λ given h.
    let after = c.in_ok-part.ensures.paid given (record { spent = h.spent; undecided = h.undecided }) in
    c.in_ok-parts.ensures.paid given (record { spent = after.spent; undecided = after.undecided })
