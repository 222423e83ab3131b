-- The routines keep their limits, and their cost is the budget.
use Rattle.std.proofs.Common.{◌∙◌, ◌+◌, ◌*◌, ◌-◌, ◌<◌, ap, sym, subst, take, drop, length, map, ◌++◌, arith}
use Rattle.ifs_gen.specs.PolicyImage.{shared_routine, routines_of, test_spec}
use Rattle.ifs_gen.specs.Sharing.{shared_coder}
use Rattle.ifs_gen.specs.inner.Costs.{event_cost_in}
use Rattle.ifs_gen.specs.inner.Measures.{capped}
use Rattle.ifs_gen.proofs.Copying.{states_fit}
use Rattle.ifs_policy.specs.declared.tables.Tables.{Tables}
use Rattle.ifs_gen.specs.PlainSizes.{test_count, parts_of}
use Rattle.ifs_gen.proofs.Assembled.{budgets_are, always_are, states_are}
use Rattle.ifs_gen.proofs.EventCosts.{written, always_fits, initial_within, cost_is, event_low, routines_are}
use Rattle.ifs_gen.proofs.generating.image_of.Goals as goal

pub put_states-requires-clause-fits : goal.put_states-requires-clause-fits
put_states-requires-clause-fits c =
    states_fit c.args.policy.now c.from-count.result c.states.result.now c.requires.code.each (c.from-count.ensures ∙ c.counts.ensures.tests) c.states.ensures.value

pub put_routines-requires-clause-fits : goal.put_routines-requires-clause-fits
put_routines-requires-clause-fits c =
    always_fits c.args.policy.now c.from-count.result c.always.result.now c.requires.code (c.from-count.ensures ∙ c.counts.ensures.tests) c.always.ensures

pub event_cost-cost-requires : goal.event_cost-cost-requires
event_cost-cost-requires c =
    let policy = c.args.policy.now in
    let shared = c.args.shared.now in
    let count_is = c.from-count.ensures ∙ c.counts.ensures.tests in
    let all_is = c.as_slice.ensures.value ∙ written shared c.from-count.result c.always.result.now c.states.result.now c.new-routines.result.items c.put_shared.new.routines.items
    c.put_routines.new.routines.items c.put_states.new.routines.items c.new-routines.ensures.items c.in_ok-put_shared.ensures c.in_ok-mask.ensures.routines c.in_ok-states.ensures.routines in
    subst (λ s. 2 + 2 * s.0 < length (take (length c.as_slice.result.now - c.len.result) (drop c.len.result c.as_slice.result.now))) (sym c.initial.ensures)
    (initial_within policy shared c.from-count.result c.len.result c.always.result.now c.states.result.now c.as_slice.result.now count_is c.len.ensures c.always.ensures c.states.ensures.value all_is c.counts.ensures.fits)

pub budgets_with-requires : goal.budgets_with-requires
budgets_with-requires c =
    let policy = c.args.policy.now in
    let shared = c.args.shared.now in
    let all = c.as_slice.result.now in
    let count_is = c.from-count.ensures ∙ c.counts.ensures.tests in
    let all_is = c.as_slice.ensures.value ∙ written shared c.from-count.result c.always.result.now c.states.result.now c.new-routines.result.items c.put_shared.new.routines.items
    c.put_routines.new.routines.items c.put_states.new.routines.items c.new-routines.ensures.items c.in_ok-put_shared.ensures c.in_ok-mask.ensures.routines c.in_ok-states.ensures.routines in
    let told = c.event_cost-cost.ensures ∙ ap (λ s. capped (event_cost_in shared (take (length all - c.len.result) (drop c.len.result all)) s.0)) c.initial.ensures in
    let cost = cost_is policy shared c.from-count.result c.len.result c.always.result.now c.states.result.now all count_is c.len.ensures c.always.ensures c.states.ensures.value all_is
    c.event_cost-cost.result c.requires.code told in
    let low = event_low policy shared c.requires.code.each in
    omega (arith, cost, low)

pub returns-clause-image : goal.returns-clause-image
returns-clause-image c =
    let policy = c.args.policy.now in
    let shared = c.args.shared.now in
    let all = c.as_slice.result.now in
    let count_is = c.from-count.ensures ∙ c.counts.ensures.tests in
    let all_is = c.as_slice.ensures.value ∙ written shared c.from-count.result c.always.result.now c.states.result.now c.new-routines.result.items c.put_shared.new.routines.items
    c.put_routines.new.routines.items c.put_states.new.routines.items c.new-routines.ensures.items c.in_ok-put_shared.ensures c.in_ok-mask.ensures.routines c.in_ok-states.ensures.routines in
    let told = c.event_cost-cost.ensures ∙ ap (λ s. capped (event_cost_in shared (take (length all - c.len.result) (drop c.len.result all)) s.0)) c.initial.ensures in
    let cost = cost_is policy shared c.from-count.result c.len.result c.always.result.now c.states.result.now all count_is c.len.ensures c.always.ensures c.states.ensures.value all_is
    c.event_cost-cost.result c.requires.code told in
    let shared_is = c.requires.shared in
    let routines = routines_are policy shared c.from-count.result c.len.result c.always.result.now c.states.result.now all count_is c.len.ensures c.always.ensures c.states.ensures.value all_is in
    λ i. record {
      version = 1;
      budgets = budgets_are policy shared shared_is c.args.bounds c.event_cost-cost.result c.budgets_with.result c.requires.bounds cost c.budgets_with.ensures i;
      initial = c.initial-2.ensures i;
      always = always_are policy shared shared_is c.len-2.result c.from-count.result c.in_ok-mask.mask c.always.result.now c.handlers_of.result c.len-2.ensures count_is c.always.ensures c.in_ok-mask.ensures.mask
          c.handlers_of.ensures i;
      interfaces = (c.in_ok-texts_of.ensures ∙ ap (λ (t : Tables). t.interfaces) c.tables-tables.ensures) i;
      tests = (c.in_ok-specs_of.ensures ∙ ap (λ (t : Tables). map test_spec t.tests) c.tables-tables.ensures) i;
      commands = (c.in_ok-texts_of-2.ensures ∙ ap (λ (t : Tables). t.commands) c.tables-tables.ensures) i;
      states = states_are policy shared shared_is c.from-count.result c.tables-tables.result.now c.states.result.now c.in_ok-states.states count_is c.tables-tables.ensures c.states.ensures.value
          c.in_ok-states.ensures.states i;
      routines = (c.new.ensures ∙ sym c.as_slice.ensures.value ∙ routines
          ∙ (λ j. map shared_routine (shared_is j) ++ routines_of (shared_coder (shared_is j)) (test_count policy) (parts_of policy))) i;
    }
