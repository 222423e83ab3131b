use Rattle.ifs_verify.specs.Bounds.{cost_of, commands_of}
use Rattle.ifs_verify.specs.inner.Passes.{PlainRulesHold}
use Rattle.ifs_verify.proofs.Assembly.{typed, stack_fits, frames_fit, amounts_fit}
use Rattle.ifs_verify.proofs.verifying.check.Goals as goal

pub returns-clause-accepted : goal.returns-clause-accepted
returns-clause-accepted c =
    let image = c.args.image.now in
    let heights = c.in_ok-heights.heights.items in
    let found = c.in_ok-bounds.ensures.found in
    let fits = c.in_ok-check_budgets.ensures in
    let plain : PlainRulesHold c.args.image.now = record {
      sized = c.requires;
      indexes = c.in_ok-check_indexes.ensures.kept;
      jumps = c.in_ok-check_jumps.ensures.kept;
      ends = c.in_ok-check_ends.ensures.kept;
      calls = c.in_ok-check_calls.ensures.kept;
      reached = c.in_ok-check_reached.ensures.kept;
    } in
    record {
      indexes = plain.indexes;
      handlers = c.in_ok-check_handlers.ensures.kept;
      jumps = plain.jumps;
      ends = plain.ends;
      calls = plain.calls;
      reached = plain.reached;
      typed = typed c.args.image.now c.in_ok-heights.heights.items c.in_ok-heights.ensures.found;
      stack = stack_fits c.args.image.now c.in_ok-heights.heights.items c.in_ok-heights.ensures.found found.heights_low fits.stack;
      frames = frames_fit c.args.image.now c.in_ok-bounds.bounds.depths.items plain found.depths fits.frames;
      cost = amounts_fit cost_of c.args.image.now 100000 c.args.image.now.budgets.cost c.in_ok-bounds.bounds.costs.items plain found.costs fits.cost;
      commands = amounts_fit commands_of c.args.image.now 64 c.args.image.now.budgets.commands c.in_ok-bounds.bounds.commands.items plain found.commands fits.commands;
    }
