-- What the search finds from nothing.
use Rattle.ifs_solver.specs.FactSets.{Within, fact_set_of}
use Rattle.ifs_claims.proofs.Quiet.{found_there}
use Rattle.ifs_claims.proofs.running.ask_block.Goals as goal

pub returns : goal.returns
returns c =
    found_there (Within (fact_set_of c.args.set.now)) c.args.context.items c.args.ban.command c.args.block.now c.statements.result.now c.in_ok-extent.extent c.statements.ensures.value c.in_ok-extent.ensures.runs
