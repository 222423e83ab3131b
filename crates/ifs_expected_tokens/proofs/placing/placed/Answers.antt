use Rattle.ifs_expected_tokens.proofs.placing.placed.Goals as goal

pub returns-in-Definition-clause-placed : goal.returns-in-Definition-clause-placed
returns-in-Definition-clause-placed c = c.given.ensures.placed c.args.text.now c.args.line
