-- A copy has the range of the answer.
use Rattle.ifs_compare.proofs.Apart.{same_within}
use Rattle.ifs_compare.proofs.parts.differing.Goals as goal

pub returns-in_ok-first-clause-within : goal.returns-in_ok-first-clause-within
returns-in_ok-first-clause-within c = same_within c.args.scope c.args.always.now c.in_ok-first.first c.requires.outside c.in_ok-first.ensures

pub returns-in_ok-first-2-clause-within : goal.returns-in_ok-first-2-clause-within
returns-in_ok-first-2-clause-within c = same_within c.args.scope c.args.body.now c.in_ok-first-2.first c.requires.inside c.in_ok-first-2.ensures
