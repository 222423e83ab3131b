-- What is known of one number is so of others.
use Rattle.std.proofs.Common.{arith}
use Rattle.ifs_claims.proofs.Walks.{known_more, known_never}
use Rattle.ifs_claims.proofs.known_changes.KnownChanges.told.Goals as goal

pub returns-clause-told : goal.returns-clause-told
returns-clause-told c = λ policy are. known_never policy c.args.self c.in-Some.least c.args.most are c.in-Some.is (omega (arith, c.if-least-most.true))

pub returns-2-clause-told : goal.returns-2-clause-told
returns-2-clause-told c = λ policy are. known_more policy c.args.self c.in-Some-more.greatest c.args.most are c.in-Some-more.is (omega (arith, c.if-most-greatest.true))
