-- Both lists together.
use Rattle.ifs_claims.proofs.Staying.{hit_asked}
use Rattle.ifs_claims.proofs.asking.ask_wish.Goals as goal

pub returns : goal.returns
returns c =
    hit_asked c.args.bodies.scope c.args.bodies.always c.args.bodies.own c.args.aim c.in_ok-by_own.by_own c.in_ok-by_either.by_either c.in_ok-by_own.ensures.extent c.in_ok-by_either.ensures
