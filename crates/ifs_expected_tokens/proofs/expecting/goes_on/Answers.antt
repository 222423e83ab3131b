use Rattle.std.proofs.Common.{◌+◌, sym, subst}
use Rattle.ifs_expected_tokens.specs.Expected.{CannotGoOn}
use Rattle.ifs_expected_tokens.specs.inner.Shorter.{IsFrontBelow}
use Rattle.ifs_expected_tokens.proofs.Fronts.{longer_front, none_goes_on}
use Rattle.ifs_expected_tokens.proofs.expecting.goes_on.Goals as goal

pub can_go_on-requires : goal.can_go_on-requires
can_go_on-requires c =
    subst (IsFrontBelow (c.args.token.number + 1)) (sym c.in_ok-push.ensures.items) (longer_front c.args.front.now.items c.args.token c.requires.front c.requires.inner)

pub returns-clause-cannot : goal.returns-clause-cannot
returns-clause-cannot c = λ no. none_goes_on c.args.front.now.items c.args.token (subst CannotGoOn c.in_ok-push.ensures.items (c.in_ok-goes_on.ensures.cannot no))
