use Rattle.ifs_expected_tokens.proofs.Parted.{expected_again}
use Rattle.ifs_expected_tokens.proofs.shortening.kinds_behind_both.Goals as goal

pub returns-clause-expected : goal.returns-clause-expected
returns-clause-expected c = expected_again c.args.number _ _ c.in_ok-kinds.kinds.items c.in_ok-append.ensures.items c.in_ok-kinds.ensures.expected
