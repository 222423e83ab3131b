use Rattle.std.proofs.Common.{◌∙◌}
use Rattle.ifs_expected_tokens.proofs.Parted.{expected_again, rejoined}
use Rattle.ifs_expected_tokens.proofs.shortening.kinds_behind_parts.Goals as goal

pub returns-clause-same : goal.returns-clause-same
returns-clause-same c =
    c.in_ok-append.ensures.items
    ∙ rejoined _ c.args.tokens.now.items _ _ (c.in_ok-kinds.ensures.state ∙ c.in_ok-rest.ensures.items) (c.in_ok-kinds.ensures.rest ∙ c.in_ok-rest.ensures.tail)

pub returns-clause-expected : goal.returns-clause-expected
returns-clause-expected c =
    expected_again c.args.number _ _ c.in_ok-kinds.kinds.items (rejoined _ c.args.tokens.now.items _ _ c.in_ok-rest.ensures.items c.in_ok-rest.ensures.tail) c.in_ok-kinds.ensures.expected
