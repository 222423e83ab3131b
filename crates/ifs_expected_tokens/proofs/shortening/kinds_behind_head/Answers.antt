use Rattle.std.proofs.Common.{◌∙◌}
use Rattle.ifs_expected_tokens.proofs.Parted.{behind_head, front_of_head, rejoined}
use Rattle.ifs_expected_tokens.proofs.shortening.kinds_behind_head.Goals as goal

pub kinds_behind_both-requires-clause-front : goal.kinds_behind_both-requires-clause-front
kinds_behind_both-requires-clause-front c =
    front_of_head c.args.number c.args.state.now.items _ c.in_ok-parts.parts.items c.args.rest.now.items c.in_ok-parts.ensures.items c.in_ok-parts.ensures.tail c.requires.front

pub returns-clause-state : goal.returns-clause-state
returns-clause-state c =
    c.in_ok-append.ensures.items
    ∙ rejoined 3 c.args.state.now.items _ _ (c.in_ok-kinds.ensures.front ∙ c.in_ok-parts.ensures.items) c.in_ok-parts.ensures.tail

pub returns-clause-expected : goal.returns-clause-expected
returns-clause-expected c =
    behind_head c.args.number c.args.state.now.items _ c.args.rest.now.items c.in_ok-kinds.kinds.items c.requires.begins c.in_ok-parts.ensures.items c.in_ok-kinds.ensures.expected
