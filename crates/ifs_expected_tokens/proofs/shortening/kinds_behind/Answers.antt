use Rattle.std.proofs.Common.{◌∙◌}
use Rattle.ifs_expected_tokens.proofs.Parted.{begun, finished, rejoined}
use Rattle.ifs_expected_tokens.proofs.shortening.kinds_behind.Goals as goal

pub kinds_behind_items-requires-clause-front : goal.kinds_behind_items-requires-clause-front
kinds_behind_items-requires-clause-front c =
    begun _ c.len-number.result c.args.front.now.items c.split_off.new.self.items c.in_ok-rest.rest.items c.requires (c.len-number.ensures ∙ c.args.front.now.ok.0)
    c.in_ok-rest.ensures.items c.in_ok-rest.ensures.tail

pub returns-clause-same : goal.returns-clause-same
returns-clause-same c =
    c.in_ok-append.ensures.items
    ∙ rejoined _ c.args.front.now.items _ _ (c.in_ok-kinds.ensures.items ∙ c.in_ok-rest.ensures.items) (c.in_ok-kinds.ensures.rest ∙ c.in_ok-rest.ensures.tail)

pub returns-clause-expected : goal.returns-clause-expected
returns-clause-expected c =
    finished _ c.len-number.result c.args.front.now.items c.split_off.new.self.items c.in_ok-rest.rest.items c.in_ok-kinds.kinds.items (c.len-number.ensures ∙ c.args.front.now.ok.0)
    c.in_ok-rest.ensures.items c.in_ok-rest.ensures.tail c.in_ok-kinds.ensures.expected
