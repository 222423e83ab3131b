use Rattle.std.proofs.Common.{◌++◌}
use Rattle.std.proofs.lemmas.Result.{IfOk-weaker}
use Rattle.ifs_expected_tokens.specs.Expected.{AreExpectedAs}
use Rattle.ifs_expected_tokens.proofs.Parted.{behind_items, endless_first, front_second}
use Rattle.ifs_expected_tokens.proofs.shortening.kinds_behind_items.Goals as goal

pub say_items-requires : goal.say_items-requires
say_items-requires c = endless_first c.args.number c.args.items.now.items c.args.rest.now.items c.requires.front

pub kinds_behind_parts-requires-clause-front : goal.kinds_behind_parts-requires-clause-front
kinds_behind_parts-requires-clause-front c = front_second c.args.number c.args.items.now.items c.args.rest.now.items c.requires.front

pub returns-then-is_whole-clause-expected : goal.returns-then-is_whole-clause-expected
returns-then-is_whole-clause-expected c =
    let n = c.args.number in
    let items = c.args.items.now.items in
    let rest = c.args.rest.now.items in
    IfOk-weaker c.kinds_behind_parts.result (λ kinds. AreExpectedAs n rest kinds.items) (λ kinds. AreExpectedAs n (items ++ rest) kinds.items)
    (λ kinds h. behind_items n items rest kinds.items (c.in_ok-is_whole.ensures.items c.if-is_whole.true) h) c.kinds_behind_parts.ensures.expected
