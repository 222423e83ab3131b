use Rattle.ifs_session.proofs.Spelling.{may_take, spelled_taken}
use Rattle.ifs_session.proofs.hexadecimal.take_at_hand.Goals as goal

pub skip-requires : goal.skip-requires
skip-requires g c = may_take c.in-Ok.count c.peek.result.now _ c.peek.ensures c.in-Ok.ensures.count_fits

pub returns : goal.returns
returns g c =
    let spells = c.in-Ok.ensures in
    (spells.more, spells.are_bytes, spells.appended, spells.within, spelled_taken c.in-Ok.count c.peek.result.now _ _ _ _ _ _ _ c.peek.ensures spells.count_fits spells.spelled c.skip.ensures)
