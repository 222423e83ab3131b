use Rattle.std.proofs.Common.{arith}
use Rattle.ifs_session.proofs.Buffering.{filled_at_end}
use Rattle.ifs_session.proofs.std_devices.FromRead.fill.Goals as goal

pub returns-clause-end : goal.returns-clause-end
returns-clause-end g c = λ none.
    filled_at_end c.read_some.new.buffer c.in_ok-count.count _ none (omega (arith, c.in_ok-count.ensures.within, c.in_ok-count.ensures.length)) (omega (arith, c.in_ok-count.ensures.length)) c.in_ok-count.ensures.bytes.1
