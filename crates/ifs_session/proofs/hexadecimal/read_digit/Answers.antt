use Rattle.ifs_session.proofs.HexReading.{at_the_end, at_a_newline}
use Rattle.ifs_session.proofs.hexadecimal.read_digit.Goals as goal

pub returns-in_default-next : goal.returns-in_default-next
returns-in_default-next g c = at_the_end (rw c.in_default-next.is at c.in-Ok.ensures).gives

pub returns-then-byte-eq10 : goal.returns-then-byte-eq10
returns-then-byte-eq10 g c = at_a_newline c.in-Some.byte (rw c.in-Some.is at c.in-Ok.ensures).gives c.if-byte-eq10.true
