use Rattle.std.proofs.Common.{◌-◌, length, None}
use Rattle.ifs_session.specs.Hexadecimal.{ReadsBeginning}
use Rattle.ifs_session.proofs.hexadecimal.read_line.Given as goal

abbrev pub invariant-digits : goal.invariant-digits
invariant-digits g l = ReadsBeginning l.bytes.items None
    (record { left = g.R.ByteIn.left l.fn.reader; faults = g.R.ByteIn.faults l.fn.reader })
    (record { left = g.R.ByteIn.left l.reader; faults = g.R.ByteIn.faults l.reader })

abbrev pub decreases-digits : goal.decreases-digits
decreases-digits g l = 65536 - length l.bytes.items
