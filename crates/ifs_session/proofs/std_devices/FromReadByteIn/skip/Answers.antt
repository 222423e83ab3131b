use Rattle.std.proofs.Common.{refl}
use Rattle.ifs_session.proofs.Buffering.{skipped}
use Rattle.ifs_session.proofs.std_devices.FromReadByteIn.skip.Goals as goal

pub returns : goal.returns
returns g c =
    let s = c.args.self.now in
    let taken = skipped s.buffer s.start s.end c.args.count (g.R.Read.remaining s.reader) c.requires in
    (taken.0, taken.1, refl)
