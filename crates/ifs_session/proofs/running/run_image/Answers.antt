use Rattle.std.proofs.Common.{Err, refl}
use Rattle.ifs_session.specs.Runs.{Streams}
use Rattle.ifs_session.proofs.FirstLine.{run_served, image_refused, run_refused}
use Rattle.ifs_session.proofs.running.run_image.Goals as goal

pub returns-in-Err : goal.returns-in-Err
returns-in-Err g c = λ feed line.
    let before : Streams = record {
      feed = feed;
      sink = record { written = g.W.ByteOut.written c.args.writer.now; held = g.W.ByteOut.held c.args.writer.now; faults = g.W.ByteOut.faults c.args.writer.now };
    } in
    let after : Streams = record {
      feed = record { left = g.R.ByteIn.left c.args.reader.now; faults = g.R.ByteIn.faults c.args.reader.now };
      sink = record { written = g.W.ByteOut.written c.refuse-told.new.writer; held = g.W.ByteOut.held c.refuse-told.new.writer; faults = g.W.ByteOut.faults c.refuse-told.new.writer };
    } in
    run_refused c.in-Err.refusal c.refuse-told.result before after (image_refused c.args.bytes.now c.in-Err.refusal feed after.feed line c.in-Err.ensures) c.refuse-told.ensures

pub returns-in-Ok-simulate : goal.returns-in-Ok-simulate
returns-in-Ok-simulate g c = λ feed line. record {
  opening = c.in-Ok.core;
  ending = c.simulate.new.core;
  start = record {
    feed = record { left = g.R.ByteIn.left c.args.reader.now; faults = g.R.ByteIn.faults c.args.reader.now };
    sink = record { written = g.W.ByteOut.written c.args.writer.now; held = g.W.ByteOut.held c.args.writer.now; faults = g.W.ByteOut.faults c.args.writer.now };
  };
  bytes = c.args.bytes.now;
  line = line;
  opens = c.in-Ok.ensures;
  same_sink = refl;
  session = c.in-Ok-simulate.ensures.session;
  out = c.in-Ok-simulate.ensures.out;
}

pub returns : goal.returns
returns g c = λ feed line.
    let start : Streams = record {
      feed = record { left = g.R.ByteIn.left c.args.reader.now; faults = g.R.ByteIn.faults c.args.reader.now };
      sink = record { written = g.W.ByteOut.written c.args.writer.now; held = g.W.ByteOut.held c.args.writer.now; faults = g.W.ByteOut.faults c.args.writer.now };
    } in
    let before : Streams = record { feed = feed; sink = start.sink } in
    let after : Streams = record {
      feed = record { left = g.R.ByteIn.left c.simulate.new.reader; faults = g.R.ByteIn.faults c.simulate.new.reader };
      sink = record { written = g.W.ByteOut.written c.simulate.new.writer; held = g.W.ByteOut.held c.simulate.new.writer; faults = g.W.ByteOut.faults c.simulate.new.writer };
    } in
    run_served before after (Err c.in-Err-simulate.fault) (record {
      opening = c.in-Ok.core;
      ending = c.simulate.new.core;
      start = start;
      bytes = c.args.bytes.now;
      line = line;
      opens = c.in-Ok.ensures;
      same_sink = refl;
      session = c.in-Err-simulate.ensures.session;
      out = c.in-Err-simulate.ensures.out;
    })
