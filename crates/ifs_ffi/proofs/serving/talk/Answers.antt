use Rattle.std.proofs.Common.{Some, ap, sym, ◌∙◌}
use Rattle.ifs_ffi.proofs.Talking.{talked}
use Rattle.ifs_ffi.proofs.serving.talk.Goals as goal

pub returns-in-Ok-clause-served : goal.returns-in-Ok-clause-served
returns-in-Ok-clause-served c = λ good.
    talked c.args.core.now c.args.requests.now _ c.new-reader.result c.new-writer.result c.in-Ok._summary
    (record {
      core = c.simulate.new.core;
      left = Some c.simulate.new.reader.left;
      written = Some c.simulate.new.writer.written;
      read_faults = Some c.simulate.new.reader.faults;
      write_faults = Some c.simulate.new.writer.faults;
    })
    c.new-reader.ensures c.new-writer.ensures c.in-Ok.ensures.session (ap Some (sym (c.fill.ensures.put good ∙ c.written.ensures)))
