use Rattle.ifs_session.specs.Device.{SkipGives}
use Rattle.ifs_session.proofs.device.ByteIn.skip.Given as goal

abbrev pub invariant-loop : goal.invariant-loop
invariant-loop g l =
    let reader = g.Self.ByteIn in
    SkipGives l.counter (reader.ready l.fn.self) (reader.ready l.self) (reader.left l.fn.self) (reader.left l.self) (reader.faults l.fn.self) (reader.faults l.self)
