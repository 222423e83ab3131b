use Rattle.std.proofs.Common.{◌≡◌, take}
use Rattle.ifs_core.specs.Event.{kept_values}
use Rattle.ifs_core.proofs.event.values_after_entry.Given as goal

abbrev pub invariant-loop-test : goal.invariant-loop-test
invariant-loop-test l = l.kept.items ≡ kept_values l.always (take l.test l.values)
