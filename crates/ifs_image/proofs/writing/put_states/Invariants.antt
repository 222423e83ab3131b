use Rattle.std.proofs.Common.{◌≡◌, ◌++◌, take, All}
use Rattle.std.specs.List.{flat_map}
use Rattle.ifs_image.specs.Spelling.{state_bytes}
use Rattle.ifs_image.specs.Limits.{StateInRange}
use Rattle.ifs_image.proofs.writing.put_states.Given as goal

abbrev pub invariant-loop-state : goal.invariant-loop-state
invariant-loop-state l = record {
  bytes : l.out.items ≡ l.fn.out.items ++ flat_map state_bytes (take l.state-index l.states);
  in_range : All StateInRange (take l.state-index l.states);
}
