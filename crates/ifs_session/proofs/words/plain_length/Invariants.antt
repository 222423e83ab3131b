use Rattle.std.proofs.Common.{◌≡◌, take}
use Rattle.std.specs.List.{flat_map}
use Rattle.ifs_base.specs.Words.{quoted_byte}
use Rattle.ifs_session.proofs.words.plain_length.Given as goal

abbrev pub invariant-loop-index : goal.invariant-loop-index
invariant-loop-index l = flat_map quoted_byte (take l.index l.text) ≡ take l.index l.text
