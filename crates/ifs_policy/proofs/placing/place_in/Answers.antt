-- A place is at most the number of entries.
use Rattle.std.proofs.Common.{arith}
use Rattle.ifs_policy.specs.Tables.{text_eq}
use Rattle.ifs_policy.proofs.Places.{place_within}
use Rattle.ifs_policy.proofs.placing.place_in.Goals as goal

pub overflow_cast-result : goal.overflow_cast-result
overflow_cast-result c = let within = place_within (text_eq c.args.name.now.text) c.args.table.now in omega arith
