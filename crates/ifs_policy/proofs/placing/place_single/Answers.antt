-- A place is at most the number of entries.
use Rattle.std.proofs.Common.{arith}
use Rattle.ifs_policy.specs.Tables.{test_eq}
use Rattle.ifs_policy.proofs.Places.{place_within}
use Rattle.ifs_policy.proofs.placing.place_single.Goals as goal

pub overflow_cast-place : goal.overflow_cast-place
overflow_cast-place c =
    let within = place_within (test_eq c.in_ok-entry-in-External.entry) c.args.tables.now.tests in omega arith
