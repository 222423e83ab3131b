-- A test that is mentioned in one part alone.
use Rattle.std.proofs.Common.{inr, rules}
use Rattle.ifs_compare.proofs.reporting.report_active_test.Goals as goal

pub returns : goal.returns
returns c = λ lt. inr (c.requires.other (record { test = c.args.test; there = c.requires.there; differ = search rules }))
