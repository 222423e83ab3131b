use Rattle.ifs_policy.proofs.MentionedTests.{held_exactly, held_yields, free_yields}
use Rattle.ifs_policy.proofs.laws.held_by_an_open_test.Goals as goal

pub returns : goal.returns
returns c = record { exactly = held_exactly; held = held_yields; free = free_yields }
