use Rattle.ifs_policy.proofs.MentionedTests as tests
use Rattle.ifs_policy.proofs.laws.mentioned_are_mentions.Goals as goal

pub returns : goal.returns
returns c = tests.mentioned_are_mentions
