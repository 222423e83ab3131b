-- What is said behind the word that comes next.
use Rattle.ifs_claim_parse.specs.declared.keyword.Keyword.TheVariants as word
use Rattle.ifs_claim_parse.specs.Says.{Says}
use Rattle.ifs_claim_parse.specs.inner.Left.{Behind}
use Rattle.ifs_claim_parse.proofs.Left.{taken}
use Rattle.ifs_claim_parse.proofs.forms.read_rest.Goals as goal

pub returns-in-Within : goal.returns-in-Within
returns-in-Within c = taken (Behind word.Rest (Says c.args.line.tables.now)) c.in-Some.word word.Within c.args.tokens.now c.in-Some.rest.now c.in-Some.ensures c.in-Within.is c.rests_within.result c.rests_within.ensures
