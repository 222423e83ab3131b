-- What is said behind the word that comes next.
use Rattle.ifs_claim_parse.specs.declared.keyword.Keyword.TheVariants as word
use Rattle.ifs_claim_parse.specs.Says.{Says}
use Rattle.ifs_claim_parse.specs.inner.Left.{Behind}
use Rattle.ifs_claim_parse.proofs.Left.{taken}
use Rattle.ifs_claim_parse.proofs.forms.read_never.Goals as goal

pub returns-in-Rest : goal.returns-in-Rest
returns-in-Rest c = taken (Behind word.Never (Says c.args.line.tables.now)) c.in-Some.word word.Rest c.args.tokens.now c.in-Some.rest.now c.in-Some.ensures c.in-Rest.is c.never_rests.result c.never_rests.ensures

pub returns-in-From : goal.returns-in-From
returns-in-From c = taken (Behind word.Never (Says c.args.line.tables.now)) c.in-Some.word word.From c.args.tokens.now c.in-Some.rest.now c.in-Some.ensures c.in-From.is c.never_from.result c.never_from.ensures

pub returns-in-Enter : goal.returns-in-Enter
returns-in-Enter c = taken (Behind word.Never (Says c.args.line.tables.now)) c.in-Some.word word.Enter c.args.tokens.now c.in-Some.rest.now c.in-Some.ensures c.in-Enter.is c.never_enters.result c.never_enters.ensures

pub returns-in-Run : goal.returns-in-Run
returns-in-Run c = taken (Behind word.Never (Says c.args.line.tables.now)) c.in-Some.word word.Run c.args.tokens.now c.in-Some.rest.now c.in-Some.ensures c.in-Run.is c.never_runs.result c.never_runs.ensures
