-- What is said behind the word that comes next.
use Rattle.ifs_claim_parse.specs.declared.keyword.Keyword.TheVariants as word
use Rattle.ifs_claim_parse.specs.Says.{Says}
use Rattle.ifs_claim_parse.proofs.Left.{taken}
use Rattle.ifs_claim_parse.proofs.forms.read_claim.Goals as goal

pub returns-in-Never : goal.returns-in-Never
returns-in-Never c = taken (Says c.args.line.tables.now) c.in-Some.word word.Never c.args.tokens.now c.in-Some.rest.now c.in-Some.ensures c.in-Never.is c.read_never.result c.read_never.ensures

pub returns-in-Rest : goal.returns-in-Rest
returns-in-Rest c = taken (Says c.args.line.tables.now) c.in-Some.word word.Rest c.args.tokens.now c.in-Some.rest.now c.in-Some.ensures c.in-Rest.is c.read_rest.result c.read_rest.ensures

pub returns-in-At : goal.returns-in-At
returns-in-At c = taken (Says c.args.line.tables.now) c.in-Some.word word.At c.args.tokens.now c.in-Some.rest.now c.in-Some.ensures c.in-At.is c.never_in.result c.never_in.ensures

pub returns-in-May : goal.returns-in-May
returns-in-May c = taken (Says c.args.line.tables.now) c.in-Some.word word.May c.args.tokens.now c.in-Some.rest.now c.in-Some.ensures c.in-May.is c.may_flap.result c.may_flap.ensures
