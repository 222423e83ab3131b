use Rattle.ifs_image.proofs.Texts.{text_is, no_text}
use Rattle.ifs_image.proofs.fields.text_in.Goals as goal

pub returns-in-Ok-2-clause-test : goal.returns-in-Ok-2-clause-test
returns-in-Ok-2-clause-test c = text_is c.args.bytes.now c.contains.result c.in-Ok.ensures.cases.1 c.contains.ensures.value c.if-contains.false

pub returns-in-Err-clause-test : goal.returns-in-Err-clause-test
returns-in-Err-clause-test c = no_text c.args.bytes.now c.in-Err.ensures.cases.0
