use Rattle.std.proofs.Common.{refl}
use Rattle.std.proofs.lemmas.List.{take_rest}
use Rattle.ifs_asm.specs.inner.Words.{goes_on}
use Rattle.ifs_asm.proofs.Finds.{skipped, run_ends}
use Rattle.ifs_asm.proofs.words.behind_run.Goals as goal

pub returns-clause-value : goal.returns-clause-value
returns-clause-value c = skipped c.args.bytes.now _ c.run_in_quotes.result c.run_in_quotes.ensures.value refl

pub returns-clause-whole : goal.returns-clause-whole
returns-clause-whole c = run_ends goes_on c.args.bytes.now _ c.run_in_quotes.result c.run_in_quotes.ensures.value (take_rest c.args.bytes.now c.run_in_quotes.result)
