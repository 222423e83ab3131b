-- The tables are those of both policies.
use Rattle.ifs_compare.proofs.Named.{named_told}
use Rattle.ifs_compare.proofs.comparing.compare_named.Goals as goal

pub returns-clause-told : goal.returns-clause-told
returns-clause-told c = named_told c.args.old.now c.args.new.now _ _ c.args.effort.now c.compare_over.new.effort c.in_ok-alike.alike c.args.found.now c.compare_over.new.found c.in_ok-alike.ensures.told (cc) (cc)
