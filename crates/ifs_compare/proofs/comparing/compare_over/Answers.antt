-- The blocks have their numbers.
use Rattle.std.proofs.Common.{subst, arith}
use Rattle.ifs_compare.specs.Differing.{blocks_of}
use Rattle.ifs_compare.specs.inner.Comparing.{scope_in}
use Rattle.ifs_compare.specs.inner.Telling.{AreTold}
use Rattle.ifs_compare.proofs.Named.{over_blocks}
use Rattle.ifs_compare.proofs.comparing.compare_over.Goals as goal

pub returns-clause-told : goal.returns-clause-told
returns-clause-told c =
    let from = c.args.numbering.from.now in
    let to = c.args.numbering.to.now in
    let old = c.args.old.now in
    subst (λ b. AreTold (scope_in to) (blocks_of old) b c.args.effort.now c.compare_renumbered.new.effort c.in_ok-alike.alike c.args.found.now c.compare_renumbered.new.found)
    (over_blocks c.in_ok-renumbered.renumbered from to c.args.new.now c.in_ok-renumbered.ensures) c.in_ok-alike.ensures.told
