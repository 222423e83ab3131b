use Rattle.std.proofs.Common.{ap, subst, ◌∙◌}
use Rattle.std.specs.List.{AllByRecursion}
use Rattle.ifs_parse.specs.Trees.{block_size}
use Rattle.ifs_parse.specs.Views.{block_of, InnerBelow}
use Rattle.ifs_parse.specs.inner.Falls.{blocks_are_below}
use Rattle.ifs_parse.proofs.block.Block.statements.Goals as goal

pub returns-clause-smaller : goal.returns-clause-smaller
returns-clause-smaller g c =
    let statements = c.as_slice.result.now in
    subst (λ b. AllByRecursion (InnerBelow (block_size b)) statements) (ap block_of c.as_slice.ensures.value ∙ c.self.view_is) (blocks_are_below statements)
