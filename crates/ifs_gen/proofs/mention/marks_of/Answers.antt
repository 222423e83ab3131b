-- The tests that the block shows are marked.
use Rattle.std.proofs.Common.{Bool, List, refl, sym, ap, ◌∙◌}
use Rattle.std.specs.Prelude.{replicate, false}
use Rattle.ifs_policy.proofs.Visited.{block_adds}
use Rattle.ifs_gen.specs.inner.Marks.{with_marks}
use Rattle.ifs_gen.specs.declared.mention.Marks.{Marks}
use Rattle.ifs_gen.proofs.Marking.{marked_append}
use Rattle.ifs_gen.proofs.mention.marks_of.Goals as goal

pub returns : goal.returns
returns c =
    let make : List Bool → Marks = λ marks. record { are_set = marks } in
    ap (λ (m : Marks). m.are_set)
    (c.visit_block.ensures ∙ block_adds make _ with_marks (λ b. refl) (λ b xs ys. sym (marked_append b xs ys)) (λ b single. refl) (replicate 64 false) c.args.body.now)
