-- The policy is placed by the tree.
use Rattle.std.proofs.Common.{ap, sym, ◌∙◌, map}
use Rattle.ifs_policy.specs.Mentions.{mentions_of}
use Rattle.ifs_policy.specs.Tables.{tables_of}
use Rattle.ifs_solver.specs.Places.{places_of}
use Rattle.ifs_lint.specs.inner.Marking.{kind_of_place, tree_kinds}
use Rattle.ifs_lint.proofs.Marking.{places_placed}
use Rattle.ifs_lint.proofs.marks.marks_of.Goals as goal

pub returns : goal.returns
returns c = λ policy resolves.
    c.in_ok-marks_in.ensures ∙ ap tree_kinds c.items-items.ensures.items ∙ places_placed (tables_of (mentions_of c.args.tree.now.items)) c.args.tree.now.items
    ∙ ap (λ p. map kind_of_place (places_of p)) (sym resolves.placed)
