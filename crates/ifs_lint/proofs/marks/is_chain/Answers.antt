-- A node of several operands is a chain of its sign.
use Rattle.std.proofs.Common.{ap, sym, ◌∙◌}
use Rattle.ifs_parse.specs.Views.{condition_of}
use Rattle.ifs_lint.specs.inner.Marking.{is_chain}
use Rattle.ifs_lint.proofs.Marking.{and_chain, or_chain}
use Rattle.ifs_lint.proofs.marks.is_chain.Goals as goal

pub returns-in-All : goal.returns-in-All
returns-in-All g c =
    sym (ap (is_chain c.args.deciding) (c.node.ensures.value ∙ ap condition_of c.in-All.is) ∙ and_chain c.args.deciding c.in-All.field-0.value c.in-All.field-1.value c.in-All.field-2.items)

pub returns-in-Any : goal.returns-in-Any
returns-in-Any g c =
    sym (ap (is_chain c.args.deciding) (c.node.ensures.value ∙ ap condition_of c.in-Any.is) ∙ or_chain c.args.deciding c.in-Any.field-0.value c.in-Any.field-1.value c.in-Any.field-2.items)
