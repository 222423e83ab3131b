-- A node of several operands is a chain of its sign.
use Rattle.std.proofs.Common.{ap, sym, ◌∙◌}
use Rattle.ifs_parse.specs.Views.{condition_of}
use Rattle.ifs_solver.specs.Places.{is_chain}
use Rattle.ifs_solver.proofs.Adding.{all_is_chain, any_is_chain}
use Rattle.ifs_solver.proofs.walking.is_chain.Goals as goal

pub returns-in-All : goal.returns-in-All
returns-in-All c =
    sym (ap (is_chain c.args.deciding) (c.node.ensures.value ∙ ap condition_of c.in-All.is) ∙ all_is_chain c.args.deciding c.in-All.field-0.value c.in-All.field-1.value c.in-All.field-2.items)

pub returns-in-Any : goal.returns-in-Any
returns-in-Any c =
    sym (ap (is_chain c.args.deciding) (c.node.ensures.value ∙ ap condition_of c.in-Any.is) ∙ any_is_chain c.args.deciding c.in-Any.field-0.value c.in-Any.field-1.value c.in-Any.field-2.items)
