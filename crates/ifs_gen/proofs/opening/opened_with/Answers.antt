use Rattle.std.proofs.lemmas.List.{length-map}
use Rattle.ifs_core.specs.Carrying.{known_by, link_named}
use Rattle.ifs_gen.proofs.CoreOfText as core_of_text
use Rattle.ifs_gen.proofs.opening.opened_with.Goals as goal

pub returns-clause-runs : goal.returns-clause-runs
returns-clause-runs c = λ text defs bytes is spelled.
    core_of_text.runs_text text defs bytes is c.args.next spelled c.open_with-core.result (known_by c.args.carried c.args.next) c.open_with-core.ensures.image
    c.image.ensures.kept (rw c.open_with-core.ensures.image (length-map c.args.next.interfaces (link_named c.args.carried.links))) c.open_with-core.ensures.state
