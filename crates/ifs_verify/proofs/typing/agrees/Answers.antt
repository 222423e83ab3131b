use Rattle.std.proofs.lemmas.Bool.{OnFalse_from, OnFalse_at}
use Rattle.ifs_verify.specs.Refused.{Disagrees}
use Rattle.ifs_verify.proofs.Flow.{left_disagrees}
use Rattle.ifs_verify.proofs.typing.agrees.Goals as goal

pub returns-clause-disagree : goal.returns-clause-disagree
returns-clause-disagree c = OnFalse_from c.is_free_for.result (Disagrees c.args.here.now.image.now c.args.here.now.routine c.args.here.now.place) (λ no.
    let d = OnFalse_at no c.is_free_for.ensures.other in
    left_disagrees c.args.here.now.image.now c.args.here.now.routine c.args.here.now.place c.args.to c.args.here.now.op c.args.after.now d.0 c.args.brought.now.items
    c.requires.op c.requires.left c.requires.successor c.requires.later d.1 d.2)
