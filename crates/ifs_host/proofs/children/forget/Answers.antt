use Rattle.std.proofs.Common.{rules, ◌==◌, not}
use Rattle.arrayvec.proofs.ArrayVecLemmas.{filter-from_retain}
use Rattle.ifs_host.proofs.children.forget.Goals as goal

pub returns : goal.returns
returns c =
    filter-from_retain _ (λ it. not (it.test.0 == c.args.start.test.0)) _ (λ x b f' y called. search rules) _ _
    c.retain.ensures.filtered
