use Rattle.std.proofs.Common.{take, ap, sym, ◌∙◌, reverse}
use Rattle.std.proofs.lemmas.Slice.Eq.{slice_eq-Decides}
use Rattle.ifs_verify.proofs.KindLists.{kind_eq-Decides, reverse_same}
use Rattle.ifs_verify.proofs.stack.Stack.is_of.Goals as goal

pub returns : goal.returns
returns c =
    let same = slice_eq-Decides kind_eq-Decides (take c.self.inside.len c.self.inside.kinds) c.args.kinds.now c.eq.result c.eq.ensures in (
      λ yes. sym c.self.view_is ∙ ap reverse (same.0 yes),
      λ e. same.1 (reverse_same (take c.self.inside.len c.self.inside.kinds) c.args.kinds.now (c.self.view_is ∙ e)),
    )
