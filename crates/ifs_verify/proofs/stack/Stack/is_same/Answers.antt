use Rattle.std.proofs.Common.{take, ap, sym, ◌∙◌, reverse}
use Rattle.std.proofs.lemmas.Slice.Eq.{slice_eq-Decides}
use Rattle.ifs_verify.proofs.KindLists.{kind_eq-Decides, reverse_same}
use Rattle.ifs_verify.proofs.stack.Stack.is_same.Goals as goal

pub returns : goal.returns
returns c =
    let same = slice_eq-Decides kind_eq-Decides (take c.self.inside.len c.self.inside.kinds) (take c.other.inside.len c.other.inside.kinds) c.eq.result c.eq.ensures in (
      λ yes. sym c.self.view_is ∙ ap reverse (same.0 yes) ∙ c.other.view_is,
      λ e. same.1 (reverse_same (take c.self.inside.len c.self.inside.kinds) (take c.other.inside.len c.other.inside.kinds) (c.self.view_is ∙ e ∙ sym c.other.view_is)),
    )
