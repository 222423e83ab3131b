use Rattle.std.proofs.Common.{subst, sym}
use Rattle.ifs_asm.specs.Spellings.{TextSpells}
use Rattle.ifs_asm.proofs.ImageLaws.{same_again, only_want}
use Rattle.ifs_asm.proofs.laws.reads_back.Goals as goal

pub returns-clause-same : goal.returns-clause-same
returns-clause-same c =
    same_again c.assemble.result c.as_str.result.now c.args.image.now (subst (λ text. TextSpells text c.args.image.now) (sym c.as_str.ensures.value) c.in_ok-text.ensures.spelled) c.assemble.ensures.spelled

pub returns-clause-only : goal.returns-clause-only
returns-clause-only c =
    only_want c.assemble.result c.as_str.result.now c.args.image.now (subst (λ text. TextSpells text c.args.image.now) (sym c.as_str.ensures.value) c.in_ok-text.ensures.spelled) c.assemble.ensures.refused
