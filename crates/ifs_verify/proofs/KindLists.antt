-- Equality of lists of kinds.
use Rattle.std.proofs.Common.{◌≡◌, Decides, List, reverse}
use Rattle.std.proofs.Common.{rules, ap, sym, ◌∙◌}
use Rattle.std.proofs.lemmas.List.{reverse-reverse}
use Rattle.ifs_base.specs.declared.op.Kind.{Kind}
use Rattle.ifs_base.specs.declared.op.Kind.TheVariants.{Truth, Command, StateName}
use Rattle.ifs_base.specs.contracts.op.KindPartialEq.TheImpl as kinds

pub kind_eq-Decides : (a b : Kind) → Decides (kinds.eq-value.it a b) (a ≡ b)
kind_eq-Decides Truth Truth = search rules
kind_eq-Decides Command Command = search rules
kind_eq-Decides StateName StateName = search rules
kind_eq-Decides a b = search rules

pub reverse_same : (xs ys : List Kind) → reverse xs ≡ reverse ys → xs ≡ ys
reverse_same xs ys e = sym (reverse-reverse xs) ∙ ap reverse e ∙ reverse-reverse ys
