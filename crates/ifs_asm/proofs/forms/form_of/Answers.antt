use Rattle.std.proofs.Common.{◌≡◌, IfOk, subst}
use Rattle.ifs_asm.specs.inner.Forms.{formed}
use Rattle.ifs_asm.proofs.Shapes.{long}
use Rattle.ifs_asm.proofs.forms.form_of.Goals as goal

pub returns-in_default : goal.returns-in_default
returns-in_default c = subst (λ line. IfOk c.long_line.result (λ form. formed form ≡ line)) (long (λ word. word.now) c.args.words.now _ c.in_default.len_at_least) c.long_line.ensures
