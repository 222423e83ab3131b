use Rattle.std.proofs.Common.{sym, ◌∙◌}
use Rattle.std.proofs.lemmas.Bool.{cond-true}
use Rattle.ifs_asm.proofs.Shapes.{six, six_none}
use Rattle.ifs_asm.proofs.forms.handlers_in.Goals as goal

pub returns-then-are_keys : goal.returns-then-are_keys
returns-then-are_keys c =
    c.handlers_of.ensures ∙ sym (six (λ word. word.now) c.args.words.now _ _ _ _ _ _ c.in-len6.len_at_least c.in-len6.len_below ∙ cond-true _ _ _ (sym c.are_keys.ensures ∙ c.if-are_keys.true))

pub returns-else-are_keys : goal.returns-else-are_keys
returns-else-are_keys c = six_none (λ word. word.now) c.args.words.now _ _ _ c.in-len6.len_at_least c.in-len6.len_below (sym c.are_keys.ensures ∙ c.if-are_keys.false)
