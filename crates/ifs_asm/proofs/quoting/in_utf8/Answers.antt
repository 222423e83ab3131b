use Rattle.std.proofs.Common.{ap, ◌∙◌}
use Rattle.std.proofs.lemmas.Str.{IsUtf8-string_bytes}
use Rattle.ifs_asm.proofs.Utf8.{is_text, is_no_text}
use Rattle.ifs_asm.proofs.quoting.in_utf8.Goals as goal

pub returns-in-Ok : goal.returns-in-Ok
returns-in-Ok c = is_text c.new.result c.args.bytes.items (rw c.new.ensures (IsUtf8-string_bytes c.in-Ok.text)) (c.new.ensures ∙ ap (λ v. v.items) c.in-Ok.ensures.ok)

pub returns : goal.returns
returns c = is_no_text c.args.bytes.items c.in-Err.ensures.succeeds
