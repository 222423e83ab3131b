use Rattle.ifs_asm.proofs.Puts.{signature_text}
use Rattle.ifs_asm.proofs.printing.put_signature.Goals as goal

pub returns : goal.returns
returns c = signature_text _ _ _ _ _ _ _ _ c.in_ok-push_str.ensures.bytes c.in_ok-put_kinds.ensures c.in_ok-push_str-2.ensures.bytes c.in_ok-put_kinds-2.ensures c.in_ok-push_str-3.ensures.bytes
