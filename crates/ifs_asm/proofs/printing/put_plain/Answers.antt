use Rattle.ifs_asm.proofs.Puts.{plain_text}
use Rattle.ifs_asm.proofs.printing.put_plain.Goals as goal

pub returns : goal.returns
returns c = plain_text _ _ _ c.args.truth _ c.truths.ensures c.in_ok-put_number.ensures c.in_ok-push_str.ensures.bytes
