use Rattle.std.proofs.Common.{decimal}
use Rattle.ifs_asm.proofs.Puts.{number_line_text}
use Rattle.ifs_asm.proofs.printing.put_number_line.Goals as goal

pub returns : goal.returns
returns c = number_line_text _ _ _ _ _ (decimal c.args.number) c.in_ok-push_str.ensures.bytes c.in_ok-put_number.ensures c.in_ok-push_str-2.ensures.bytes
