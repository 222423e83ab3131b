use Rattle.ifs_asm.proofs.Puts.{routine_text}
use Rattle.ifs_asm.proofs.printing.put_routine.Goals as goal

pub returns-clause-bytes : goal.returns-clause-bytes
returns-clause-bytes c = routine_text c.args.version _ _ _ c.args.routine.now _ _ c.as_slice.ensures.value c.as_slice-2.ensures.value c.in_ok-put_head.ensures (rw c.as_slice-3.ensures at c.in_ok-put_each.ensures.bytes)
