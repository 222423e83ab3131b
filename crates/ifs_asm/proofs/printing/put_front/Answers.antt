use Rattle.ifs_asm.proofs.Puts.{front_text}
use Rattle.ifs_asm.proofs.printing.put_front.Goals as goal

pub returns-clause-bytes : goal.returns-clause-bytes
returns-clause-bytes c =
    front_text c.args.parts.now _ _ _ _ _ _ _ _
    (rw c.of.ensures at c.in_ok-put_version.ensures)
    (rw c.from.ensures at c.in_ok-put_number_line.ensures)
    (rw c.from-2.ensures at c.in_ok-put_number_line-2.ensures)
    (rw c.from-3.ensures at c.in_ok-put_number_line-3.ensures)
    (rw c.from-4.ensures at c.in_ok-put_number_line-4.ensures)
    c.in_ok-put_start.ensures.bytes
    c.in_ok-put_always.ensures.bytes
