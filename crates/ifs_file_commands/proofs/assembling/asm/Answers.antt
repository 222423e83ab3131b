use Rattle.ifs_file_commands.proofs.Texts.{each, told_no_line}
use Rattle.ifs_file_commands.proofs.assembling.asm.Goals as goal

pub returns-in-Err-clause-told : goal.returns-in-Err-clause-told
returns-in-Err-clause-told c = each c.refused.result (λ answer told other. told_no_line _ _ _ c.in-Err.ensures.line (rw c.unknown.ensures at told)) c.refused.ensures.text
