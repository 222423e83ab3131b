use Rattle.ifs_file_commands.proofs.Texts.{each, told_no_text}
use Rattle.ifs_file_commands.proofs.compiling.compile.Goals as goal

pub returns-in-Err-clause-told : goal.returns-in-Err-clause-told
returns-in-Err-clause-told c = each c.refused.result (λ answer told other. told_no_text _ _ _ c.in-Err.ensures.line told) c.refused.ensures.text
