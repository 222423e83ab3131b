use Rattle.std.proofs.Common.{rules}
use Rattle.ifs_file_commands.proofs.Texts.{each, told_no_text, told_no_policy}
use Rattle.ifs_file_commands.proofs.checking.show.Goals as goal

pub returns-in-Err-clause-told : goal.returns-in-Err-clause-told
returns-in-Err-clause-told c = each c.refused.result (λ answer told other. told_no_text _ _ _ c.in-Err.ensures.line told) c.refused.ensures.text

pub returns-in-Err-policy_of-clause-told : goal.returns-in-Err-policy_of-clause-told
returns-in-Err-policy_of-clause-told c =
    each c.refused_policy.result
    (λ answer told other. told_no_policy _ _ _ _ c.in-Err-policy_of.fault c.in-Ok.ensures.text.0 c.in-Err-policy_of.ensures.refused (search rules) told)
    c.refused_policy.ensures.text
