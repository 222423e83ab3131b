use Rattle.ifs_verify.proofs.Worked.{calls_are_worked}
use Rattle.ifs_verify.proofs.laws.calls_are_worked.Goals as goal

pub returns : goal.returns
returns c = calls_are_worked
