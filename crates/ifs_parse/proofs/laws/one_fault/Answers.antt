use Rattle.ifs_parse.proofs.OneFault.{one_fault, stops_unsaid}
use Rattle.ifs_parse.proofs.laws.one_fault.Goals as goal

pub returns-clause-one : goal.returns-clause-one
returns-clause-one c = one_fault

pub returns-clause-none : goal.returns-clause-none
returns-clause-none c = stops_unsaid
