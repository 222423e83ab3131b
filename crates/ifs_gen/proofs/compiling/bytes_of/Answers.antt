use Rattle.std.proofs.Common.{refl}
use Rattle.ifs_gen.specs.declared.fault.GenFault.TheVariants.{Memory}
use Rattle.ifs_gen.proofs.compiling.bytes_of.Goals as goal

pub returns-in-Err-clause-refused : goal.returns-in-Err-clause-refused
returns-in-Err-clause-refused c = (c.in-Err.fault, c.from.ensures, c.in-Err.ensures.refused)

pub returns-clause-refused : goal.returns-clause-refused
returns-clause-refused c = (Memory, refl, λ other. absurd (other refl))
