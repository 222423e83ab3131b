use Rattle.std.proofs.Common.{arith, sym}
use Rattle.std.proofs.lemmas.List.{length-reverse, length-take}
use Rattle.ifs_verify.proofs.stack.Stack.len.Goals as goal

pub returns-clause-value : goal.returns-clause-value
returns-clause-value c = rw (sym c.self.view_is) (simp (length-reverse, length-take) (omega (arith, c.self.invariant.0, c.self.invariant.1)))
