-- One operand has its place.
use Rattle.ifs_solver.proofs.Adding.{own_walked}
use Rattle.ifs_solver.proofs.walking.Walk.own.Goals as goal

pub returns-in_ok-test : goal.returns-in_ok-test
returns-in_ok-test c = own_walked c.args.several c.args.operand c.args.self.now c.test.new.self (cc) c.in_ok-test.ensures
