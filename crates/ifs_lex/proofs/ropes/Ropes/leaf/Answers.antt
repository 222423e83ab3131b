use Rattle.std.proofs.Common.{arith, ap, length}
use Rattle.ifs_lex.proofs.RopeLaws.{kept_same, pushed}
use Rattle.ifs_lex.proofs.ropes.Ropes.leaf.Goals as goal

pub returns : goal.returns
returns c =
    let f = pushed c.self.inside.cells.items _ _ c.len-root.result _ c.self.view_is c.in_ok-push.ensures.items (omega (arith, c.self.inside.cells.ok.0)) in
    record { made = (f.within, ap length f.whats); whats = f.whats; keeps = f.keeps }

pub returns-in_err-push-clause-keeps : goal.returns-in_err-push-clause-keeps
returns-in_err-push-clause-keeps c =
    kept_same c.self.inside.cells.items _ _ c.self.view_is c.in_err-push.ensures.items
