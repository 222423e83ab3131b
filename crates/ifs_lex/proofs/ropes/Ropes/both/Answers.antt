use Rattle.std.proofs.Common.{arith}
use Rattle.ifs_lex.proofs.RopeLaws.{kept_same, pushed, earlier_push, cells_within, counted}
use Rattle.ifs_lex.proofs.ropes.Ropes.both.Goals as goal

pub invariant_of-self-2 : goal.invariant_of-self-2
invariant_of-self-2 c =
    let l = cells_within c.self.inside.cells.items _ _ c.self.view_is c.requires.left_holds.0 in
    let r = cells_within c.self.inside.cells.items _ _ c.self.view_is c.requires.right_holds.0 in
    earlier_push _ _ _ c.self.invariant c.in_ok-push.ensures.items (l, r)

pub returns : goal.returns
returns c =
    let f = pushed c.self.inside.cells.items _ _ c.len-root.result _ c.self.view_is c.in_ok-push.ensures.items (omega (arith, c.self.inside.cells.ok.0)) in
    record { made = (f.within, counted _ _ _ _ _ f.whats c.requires.left_holds.1 c.requires.right_holds.1); whats = f.whats; keeps = f.keeps }

pub returns-in_err-push-clause-keeps : goal.returns-in_err-push-clause-keeps
returns-in_err-push-clause-keeps c =
    kept_same c.self.inside.cells.items _ _ c.self.view_is c.in_err-push.ensures.items
