use Rattle.std.proofs.Common.{arith, ap, ◌++◌, map, sym}
use Rattle.ifs_lex.specs.Expansion.{token}
use Rattle.ifs_lex.specs.inner.Ropes.{stacked}
use Rattle.ifs_lex.proofs.RopeLaws.{cells_within, cell_at, none_put, leaf_put, both_put}
use Rattle.ifs_lex.proofs.RopeLaws.{both_earlier, both_lighter, weight_some, leaf_out, all_two}
use Rattle.ifs_lex.proofs.ropes.Ropes.put.Goals as goal

pub index-requires : goal.index-requires
index-requires c = let h = cells_within c.self.inside.cells.items _ _ c.self.view_is c.requires.within in omega (arith, c.self.inside.cells.ok.0)

pub returns-in-Empty-clause-whole : goal.returns-in-Empty-clause-whole
returns-in-Empty-clause-whole c =
    let f = cell_at _ _ _ _ c.self.view_is c.self.invariant c.requires.within c.index.ensures in
    let e = none_put _ _ _ _ f c.in-Empty.is in
    ap (λ ws. c.args.tokens.now.items ++ map (token c.args.span) (ws ++ stacked c.args.self.now c.args.left.now.items)) (sym e)

pub returns-in-Empty-clause-lighter : goal.returns-in-Empty-clause-lighter
returns-in-Empty-clause-lighter c = let h = weight_some c.args.number in omega arith

pub returns-in_ok-push-in-Leaf-clause-whole : goal.returns-in_ok-push-in-Leaf-clause-whole
returns-in_ok-push-in-Leaf-clause-whole c =
    let f = cell_at _ _ _ _ c.self.view_is c.self.invariant c.requires.within c.index.ensures in
    let e = leaf_put _ _ _ _ _ f c.in-Leaf.is in
    leaf_out c.args.span _ _ _ _ _ _ c.in_ok-push-in-Leaf.ensures.items c.in_ok-what-in-Leaf.ensures e

pub returns-in_ok-push-in-Leaf-clause-lighter : goal.returns-in_ok-push-in-Leaf-clause-lighter
returns-in_ok-push-in-Leaf-clause-lighter c = let h = weight_some c.args.number in omega arith

pub returns-in_ok-push-in-Both-2-clause-all_within :
    goal.returns-in_ok-push-in-Both-2-clause-all_within
returns-in_ok-push-in-Both-2-clause-all_within c =
    let f = cell_at _ _ _ _ c.self.view_is c.self.invariant c.requires.within c.index.ensures in
    let g = both_earlier _ _ _ _ _ _ f c.in-Both.is in
    let l = c.requires.within in
    all_two _ _ _ _ _ _ c.requires.all_within c.in_ok-push-in-Both.ensures.items c.in_ok-push-in-Both-2.ensures.items (omega (arith, g.0)) (omega (arith, g.1))

pub returns-in_ok-push-in-Both-2-clause-whole : goal.returns-in_ok-push-in-Both-2-clause-whole
returns-in_ok-push-in-Both-2-clause-whole c =
    let f = cell_at _ _ _ _ c.self.view_is c.self.invariant c.requires.within c.index.ensures in
    let e = both_put _ _ _ _ _ _ _ _ _ f c.in-Both.is c.in_ok-push-in-Both.ensures.items c.in_ok-push-in-Both-2.ensures.items in
    ap (λ ws. c.args.tokens.now.items ++ map (token c.args.span) ws) e

pub returns-in_ok-push-in-Both-2-clause-lighter : goal.returns-in_ok-push-in-Both-2-clause-lighter
returns-in_ok-push-in-Both-2-clause-lighter c =
    let f = cell_at _ _ _ _ c.self.view_is c.self.invariant c.requires.within c.index.ensures in
    both_lighter _ _ _ _ _ _ _ _ _ f c.in-Both.is c.in_ok-push-in-Both.ensures.items c.in_ok-push-in-Both-2.ensures.items
