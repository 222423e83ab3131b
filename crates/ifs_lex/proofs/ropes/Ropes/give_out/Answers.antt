use Rattle.ifs_lex.proofs.RopeLaws.{turn_whole, turn_lighter}
use Rattle.ifs_lex.proofs.ropes.Ropes.give_out.Goals as goal

pub loop-number-smaller : goal.loop-number-smaller
loop-number-smaller c = turn_lighter _ _ _ _ c.in-Some.ensures.items c.in_ok-put.ensures.lighter

pub loop-number-preserved : goal.loop-number-preserved
loop-number-preserved c =
    let whole = turn_whole c.args.self.now c.args.span _ c.pop.new.self.items c.put.new.left.items _ c.loop-number.tokens.items c.put.new.tokens.items _ c.in-Some.ensures.items c.loop-number.invariant.1 c.in_ok-put.ensures.whole in
    (c.in_ok-put.ensures.all_within, whole)
