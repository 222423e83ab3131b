use Rattle.std.proofs.Common.{◌==◌, cond, count_by, ap, ◌∙◌, arith}
use Rattle.std.proofs.lemmas.List.Sums.{sum_by-take-drop}
use Rattle.ifs_lex.proofs.cursor.newlines.Goals as goal

pub loop-left-preserved : goal.loop-left-preserved
loop-left-preserved c =
    let parts = sum_by-take-drop (λ b. cond (b == 10) 1 0) c.loop-left.left.now 255 in
    let front = c.newlines_of_block.ensures ∙ ap (count_by (λ b. b == 10)) c.split_at.ensures.front in
    let back = ap (count_by (λ b. b == 10)) c.split_at.ensures.back in
    (omega (arith, parts, front, back, c.loop-left.invariant.0), c.loop-left.invariant.1)
