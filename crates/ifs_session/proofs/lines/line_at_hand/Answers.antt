use Rattle.std.proofs.Common.{true, false, sym, ap, ◌∙◌, arith}
use Rattle.std.specs.Prelude.{option_map}
use Rattle.std.proofs.lemmas.Bool.Decides.{nat_tests}
use Rattle.ifs_session.proofs.AtHand.{stands_first, line_to_end, no_line}
use Rattle.ifs_session.proofs.lines.line_at_hand.Goals as goal

pub returns-then-end-most-clause-first : goal.returns-then-end-most-clause-first
returns-then-end-most-clause-first c = stands_first c.args.bytes.now c.in_ok-end.end c.args.most (sym c.newline.ensures ∙ c.in_ok-end.was) c.if-end-most.true

pub returns-then-end-most-clause-exact : goal.returns-then-end-most-clause-exact
returns-then-end-most-clause-exact c = line_to_end c.args.bytes.now c.in_ok-end.end c.args.most true (sym c.newline.ensures ∙ c.in_ok-end.was) (grind (c.if-end-most.true, nat_tests, arith))

pub returns-else-end-most-clause-exact : goal.returns-else-end-most-clause-exact
returns-else-end-most-clause-exact c = line_to_end c.args.bytes.now c.in_ok-end.end c.args.most false (sym c.newline.ensures ∙ c.in_ok-end.was) (grind (c.if-end-most.false, nat_tests, arith))

pub returns-in_err-end-clause-exact : goal.returns-in_err-end-clause-exact
returns-in_err-end-clause-exact c = ap (option_map (λ line. line.now)) c.from_residual.ensures ∙ no_line c.args.bytes.now c.args.most (sym c.newline.ensures ∙ c.in_err-end.was)
