use Rattle.std.proofs.Common.{◌++◌, List, ℕ, string_bytes, ◌∙◌, ap}
use Rattle.ifs_asm.proofs.Masks.{at_start, ends_with_dash, ends}
use Rattle.ifs_asm.proofs.printing.put_list.Goals as goal

pub loop-test-init : goal.loop-test-init
loop-test-init c = ap (λ (t : List ℕ). string_bytes c.args.out.now ++ t) (at_start c.args.mask)

pub loop-test-preserved : goal.loop-test-preserved
loop-test-preserved c = c.in_ok-is_first.ensures ∙ c.loop-test.invariant

pub returns-in_ok-push_str : goal.returns-in_ok-push_str
returns-in_ok-push_str c = c.in_ok-push_str.ensures.bytes ∙ ends_with_dash c.loop-test.is_first c.args.mask c.loop-test.test _ _ c.loop-test-test.false c.if-is_first.true c.loop-test.invariant

pub returns-else-is_first : goal.returns-else-is_first
returns-else-is_first c = ends c.loop-test.is_first c.args.mask c.loop-test.test _ _ c.loop-test-test.false c.if-is_first.false c.loop-test.invariant
