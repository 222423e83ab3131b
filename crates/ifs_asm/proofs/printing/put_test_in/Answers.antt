use Rattle.std.proofs.Common.{string_bytes, sym, ◌∙◌}
use Rattle.ifs_asm.proofs.Masks.{puts, passes}
use Rattle.ifs_asm.proofs.printing.put_test_in.Goals as goal

pub returns-then-not-has_test : goal.returns-then-not-has_test
returns-then-not-has_test c = passes c.args.is_first c.args.mask c.args.test (string_bytes c.args.out.now) c.requires (sym c.has_test.ensures ∙ c.if-not-has_test.true)

pub returns : goal.returns
returns c = puts c.args.is_first c.args.mask c.args.test (string_bytes c.args.out.now) (string_bytes c.put_item.new.out) c.requires (sym c.has_test.ensures ∙ c.if-not-has_test.false) c.in_ok-put_item.ensures
