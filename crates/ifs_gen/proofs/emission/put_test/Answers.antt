-- A condition whose code is in the table is called.
use Rattle.std.proofs.Common.{◌≡◌, ◌∙◌, ◌++◌, Some, None, sym, ap}
use Rattle.ifs_gen.specs.PlainCode.{condition_code}
use Rattle.ifs_gen.proofs.Placing.{test_is}
use Rattle.ifs_gen.proofs.emission.put_test.Goals as goal

pub returns-in-Some : goal.returns-in-Some
returns-in-Some c =
    let condition = c.args.condition.now in
    let code_is : c.new-plain-2.result ≡ condition_code condition = c.new-plain-2.ensures ∙ c.in_ok-put_condition.ensures ∙ ap (λ l. l ++ condition_code condition) c.new-plain.ensures.items in
    c.in_ok-push-in-Some.ensures.items
    ∙ ap (λ l. c.args.code.now.items ++ l) (test_is c.args.shared.now condition c.new-plain-2.result (Some c.in-Some.place) code_is (sym c.in-Some.is ∙ c.place_of.ensures.place))

pub returns : goal.returns
returns c =
    let condition = c.args.condition.now in
    let code_is : c.new-plain-2.result ≡ condition_code condition = c.new-plain-2.ensures ∙ c.in_ok-put_condition.ensures ∙ ap (λ l. l ++ condition_code condition) c.new-plain.ensures.items in
    c.in_ok-extend_from_slice-in-None.ensures.items
    ∙ ap (λ l. c.args.code.now.items ++ l) (c.as_slice.ensures ∙ test_is c.args.shared.now condition c.new-plain-2.result None code_is (sym c.in-None.is ∙ c.place_of.ensures.place))
