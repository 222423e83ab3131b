use Rattle.std.proofs.Common.{◌≡◌, ◌+◌, ◌++◌, ◌<◌, List, [], ◌∷◌, ℕ, string_bytes, arith, sym, ap, ◌∙◌}
use Rattle.std.proofs.lemmas.Fmt.{decimal_digit}
use Rattle.ifs_asm.proofs.printing.put_decimal.Goals as goal

pub returns-in_ok-push : goal.returns-in_ok-push
returns-in_ok-push c =
    let small : c.from.result < 128 = omega (arith, c.from.ensures, c.if-number-lt10.true) in
    let is : c.from.result ≡ 48 + c.args.number = omega (arith, c.from.ensures, c.if-number-lt10.true) in
    c.in_ok-push.ensures.bytes
    ∙ ap (λ (t : List ℕ). string_bytes c.args.out.now ++ t) (c.in_ok-push.ensures.ascii small ∙ ap (λ (x : ℕ). x ∷ []) is ∙ sym (decimal_digit c.args.number c.if-number-lt10.true))
