-- A text before and after its first space.
use Rattle.std.proofs.Common.{◌≡◌, ℕ, ◌+◌, ◌-◌, ◌≤◌, Bool, cond, not, nat_lt, List, [], length, take, drop, Some, None}
use Rattle.std.proofs.Common.{sym, ap, ◌∙◌, arith, take_all}
use Rattle.std.specs.Prelude.{◌==◌}
use Rattle.std.specs.List.{before_first, after_first, position, position_or_len}
use Rattle.std.proofs.lemmas.List.{take_rest, drop_all}
use Rattle.std.proofs.lemmas.List.Sums.{prefix_len-le-length}
use Rattle.std.proofs.lemmas.Bool.Decides.{nat_tests}

abbrev pub is_space : ℕ → Bool
is_space byte = byte == 32

position_or_len-some : (n m i : ℕ) → cond (nat_lt n m) (Some n) None ≡ Some i → n ≡ i
position_or_len-some n m i e = grind (arith, nat_tests)

position_or_len-none : (n m : ℕ) → n ≤ m → cond (nat_lt n m) (Some n) None ≡ None → n ≡ m
position_or_len-none n m most e = grind (arith, nat_tests)

pub before_first-some : (text : List ℕ) (i : ℕ) → position is_space text ≡ Some i → take i text ≡ before_first is_space text
before_first-some text i e = ap (λ n. take n text) (sym (position_or_len-some _ _ i e))

pub after_first-some : (text : List ℕ) (i : ℕ) → position is_space text ≡ Some i → take (length text - (i + 1)) (drop (i + 1) text) ≡ after_first is_space text
after_first-some text i e = take_rest text (i + 1) ∙ ap (λ n. drop (n + 1) text) (sym (position_or_len-some _ _ i e))

pub before_first-none : (text : List ℕ) → position is_space text ≡ None → text ≡ before_first is_space text
before_first-none text e =
    let all = position_or_len-none (position_or_len is_space text) (length text) (prefix_len-le-length (λ x. not (is_space x)) text) e in
    sym (take_all _ text (omega arith))

pub after_first-none : (text : List ℕ) → position is_space text ≡ None → [] ≡ after_first is_space text
after_first-none text e =
    let all = position_or_len-none (position_or_len is_space text) (length text) (prefix_len-le-length (λ x. not (is_space x)) text) e in
    sym (drop_all _ text (omega arith))
