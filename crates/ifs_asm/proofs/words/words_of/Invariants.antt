use Rattle.std.proofs.Common.{◌≡◌, ◌++◌, ◌-◌, map}
use Rattle.arrayvec.specs.ArrayVec.{array_vec_len}
use Rattle.ifs_asm.specs.inner.Words.{words_up_to}
use Rattle.ifs_asm.proofs.words.words_of.Given as goal

abbrev pub invariant-loop : goal.invariant-loop
invariant-loop l = (array_vec_len l.words ≡ l.counter) × (map (λ word. word.now) l.words.items ++ words_up_to (9 - l.counter) l.left ≡ words_up_to 9 l.line)
