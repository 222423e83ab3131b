use Rattle.std.proofs.Common.{ℕ, take, drop, arith, ap, ◌∙◌}
use Rattle.ifs_asm.proofs.Cutting.{one_more_word, some_bytes}
use Rattle.ifs_asm.proofs.words.words_of.Goals as goal

pub loop-preserved : goal.loop-preserved
loop-preserved c =
    let rest = c.after_blanks-rest.result.now in (
      omega (arith, c.push.ensures.len, c.loop.invariant.0),
      one_more_word (λ word. word.now) c.loop.counter c.loop.words.items c.push.new.self.items c.split_at.result.0 c.loop.left.now rest c.split_at.result.1.now _ c.loop-test.true c.after_blanks-rest.ensures
          (some_bytes c.is_empty.result rest c.is_empty.ensures c.if-is_empty.false)
          (c.split_at.ensures.front ∙ ap (λ (n : ℕ). take n rest) c.word_len.ensures.value)
          (c.split_at.ensures.back ∙ ap (λ (n : ℕ). drop n rest) c.word_len.ensures.value)
          c.push.ensures.items c.loop.invariant.1,
    )
