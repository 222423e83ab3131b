use Rattle.std.proofs.Common.{◌++◌, ◌∷◌, [], sym, ◌∙◌, subst, arith}
use Rattle.ifs_core.specs.Machine.{IsBehaviour}
use Rattle.ifs_session.proofs.Accounting.{hear_more, heard_no_more, room_asked}
use Rattle.ifs_session.proofs.service.apply_test_results.Goals as goal

pub endings-preserved : goal.endings-preserved
endings-preserved g c =
    let asked = room_asked c.len.result c.next_ending.result (c.in-Some.test, c.in-Some.run', c.in-Some.value) c.next_ending.ensures.few c.in-Some.is in
    record {
      image = c.make-made.ensures.image ∙ c.endings.invariant.image;
      room = omega (arith, c.make-made.ensures.few, asked, c.len.ensures.value);
      heard = λ b h.
          let so_far = c.endings.invariant.heard b h in
          let answer = rw c.in-Some.is at (c.next_ending.ensures.asked asked) in (
            so_far.0 ++ (c.in-Some.test, c.in-Some.run', c.in-Some.value) ∷ [],
            hear_more b _ _ so_far.0 _ _ _ _ _ c.endings.invariant.image so_far.1 answer (c.make-made.ensures.carries b (subst (λ i. IsBehaviour i b) (sym c.endings.invariant.image) h)),
          );
    }

pub returns-clause-heard : goal.returns-clause-heard
returns-clause-heard g c = λ b h.
    let so_far = c.endings.invariant.heard b h in
    (so_far.0, λ origin a stands. heard_no_more origin _ _ _ (so_far.1 origin a stands) (rw c.len.ensures.value at c.next_ending.ensures.unasked) (rw (c.len.ensures.value, c.in_default.is) at c.next_ending.ensures.asked))
