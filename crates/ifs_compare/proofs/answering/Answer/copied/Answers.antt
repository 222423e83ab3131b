-- Each answer is the same.
use Rattle.std.proofs.Common.{sym, subst}
use Rattle.ifs_compare.specs.declared.answering.Answer.TheVariants as answer
use Rattle.ifs_compare.specs.inner.Comparing.{IsSame, both_same, both_different, both_undecided}
use Rattle.ifs_compare.proofs.answering.Answer.copied.Goals as goal
use Rattle.ifs_compare.proofs.answering.Answer.copied.Goals.{in-Same, in-Different+in_ok-copied-in-Different, in-Undecided}

pub returns : goal.returns
returns c =
    let self = c.args.self.now in
    let result = c.match-self.result in
    elim c.match-self.branch [
      | in-Same w ↦ subst (λ a. IsSame a result) (sym w.in-Same.is) (subst (IsSame answer.Same) (sym w.result-is) both_same)
      | in-Different+in_ok-copied-in-Different w ↦
          let copy = w.in_ok-copied-in-Different.field-0 in
          subst (λ a. IsSame a result) (sym w.in-Different.is) (subst (IsSame (answer.Different w.in-Different.range)) (sym w.result-is) (both_different w.in-Different.range copy w.in_ok-copied-in-Different.ensures))
      | in-Undecided w ↦ subst (λ a. IsSame a result) (sym w.in-Undecided.is) (subst (IsSame answer.Undecided) (sym w.result-is) both_undecided)
    ]
