-- Evaluations are looked at first where a body differs.
use Rattle.std.proofs.Common.{inl, inr, ⊎_elim}
use Rattle.ifs_compare.proofs.Apart.{answer_within}
use Rattle.ifs_compare.proofs.parts.judge_evaluation.Goals as goal

pub differing-requires-clause-outside : goal.differing-requires-clause-outside
differing-requires-clause-outside c = answer_within c.args.scope _ _ c.args.always.now c.requires.outside

pub differing-requires-clause-inside : goal.differing-requires-clause-inside
differing-requires-clause-inside c = answer_within c.args.scope _ _ c.args.body.now c.requires.inside

pub returns-clause-spent : goal.returns-clause-spent
returns-clause-spent c = record {
  reduced = c.in_ok-answer.ensures.reduced;
  used_up = λ e. ⊎_elim (λ before. inl (c.in_ok-first.ensures.undecided before)) inr (c.in_ok-answer.ensures.undecided e);
}
