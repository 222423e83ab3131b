-- A number that exceeds the limit is the first one, and any other is passed over.
use Rattle.std.proofs.Common.{◌<◌, ◌≤◌, subst, arith}
use Rattle.std.proofs.lemmas.List.{drop_more}
use Rattle.ifs_gen.proofs.Totals.{init_over, none_over}
use Rattle.ifs_gen.proofs.amounts.first_over.Goals as goal

pub returns-then-limit-of-clause-first : goal.returns-then-limit-of-clause-first
returns-then-limit-of-clause-first c =
    init_over c.args.amount c.args.limit c.args.measures.now _ _ _ c.loop-part.routine
    (drop_more c.args.measures.now c.loop-part.part-index _ c.loop-part-test.true) c.loop-part.invariant.passes (subst (λ n. c.args.limit < n) c.of.ensures c.if-limit-of.true)

pub loop-part-preserved : goal.loop-part-preserved
loop-part-preserved c = record {
  passes = none_over c.args.amount c.args.limit c.args.measures.now _ _ _ c.loop-part.routine
      (drop_more c.args.measures.now c.loop-part.part-index _ c.loop-part-test.true) c.loop-part.invariant.passes
      (subst (λ n. n ≤ c.args.limit) c.of.ensures c.if-limit-of.false) (subst (λ n. n ≤ c.args.limit) c.of-in-loop-part.ensures c.if-limit-of-2.false);
  place = let h = c.loop-part.invariant.place in omega (arith, h);
}
