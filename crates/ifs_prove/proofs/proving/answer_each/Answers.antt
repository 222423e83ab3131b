-- One claim after the other.
use Rattle.std.proofs.Common.{◌+◌, sym, subst, take}
use Rattle.ifs_claims.proofs.Zipped.{zip_more}
use Rattle.ifs_claim_parse.specs.declared.stated.Stated.{Stated}
use Rattle.ifs_prove.specs.declared.verdicts.Verdict.{Verdict}
use Rattle.ifs_prove.specs.Verdicts.{AreVerdicts, IsVerdictOf}
use Rattle.ifs_prove.proofs.proving.answer_each.Goals as goal

pub loop-stated-preserved : goal.loop-stated-preserved
loop-stated-preserved c =
    let claims = c.args.claims.now in
    let i = c.loop-stated.stated-index in (
      subst (AreVerdicts c.args.entered.now (take (i + 1) claims)) (sym c.in_ok-push.ensures.items)
          (zip_more (λ (stated : Stated) (verdict : Verdict). IsVerdictOf c.args.entered.now stated.claim verdict) claims c.loop-stated.verdicts.items i c.stated-item.result c.in_ok-verdict.verdict c.loop-stated-test.true
          c.stated-item.is c.loop-stated.invariant.0 c.in_ok-verdict.ensures.verdict),
      c.answer.ensures.kept,
    )
