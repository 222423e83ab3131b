-- One more round, and one more finding on rounds.
use Rattle.std.proofs.Common.{◌≡◌, ℕ, ◌<◌, true, inl, inr, List, [], ◌∷◌, ◌++◌, length, get_or, ap, ◌∙◌, sym, subst}
use Rattle.std.specs.Prelude.{codes}
use Rattle.std.proofs.lemmas.List.Elements.{All-get_or, All-push, All-same}
use Rattle.ifs_policy.specs.declared.policy.PolicyParts.{PolicyParts}
use Rattle.ifs_report.specs.declared.reports.Report.{Report}
use Rattle.ifs_report.specs.declared.reports.Severity.TheVariants.{Warning}
use Rattle.ifs_lint.specs.declared.finding.Finding.{Finding}
use Rattle.ifs_lint.specs.declared.flaps.Flap.{Flap}
use Rattle.ifs_lint.specs.Clean.{is_defect, is_grave}
use Rattle.ifs_lint.specs.Kinds.{kind_of}
use Rattle.ifs_lint.specs.Rounds.{IsRound}
use Rattle.ifs_lint.specs.Told.{AreOnRounds, IsOnRounds}
use Rattle.ifs_lint.specs.inner.Going.{AreRounds}

module _ (policy : PolicyParts) where
  pub one_more_round : (before after : List Flap) (flap : Flap) → after ≡ before ++ flap ∷ [] → IsRound policy flap.states.items → AreRounds policy before → AreRounds policy after
  one_more_round before after flap is round all = All-same (λ it. IsRound policy it.states.items) after (before ++ flap ∷ []) is (All-push (λ it. IsRound policy it.states.items) before flap all round)

  pub one_more_finding : (before after : List Finding) (finding : Finding) → after ≡ before ++ finding ∷ [] → IsOnRounds policy finding → AreOnRounds policy before → AreOnRounds policy after
  one_more_finding before after finding is on all = All-same (IsOnRounds policy) after (before ++ finding ∷ []) is (All-push (IsOnRounds policy) before finding all on)

  -- A finding on a round that was found.
  pub on_round : (finding : Finding) (found : List Flap) (flap : Flap) (i : ℕ) → AreRounds policy found → i < length found → flap ≡ get_or found i flap → kind_of finding ≡ codes "round" → is_defect finding ≡ true
      → finding.states.items ≡ flap.states.items → IsOnRounds policy finding
  on_round finding found flap i rounds lt at kind defect states = record {
    defect = defect;
    on = inl (record {
      kind = kind;
      states = subst (IsRound policy) (sym (states ∙ ap (λ it. it.states.items) at)) (All-get_or (λ it. IsRound policy it.states.items) found i flap lt rounds);
    });
  }

  -- A finding on a comment.
  pub on_comment : (finding : Finding) (report : Report) → finding.report ≡ report → finding.states.items ≡ [] → report.code.now ≡ codes "comment" → report.severity ≡ Warning → IsOnRounds policy finding
  on_comment finding report is states kind severity = record {
    defect = ap (λ it. is_grave it.severity) is ∙ ap is_grave severity;
    on = inr (record { kind = ap (λ it. it.code.now) is ∙ kind; states = states });
  }
