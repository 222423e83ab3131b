-- The search finds a test exactly if there is one.
use Rattle.std.proofs.Common.{Bool, true, refl, ap, ◌∙◌}
use Rattle.ifs_policy.specs.Meaning.{mentioned_in}
use Rattle.ifs_policy.proofs.Visited.{condition_finds}
use Rattle.ifs_claim_parse.specs.declared.premises.TestSearch.{TestSearch}
use Rattle.ifs_claim_parse.proofs.Asked.{any_is_some}
use Rattle.ifs_claim_parse.proofs.premises.has_test.Goals as goal

pub returns : goal.returns
returns c =
    let make : Bool → TestSearch = λ b. record { is_found = b } in
    any_is_some (mentioned_in c.args.condition.now) _
    (ap (λ (s : TestSearch). s.is_found) (c.visit_condition.ensures ∙ condition_finds make _ (λ _. true) (λ b single. refl) c.args.condition.now))
