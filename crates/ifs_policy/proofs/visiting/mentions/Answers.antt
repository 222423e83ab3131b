-- A search finds the test exactly if it is mentioned.
use Rattle.std.proofs.Common.{Bool, refl, ap, ◌∙◌}
use Rattle.ifs_policy.specs.declared.visiting.Sought.{Sought}
use Rattle.ifs_policy.specs.Visits.{is_test}
use Rattle.ifs_policy.proofs.Visited.{block_finds}
use Rattle.ifs_policy.proofs.visiting.mentions.Goals as goal

pub returns : goal.returns
returns c =
    let make : Bool → Sought = λ b. record { test = c.args.test; is_found = b } in
    ap (λ (s : Sought). s.is_found) (c.visit_block.ensures ∙ block_finds make _ (is_test c.args.test) (λ b single. refl) c.args.block.now)
