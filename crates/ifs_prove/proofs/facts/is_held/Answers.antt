-- The search finds a test exactly if one has no value.
use Rattle.std.proofs.Common.{Bool, refl, ap, ◌∙◌}
use Rattle.ifs_core.specs.declared.step.Step.TheVariants.{Take}
use Rattle.ifs_policy.specs.Meaning.{is_open}
use Rattle.ifs_policy.proofs.Visited.{block_finds}
use Rattle.ifs_prove.specs.declared.facts.OpenTest.{OpenTest}
use Rattle.ifs_prove.proofs.facts.is_held.Goals as goal

pub returns : goal.returns
returns c =
    let make : Bool → OpenTest = λ b. record { core = c.args.core; step = Take; is_found = b } in
    ap (λ (s : OpenTest). s.is_found) (c.visit_block.ensures ∙ block_finds make _ (is_open c.args.core.now.state.position.facts) (λ b single. refl) c.args.body.now)
