-- The search finds a test exactly if one has no value.
use Rattle.std.proofs.Common.{Bool, refl, ap, ◌∙◌}
use Rattle.ifs_claims.specs.Moves.{seen}
use Rattle.ifs_policy.specs.Meaning.{is_open}
use Rattle.ifs_policy.proofs.Visited.{condition_finds}
use Rattle.ifs_prove.specs.declared.facts.OpenTest.{OpenTest}
use Rattle.ifs_prove.proofs.facts.lacks_value_seen.Goals as goal

pub returns : goal.returns
returns c =
    let make : Bool → OpenTest = λ b. record { core = c.args.core; step = c.args.step; is_found = b } in
    ap (λ (s : OpenTest). s.is_found)
    (c.visit_condition.ensures ∙ condition_finds make _ (is_open (seen c.args.step c.args.core.now.state.position.facts)) (λ b single. refl) c.args.condition.now)
