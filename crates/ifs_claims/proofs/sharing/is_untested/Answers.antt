-- The search finds a test exactly if there is one.
use Rattle.std.proofs.Common.{Bool, not, refl, ap, ◌∙◌}
use Rattle.ifs_policy.proofs.Visited.{block_finds}
use Rattle.ifs_claims.specs.Asked.{any_test}
use Rattle.ifs_claims.specs.declared.sharing.AnyTest.{AnyTest}
use Rattle.ifs_claims.proofs.sharing.is_untested.Goals as goal

pub returns : goal.returns
returns c =
    let make : Bool → AnyTest = λ b. record { is_found = b } in
    ap (λ (s : AnyTest). not s.is_found) (c.visit_block.ensures ∙ block_finds make _ any_test (λ b single. refl) c.args.block.now)
