-- The search finds a test exactly if there is one.
use Rattle.std.proofs.Common.{Bool, not, refl, ap, ◌∙◌}
use Rattle.ifs_policy.proofs.Visited.{block_finds}
use Rattle.ifs_claims.specs.Asked.{is_unshared}
use Rattle.ifs_claims.specs.declared.sharing.Unshared.{Unshared}
use Rattle.ifs_claims.proofs.sharing.shares.Goals as goal

pub returns : goal.returns
returns c =
    let make : Bool → Unshared = λ b. record { always = c.args.always; is_found = b } in
    ap (λ (s : Unshared). not s.is_found) (c.visit_block.ensures ∙ block_finds make _ (is_unshared c.args.always.now) (λ b single. refl) c.args.block.now)
