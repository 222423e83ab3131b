-- Chains of operands under the facts of a core.
use Rattle.std.proofs.Common.{◌≡◌, ◌⊎◌, ⊎_elim, Bool, true, false, List, fold, refl, sym, ap, ◌∙◌}
use Rattle.ifs_base.specs.Facts.{Facts}
use Rattle.ifs_parse.specs.Trees as tree
use Rattle.ifs_parse.specs.Views.{all_of, any_of}
use Rattle.ifs_policy.specs.Meaning.{Condition, truth}
use Rattle.ifs_policy.proofs.Joined.{all_steps, any_steps}
use Rattle.ifs_prove.specs.inner.Facts.{joined_truth}

-- One more operand.
abbrev pub true_next : Facts → Bool → Bool → Condition → Bool
true_next facts deciding before operand = joined_truth deciding before (truth facts operand)

-- The truth of a chain, given the sign of its node.
pub chain_true : {N : Type 0} (view : N → Condition) (sign : N → Bool) (node all any : N) (facts : Facts) (c first second : Condition) (rest : List Condition) (deciding : Bool)
    → (node ≡ all) ⊎ (node ≡ any) → view all ≡ all_of (tree.And first second) rest → view any ≡ any_of (tree.Or first second) rest → sign all ≡ false → sign any ≡ true → c ≡ view node → deciding ≡ sign node
    → truth facts c ≡ fold (true_next facts deciding) (joined_truth deciding (truth facts first) (truth facts second)) rest
chain_true view sign node all any facts c first second rest deciding is all_is any_is both either c_is d_is =
    ⊎_elim
    (λ e. ap (truth facts) (c_is ∙ ap view e ∙ all_is) ∙ all_steps (truth facts) (true_next facts false) (λ a b. refl) (tree.And first second) rest ∙ ap (whole) (sym (d_is ∙ ap sign e ∙ both)))
    (λ e. ap (truth facts) (c_is ∙ ap view e ∙ any_is) ∙ any_steps (truth facts) (true_next facts true) (λ a b. refl) (tree.Or first second) rest ∙ ap (whole) (sym (d_is ∙ ap sign e ∙ either)))
    is
  where
    whole : Bool → Bool
    whole d = fold (true_next facts d) (joined_truth d (truth facts first) (truth facts second)) rest
