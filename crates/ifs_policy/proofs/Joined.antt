-- Chains of operands, whichever sign joins them.
use Rattle.std.proofs.Common.{◌≡◌, ◌⊎◌, inl, inr, ⊎_elim, List, [], ◌∷◌, ◌++◌, fold, refl, sym, ap, ◌∙◌}
use Rattle.std.specs.List.{flat_map}
use Rattle.ifs_parse.specs.Trees as tree
use Rattle.ifs_parse.specs.Views.{all_of, any_of}
use Rattle.ifs_policy.proofs.Lists.{fold_flat}

-- A condition is the chain of these operands, joined by `&&` or by `||`.
abbrev pub IsChain : {L : Type 0} → tree.Condition L → tree.Condition L → tree.Condition L → List (tree.Condition L) → Type 0
IsChain c first second rest = (c ≡ all_of (tree.And first second) rest) ⊎ (c ≡ any_of (tree.Or first second) rest)

-- The condition of a node is the chain of its operands.
pub chain_of : {L N : Type 0} (view : N → tree.Condition L) (node all any : N) (c first second : tree.Condition L) (rest items : List (tree.Condition L)) → (node ≡ all) ⊎ (node ≡ any)
    → view all ≡ all_of (tree.And first second) rest → view any ≡ any_of (tree.Or first second) rest → c ≡ view node → items ≡ rest → IsChain c first second items
chain_of view node all any c first second rest items is all_is any_is c_is items_is =
    ⊎_elim
    (λ e. inl (c_is ∙ ap view e ∙ all_is ∙ ap (all_of (tree.And first second)) (sym items_is)))
    (λ e. inr (c_is ∙ ap view e ∙ any_is ∙ ap (any_of (tree.Or first second)) (sym items_is)))
    is

-- A value of conditions that each further operand changes by a step.
module _ {L A : Type 0} (value : tree.Condition L → A) (step : A → tree.Condition L → A) where
  pub all_steps : ((a b : tree.Condition L) → value (tree.And a b) ≡ step (value a) b) → (first : tree.Condition L) (rest : List (tree.Condition L))
      → value (all_of first rest) ≡ fold step (value first) rest
  all_steps one first [] = refl
  all_steps one first (next ∷ rest) = all_steps one (tree.And first next) rest ∙ ap (λ a. fold step a rest) (one first next)

  pub any_steps : ((a b : tree.Condition L) → value (tree.Or a b) ≡ step (value a) b) → (first : tree.Condition L) (rest : List (tree.Condition L))
      → value (any_of first rest) ≡ fold step (value first) rest
  any_steps one first [] = refl
  any_steps one first (next ∷ rest) = any_steps one (tree.Or first next) rest ∙ ap (λ a. fold step a rest) (one first next)

  pub chain_steps : ((a b : tree.Condition L) → value (tree.And a b) ≡ step (value a) b) → ((a b : tree.Condition L) → value (tree.Or a b) ≡ step (value a) b)
      → (c first second : tree.Condition L) (rest : List (tree.Condition L)) → IsChain c first second rest → value c ≡ fold step (step (value first) second) rest
  chain_steps ands ors c first second rest is =
      ⊎_elim
      (λ e. ap value e ∙ all_steps ands (tree.And first second) rest ∙ ap (λ a. fold step a rest) (ands first second))
      (λ e. ap value e ∙ any_steps ors (tree.Or first second) rest ∙ ap (λ a. fold step a rest) (ors first second))
      is

-- A list that a chain gathers from its operands.
pub chain_list : {L Y : Type 0} (told : tree.Condition L → List Y) → ((a b : tree.Condition L) → told (tree.And a b) ≡ told a ++ told b)
    → ((a b : tree.Condition L) → told (tree.Or a b) ≡ told a ++ told b) → (c first second : tree.Condition L) (rest : List (tree.Condition L)) → IsChain c first second rest
    → told c ≡ (told first ++ told second) ++ flat_map told rest
chain_list told ands ors c first second rest is =
    chain_steps told (λ ys x. ys ++ told x) ands ors c first second rest is ∙ fold_flat told (told first ++ told second) rest
