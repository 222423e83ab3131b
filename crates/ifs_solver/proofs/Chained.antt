-- What is judged of chains and of blocks, member by member.
use Rattle.std.proofs.Common.{◌≡◌, ℕ, zero, suc, ◌<◌, ◌⊎◌, ⊎_elim, Bool, true, false, List, [], ◌∷◌, length, fold, get_or, refl, sym, ap, ◌∙◌, arith}
use Rattle.ifs_base.specs.declared.ids.CommandId.{CommandId}
use Rattle.ifs_base.specs.declared.ids.StateId.{StateId}
use Rattle.ifs_parse.specs.Trees as tree
use Rattle.ifs_parse.specs.Trees.{block_size}
use Rattle.ifs_parse.specs.Views.{all_of, any_of, block_of}
use Rattle.ifs_parse.specs.declared.block.Statement.{Statement}
use Rattle.ifs_parse.specs.declared.block.Statement.TheVariants.{Run, SetState, If}
use Rattle.ifs_policy.specs.Meaning.{Condition}
use Rattle.ifs_policy.specs.declared.policy.Single.{Single}
use Rattle.ifs_policy.proofs.Joined.{all_steps, any_steps}
use Rattle.ifs_solver.specs.declared.verdicts.Verdict.{Verdict}
use Rattle.ifs_solver.specs.FactSets.{FactSet}
use Rattle.ifs_solver.specs.inner.Judging.{joined, judged, judged_open_in, inner_size}

-- One more operand of a chain.
abbrev pub judged_next : FactSet → Bool → Verdict → Condition → Verdict
judged_next set deciding before operand = joined deciding before (judged set operand)

abbrev pub open_next : FactSet → Verdict → Condition → Verdict
open_next set before operand = joined true before (judged_open_in set operand)

-- A chain, given the sign of its node.
pub chain_judged : {N : Type 0} (view : N → Condition) (sign : N → Bool) (node all any : N) (set : FactSet) (c first second : Condition) (rest : List Condition) (deciding : Bool)
    → (node ≡ all) ⊎ (node ≡ any) → view all ≡ all_of (tree.And first second) rest → view any ≡ any_of (tree.Or first second) rest → sign all ≡ false → sign any ≡ true → c ≡ view node → deciding ≡ sign node
    → judged set c ≡ fold (judged_next set deciding) (joined deciding (judged set first) (judged set second)) rest
chain_judged view sign node all any set c first second rest deciding is all_is any_is both either c_is d_is =
    ⊎_elim
    (λ e. ap (judged set) (c_is ∙ ap view e ∙ all_is) ∙ all_steps (judged set) (judged_next set false) (λ a b. refl) (tree.And first second) rest ∙ ap (whole) (sym (d_is ∙ ap sign e ∙ both)))
    (λ e. ap (judged set) (c_is ∙ ap view e ∙ any_is) ∙ any_steps (judged set) (judged_next set true) (λ a b. refl) (tree.Or first second) rest ∙ ap (whole) (sym (d_is ∙ ap sign e ∙ either)))
    is
  where
    whole : Bool → Verdict
    whole d = fold (judged_next set d) (joined d (judged set first) (judged set second)) rest

-- The block in a statement is smaller than the block that the statement is in.
positive : (items : List (Statement Single CommandId StateId)) → 0 < block_size (block_of items)
positive [] = omega arith
positive (Run command ∷ items) = let rest = positive items in omega (arith, rest)
positive (SetState state ∷ items) = let rest = positive items in omega (arith, rest)
positive (If condition inner ∷ items) = let rest = positive items in omega (arith, rest)

pub inner_below : (items : List (Statement Single CommandId StateId)) (i : ℕ) (d : Statement Single CommandId StateId) → i < length items → inner_size (get_or items i d) < block_size (block_of items)
inner_below [] i d lt = absurd (omega (arith, lt))
inner_below (Run command ∷ items) zero d lt = let rest = positive items in omega (arith, rest)
inner_below (SetState state ∷ items) zero d lt = let rest = positive items in omega (arith, rest)
inner_below (If condition inner ∷ items) zero d lt = let rest = positive items in omega (arith, rest)
inner_below (Run command ∷ items) (suc i) d lt = let rest = inner_below items i d (omega (arith, lt)) in omega (arith, rest)
inner_below (SetState state ∷ items) (suc i) d lt = let rest = inner_below items i d (omega (arith, lt)) in omega (arith, rest)
inner_below (If condition inner ∷ items) (suc i) d lt = let rest = inner_below items i d (omega (arith, lt)) in omega (arith, rest)
