-- The measures of chains and of blocks, member by member.
use Rattle.std.proofs.Common.{◌≡◌, ℕ, ◌+◌, ◌<◌, ◌≤◌, List, []}
use Rattle.std.proofs.Common.{◌∷◌, ◌++◌, length, fold, refl, sym, ap, ◌∙◌, arith, take, get_or}
use Rattle.std.specs.Prelude.{max}
use Rattle.std.proofs.lemmas.List.{take_more, take_all}
use Rattle.std.proofs.lemmas.List.Sums.{fold_more}
use Rattle.ifs_base.specs.declared.ids.CommandId.{CommandId}
use Rattle.ifs_base.specs.declared.ids.StateId.{StateId}
use Rattle.ifs_parse.specs.Views.{block_of, statement_then}
use Rattle.ifs_parse.specs.declared.block.Statement.{Statement}
use Rattle.ifs_parse.specs.declared.block.Statement.TheVariants.{Run, SetState, If}
use Rattle.ifs_gen.specs.Trees.{Single, Condition, Block}
use Rattle.ifs_parse.specs.Trees.{condition_size}
use Rattle.ifs_gen.specs.PlainCode.{plain_coder, condition_height, code_size, block_height, block_runs}
use Rattle.ifs_gen.specs.inner.Emission.{statement_size}
use Rattle.ifs_policy.proofs.Joined.{IsChain, chain_steps}
use Rattle.ifs_gen.proofs.Chains.{of_size}
use Rattle.ifs_gen.specs.inner.Measures.{statement_height, statement_runs}

-- The size and the height of a chain, starting with those of its first operands.
abbrev size_step : ℕ → Condition → ℕ
size_step n c = n + condition_size c + 1

abbrev height_step : ℕ → Condition → ℕ
height_step n c = max n (condition_height c + 1)

abbrev pub chain_size : ℕ → List Condition → ℕ
chain_size n rest = fold size_step n rest

abbrev pub chain_height : ℕ → List Condition → ℕ
chain_height n rest = fold height_step n rest

-- One more operand of a chain.
chain_more : (step : ℕ → Condition → ℕ) (n : ℕ) (items : List Condition) (i : ℕ) (item : Condition) → i < length items → item ≡ get_or items i item
    → fold step n (take (i + 1) items) ≡ step (fold step n (take i items)) item
chain_more step n items i item lt at = fold_more step n items i item lt ∙ ap (step (fold step n (take i items))) (sym at)

pub size_more : (n : ℕ) (items : List Condition) (i : ℕ) (item : Condition) → i < length items → item ≡ get_or items i item
    → chain_size n (take (i + 1) items) ≡ chain_size n (take i items) + condition_size item + 1
size_more = chain_more size_step

pub height_more : (n : ℕ) (items : List Condition) (i : ℕ) (item : Condition) → i < length items → item ≡ get_or items i item
    → chain_height n (take (i + 1) items) ≡ max (chain_height n (take i items)) (condition_height item + 1)
height_more = chain_more height_step

-- A statement and those after it.
then_height : (statement : Statement Single CommandId StateId) (rest : Block)
    → block_height plain_coder (statement_then statement rest) ≡ max (statement_height statement) (block_height plain_coder rest)
then_height (Run command) rest = omega arith
then_height (SetState state) rest = omega arith
then_height (If c inner) rest = omega arith

then_runs : (statement : Statement Single CommandId StateId) (rest : Block) → block_runs (statement_then statement rest) ≡ statement_runs statement + block_runs rest
then_runs (Run command) rest = omega arith
then_runs (SetState state) rest = omega arith
then_runs (If c inner) rest = omega arith

of_height : (xs : List (Statement Single CommandId StateId)) (x : Statement Single CommandId StateId)
    → block_height plain_coder (block_of (xs ++ x ∷ [])) ≡ max (block_height plain_coder (block_of xs)) (statement_height x)
of_height [] x = omega arith
of_height (y ∷ xs) x =
    let e = then_height y (block_of (xs ++ x ∷ [])) in
    let f = then_height y (block_of xs) in
    let h = of_height xs x in
    omega (arith, e, f, h)

of_runs : (xs : List (Statement Single CommandId StateId)) (x : Statement Single CommandId StateId)
    → block_runs (block_of (xs ++ x ∷ [])) ≡ block_runs (block_of xs) + statement_runs x
of_runs [] x = omega arith
of_runs (y ∷ xs) x =
    let e = then_runs y (block_of (xs ++ x ∷ [])) in
    let f = then_runs y (block_of xs) in
    let h = of_runs xs x in
    omega (arith, e, f, h)

-- The measures of statements with one more.
pub record More (items : List (Statement Single CommandId StateId)) (i : ℕ) (item : Statement Single CommandId StateId) : Type 0 where
  pub size : code_size plain_coder (block_of (take (i + 1) items)) ≡ code_size plain_coder (block_of (take i items)) + statement_size plain_coder item
  pub height : block_height plain_coder (block_of (take (i + 1) items)) ≡ max (block_height plain_coder (block_of (take i items))) (statement_height item)
  pub runs : block_runs (block_of (take (i + 1) items)) ≡ block_runs (block_of (take i items)) + statement_runs item

pub more : (items : List (Statement Single CommandId StateId)) (i : ℕ) (item : Statement Single CommandId StateId) → i < length items → item ≡ get_or items i item → More items i item
more items i item lt at =
    let next = take_more items i item lt ∙ ap (λ x. take i items ++ x ∷ []) (sym at) in
    let last = of_size plain_coder (take i items) (item ∷ []) in
    record {
      size = ap (λ xs. code_size plain_coder (block_of xs)) next ∙ last;
      height = ap (λ xs. block_height plain_coder (block_of xs)) next ∙ of_height (take i items) item;
      runs = ap (λ xs. block_runs (block_of xs)) next ∙ of_runs (take i items) item;
    }

-- The end of a chain.
pub size_all : (c first second : Condition) (items : List Condition) (i n : ℕ) → IsChain c first second items → length items ≤ i
    → n ≡ condition_size first + condition_size second + 1 → chain_size n (take i items) ≡ condition_size c
size_all c first second items i n is le e =
    ap (chain_size n) (take_all i items le) ∙ ap (λ k. chain_size k items) e ∙ sym (chain_steps condition_size size_step (λ a b. refl) (λ a b. refl) c first second items is)

pub height_all : (c first second : Condition) (items : List Condition) (i n : ℕ) → IsChain c first second items → length items ≤ i
    → n ≡ max (condition_height first) (condition_height second + 1) → chain_height n (take i items) ≡ condition_height c
height_all c first second items i n is le e =
    ap (chain_height n) (take_all i items le) ∙ ap (λ k. chain_height k items) e ∙ sym (chain_steps condition_height height_step (λ a b. refl) (λ a b. refl) c first second items is)
