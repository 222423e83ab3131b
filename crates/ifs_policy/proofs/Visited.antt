-- What a visitor of single tests makes of the external tests in conditions and blocks.
use Rattle.std.proofs.Common.{◌≡◌, Bool, true, false, ◌||◌, List, [], ◌++◌, refl, sym, ap, ◌∙◌}
use Rattle.std.specs.List.{list_any}
use Rattle.std.proofs.lemmas.List.Folds.{list_any-append}
use Rattle.ifs_base.specs.declared.ids.CommandId.{CommandId}
use Rattle.ifs_base.specs.declared.ids.StateId.{StateId}
use Rattle.ifs_base.specs.declared.ids.TestId.{TestId}
use Rattle.ifs_parse.specs.Trees.{Leaf, NotSo, And, Or, Done, RunThen, SetStateThen, IfThen}
use Rattle.ifs_parse.specs.Views.{statement_then}
use Rattle.ifs_parse.specs.declared.block.Statement.{Statement}
use Rattle.ifs_parse.specs.declared.block.Statement.TheVariants.{Run, SetState, If}
use Rattle.ifs_policy.specs.Meaning.{Condition, Block, mentioned_here, mentioned_in, mentioned}
use Rattle.ifs_policy.specs.Visits.{after_condition, after_block, has_test}
use Rattle.ifs_policy.specs.declared.policy.Single.{Single}
use Rattle.ifs_policy.specs.declared.policy.Single.TheVariants.{LinkIs, TestIs}

-- One more operand, and one more statement.
abbrev pub after_next : {V : Type 0} → (V → Single → V) → V → Condition → V
after_next after v operand = after_condition after v operand

pub after_then : {V : Type 0} (after : V → Single → V) (v : V) (statement : Statement Single CommandId StateId) (rest : Block)
    → after_block after (after_block after v (statement_then statement Done)) rest ≡ after_block after v (statement_then statement rest)
after_then after v (Run command) rest = refl
after_then after v (SetState state) rest = refl
after_then after v (If condition inner) rest = refl

-- A visitor that adds external tests to what it holds.
module _ {V B : Type 0} (make : B → V) (after : V → Single → V) (add : B → List TestId → B) (none : (b : B) → b ≡ add b [])
    (both : (b : B) (xs ys : List TestId) → add (add b xs) ys ≡ add b (xs ++ ys)) (one : (b : B) (single : Single) → after (make b) single ≡ make (add b (mentioned_here single))) where
  abbrev pub Adds : Condition → Type 0
  Adds condition = (b : B) → after_condition after (make b) condition ≡ make (add b (mentioned_in condition))

  two_add : (left right : Condition) → Adds left → Adds right → (b : B) → after_condition after (after_condition after (make b) left) right ≡ make (add b (mentioned_in left ++ mentioned_in right))
  two_add left right one_adds other_adds b =
      ap (λ v. after_condition after v right) (one_adds b) ∙ other_adds (add b (mentioned_in left)) ∙ ap make (both b (mentioned_in left) (mentioned_in right))

  pub condition_adds : (condition : Condition) → Adds condition
  condition_adds (Leaf single) = λ b. one b single
  condition_adds (NotSo operand) = condition_adds operand
  condition_adds (And left right) = two_add left right (condition_adds left) (condition_adds right)
  condition_adds (Or left right) = two_add left right (condition_adds left) (condition_adds right)

  pub block_adds : (b : B) (block : Block) → after_block after (make b) block ≡ make (add b (mentioned block))
  block_adds b Done = ap make (none b)
  block_adds b (RunThen command rest) = block_adds b rest
  block_adds b (SetStateThen state rest) = block_adds b rest
  block_adds b (IfThen condition inner rest) =
      let asked = mentioned_in condition in
      ap (λ v. after_block after (after_block after v inner) rest) (condition_adds condition b)
      ∙ ap (λ v. after_block after v rest) (block_adds (add b asked) inner)
      ∙ block_adds (add (add b asked) (mentioned inner)) rest
      ∙ ap make (both (add b asked) (mentioned inner) (mentioned rest) ∙ both b asked (mentioned inner ++ mentioned rest))

-- A visitor that finds out whether an external test passes.
or_none : (b : Bool) → b ≡ (b || false)
or_none true = refl
or_none false = refl

or_both : (a b c : Bool) → ((a || b) || c) ≡ (a || (b || c))
or_both true b c = refl
or_both false b c = refl

passes_here : (p : TestId → Bool) (single : Single) → has_test p single ≡ list_any p (mentioned_here single)
passes_here p (LinkIs interface state) = refl
passes_here p (TestIs test) = or_none (p test)

module _ {V : Type 0} (make : Bool → V) (after : V → Single → V) (p : TestId → Bool) (one : (b : Bool) (single : Single) → after (make b) single ≡ make (b || has_test p single)) where
  abbrev add : Bool → List TestId → Bool
  add b xs = b || list_any p xs

  both : (b : Bool) (xs ys : List TestId) → add (add b xs) ys ≡ add b (xs ++ ys)
  both b xs ys = or_both b (list_any p xs) (list_any p ys) ∙ ap (λ c. b || c) (sym (list_any-append p xs ys))

  here : (b : Bool) (single : Single) → after (make b) single ≡ make (add b (mentioned_here single))
  here b single = one b single ∙ ap (λ c. make (b || c)) (passes_here p single)

  pub condition_finds : (condition : Condition) → after_condition after (make false) condition ≡ make (list_any p (mentioned_in condition))
  condition_finds condition = condition_adds make after add or_none both here condition false

  pub block_finds : (block : Block) → after_block after (make false) block ≡ make (list_any p (mentioned block))
  block_finds block = block_adds make after add or_none both here false block
