-- Codes of trees: trees with equal codes are equal.
use Rattle.std.specs.Prelude.{◌≡◌, refl}
use Rattle.std.specs.Coded.{Coded}
use base.Stored.{Gv, gnil, gnum, gcons}
use Rattle.ifs_parse.specs.Trees.{Condition, Leaf, NotSo, And, Or, Block, Done, RunThen, SetStateThen, IfThen}

module _ {L : Type 0} (leaf : Coded L) where
  abbrev pub code_condition : Condition L → Gv
  code_condition (Leaf l) = gcons (gnum 0) (leaf.code l)
  code_condition (NotSo c) = gcons (gnum 1) (code_condition c)
  code_condition (And a b) = gcons (gnum 2) (gcons (code_condition a) (code_condition b))
  code_condition (Or a b) = gcons (gnum 3) (gcons (code_condition a) (code_condition b))

  pub same_condition : (c d : Condition L) → code_condition c ≡ code_condition d → c ≡ d
  same_condition (Leaf l) (Leaf m) p = let same = leaf.inj l m (cc) in cc
  same_condition (NotSo c) (NotSo d) p = let same = same_condition c d (cc) in cc
  same_condition (And a b) (And d e) p = let left = same_condition a d (cc) in let right = same_condition b e (cc) in cc
  same_condition (Or a b) (Or d e) p = let left = same_condition a d (cc) in let right = same_condition b e (cc) in cc
  same_condition _ _ p = cc

  abbrev pub condition_code : Coded (Condition L)
  condition_code = record { code = code_condition; inj = same_condition }

module _ {L R S : Type 0} (leaf : Coded L) (command : Coded R) (state : Coded S) where
  abbrev pub code_block : Block L R S → Gv
  code_block Done = gcons (gnum 0) gnil
  code_block (RunThen r rest) = gcons (gnum 1) (gcons (command.code r) (code_block rest))
  code_block (SetStateThen s rest) = gcons (gnum 2) (gcons (state.code s) (code_block rest))
  code_block (IfThen c inner rest) = gcons (gnum 3) (gcons (code_condition leaf c) (gcons (code_block inner) (code_block rest)))

  pub same_block : (a b : Block L R S) → code_block a ≡ code_block b → a ≡ b
  same_block Done Done p = refl
  same_block (RunThen r rest) (RunThen q more) p = let first = command.inj r q (cc) in let others = same_block rest more (cc) in cc
  same_block (SetStateThen s rest) (SetStateThen t more) p = let first = state.inj s t (cc) in let others = same_block rest more (cc) in cc
  same_block (IfThen c inner rest) (IfThen d within more) p =
      let test = same_condition leaf c d (cc) in let body = same_block inner within (cc) in let others = same_block rest more (cc) in cc
  same_block _ _ p = cc

  abbrev pub block_code : Coded (Block L R S)
  block_code = record { code = code_block; inj = same_block }
