-- The mentions inside blocks: no definition of a state, no `init` and no `init-state`.
use Rattle.std.proofs.Common.{◌++◌}
use Rattle.std.specs.List.{AllByRecursion}
use Rattle.ifs_parse.specs.Trees as tree
use Rattle.ifs_parse.specs.declared.tree.Name.{Name}
use Rattle.ifs_parse.specs.declared.tree.Test.{Test}
use Rattle.ifs_parse.specs.declared.tree.Test.TheVariants.{Link, External}
use Rattle.ifs_parse.specs.declared.tree.Wish.{Wish}
use Rattle.ifs_policy.specs.declared.mention.Half.{Half}
use Rattle.ifs_policy.specs.declared.mention.Mention.TheVariants as says
use Rattle.ifs_policy.specs.Mentions.{Mentioned, condition_mentions, block_mentions}
use Rattle.ifs_policy.proofs.Lists.{each_both}

abbrev pub IsInner : Mentioned → Type 0
IsInner (says.Defined name) = ⊥
IsInner (says.Init owner place) = ⊥
IsInner (says.InitState place) = ⊥
IsInner _ = Unit {0}

condition_inner : (half : Half) (c : tree.Condition Test) → AllByRecursion IsInner (condition_mentions half c)
condition_inner half (tree.Leaf (Link name state)) = (tt, tt)
condition_inner half (tree.Leaf (External command period)) = (tt, tt)
condition_inner half (tree.NotSo c) = condition_inner half c
condition_inner half (tree.And a b) = each_both IsInner (condition_mentions half a) (condition_mentions half b) (condition_inner half a) (condition_inner half b)
condition_inner half (tree.Or a b) = each_both IsInner (condition_mentions half a) (condition_mentions half b) (condition_inner half a) (condition_inner half b)

pub block_inner : (half : Half) (b : tree.Block Test Name Wish) → AllByRecursion IsInner (block_mentions half b)
block_inner half tree.Done = tt
block_inner half (tree.RunThen command rest) = (tt, block_inner half rest)
block_inner half (tree.SetStateThen target rest) = (tt, (tt, block_inner half rest))
block_inner half (tree.IfThen c inner rest) =
    each_both IsInner (condition_mentions half c) (block_mentions half inner ++ block_mentions half rest) (condition_inner half c)
    (each_both IsInner (block_mentions half inner) (block_mentions half rest) (block_inner half inner) (block_inner half rest))
