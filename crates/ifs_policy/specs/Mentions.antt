-- The mentions of names in a tree, in text order.
use Rattle.std.specs.Prelude.{ℕ, List, [], ◌∷◌, ◌++◌}
use Rattle.std.specs.List.{flat_map}
use Rattle.ifs_parse.specs.Trees as tree
use Rattle.ifs_parse.specs.Views.{statement_then}
use Rattle.ifs_parse.specs.declared.tree.Name.{Name}
use Rattle.ifs_parse.specs.declared.tree.Test.{Test}
use Rattle.ifs_parse.specs.declared.tree.Test.TheVariants.{Link, External}
use Rattle.ifs_parse.specs.declared.tree.Wish.{Wish}
use Rattle.ifs_parse.specs.declared.tree.Part.{Part}
use Rattle.ifs_parse.specs.declared.tree.Part.TheVariants.{Init, Do}
use Rattle.ifs_parse.specs.declared.tree.Item.{Item}
use Rattle.ifs_parse.specs.declared.tree.Item.TheVariants.{InitState, State, Always}
use Rattle.ifs_parse.specs.declared.block.Statement.{Statement}
use Rattle.ifs_policy.specs.declared.mention.Mention.{Mention}
use Rattle.ifs_policy.specs.declared.mention.Mention.TheVariants as says
use Rattle.ifs_policy.specs.declared.mention.Half.{Half}
use Rattle.ifs_policy.specs.declared.mention.Half.TheVariants as at
use Rattle.ifs_policy.specs.declared.mention.Owner.{Owner}
use Rattle.ifs_policy.specs.declared.mention.Owner.TheVariants as whose

-- A mention of a string of the text.
abbrev pub Mentioned : Type 0
Mentioned = Mention Name ℕ

-- The mention in a single test.
abbrev pub test_mention : Half → Test → Mentioned
test_mention half (Link name state) = says.Interface name
test_mention half (External command period) = says.External half command period

-- The mentions in a condition, from the left.
abbrev pub condition_mentions : Half → tree.Condition Test → List Mentioned
condition_mentions half (tree.Leaf test) = test_mention half test ∷ []
condition_mentions half (tree.NotSo operand) = condition_mentions half operand
condition_mentions half (tree.And left right) = condition_mentions half left ++ condition_mentions half right
condition_mentions half (tree.Or left right) = condition_mentions half left ++ condition_mentions half right

-- The mentions in statements, in order.
abbrev pub block_mentions : Half → tree.Block Test Name Wish → List Mentioned
block_mentions half tree.Done = []
block_mentions half (tree.RunThen command rest) = says.Command command ∷ block_mentions half rest
block_mentions half (tree.SetStateThen target rest) = says.SetState half target.place ∷ says.Target target.state ∷ block_mentions half rest
block_mentions half (tree.IfThen condition inner rest) = condition_mentions half condition ++ (block_mentions half inner ++ block_mentions half rest)

-- The mentions in one statement.
abbrev pub statement_mentions : Half → Statement Test Name Wish → List Mentioned
statement_mentions half statement = block_mentions half (statement_then statement tree.Done)

-- The mentions in a part: an `init` with its block, or a statement of the body.
abbrev pub part_mentions : Owner → Part → List Mentioned
part_mentions owner (Init place block) = says.Init owner place ∷ block_mentions at.Init block
part_mentions owner (Do statement) = statement_mentions at.Body statement

-- The mentions in an item.
abbrev pub item_mentions : Item → List Mentioned
item_mentions (InitState place name) = says.InitState place ∷ says.Target name ∷ []
item_mentions (State name parts) = says.Defined name ∷ flat_map (part_mentions whose.State) parts
item_mentions (Always part) = part_mentions whose.Always part

-- The mentions in the items of a tree.
abbrev pub mentions_of : List Item → List Mentioned
mentions_of items = flat_map item_mentions items
