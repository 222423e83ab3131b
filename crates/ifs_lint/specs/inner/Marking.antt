-- What the places of a policy are, by its tree.
use Rattle.std.specs.Prelude.{Bool, true, false, List, [], ◌∷◌, ◌++◌, map}
use Rattle.std.specs.List.{flat_map}
use Rattle.ifs_parse.specs.Trees.{Condition, Block, Leaf, NotSo, And, Or, Done, RunThen, SetStateThen, IfThen}
use Rattle.ifs_parse.specs.declared.condition.Node.{Node}
use Rattle.ifs_parse.specs.declared.condition.Node.TheVariants as node
use Rattle.ifs_parse.specs.declared.block.Statement.{Statement}
use Rattle.ifs_parse.specs.declared.block.Statement.TheVariants.{Run, SetState, If}
use Rattle.ifs_parse.specs.declared.tree.Part.{Part}
use Rattle.ifs_parse.specs.declared.tree.Part.TheVariants.{Init, Do}
use Rattle.ifs_parse.specs.declared.tree.Item.{Item}
use Rattle.ifs_parse.specs.declared.tree.Item.TheVariants.{InitState, State, Always}
use Rattle.ifs_policy.specs.Resolution.{always_of, init_in}
use Rattle.ifs_policy.specs.declared.policy.Handlers.{Handlers}
use Rattle.ifs_solver.specs.Places.{Place, Test, Command, Wish}
use Rattle.ifs_lint.specs.declared.marks.Kind.{Kind}
use Rattle.ifs_lint.specs.declared.marks.Kind.TheVariants as kind
use Rattle.ifs_lint.specs.declared.marks.Mark.{Mark}

-- What a place is.
abbrev pub kind_of_place : Place → Kind
kind_of_place (Test here condition) = kind.Test
kind_of_place (Command here) = kind.Command
kind_of_place (Wish here later others) = kind.Wish

-- What the place of a mark is.
abbrev pub kind_of_mark : Mark → Kind
kind_of_mark mark = mark.kind

-- What the places of marks are.
abbrev pub kinds_in : List Mark → List Kind
kinds_in marks = map kind_of_mark marks

-- One true operand decides a node: it does for `||`.
abbrev pub joins : {L : Type 0} → Node L → Bool
joins (node.Leaf test) = false
joins (node.Not operand) = false
joins (node.All first second rest) = false
joins (node.Any first second rest) = true

-- A condition is a chain of `&&`, or of `||`.
abbrev pub is_chain : {L : Type 0} → Bool → Condition L → Bool
is_chain false (And left right) = true
is_chain true (Or left right) = true
is_chain deciding condition = false

-- The place of the first operands of a chain, unless they are several.
abbrev pub own_kinds : Bool → List Kind
own_kinds true = []
own_kinds false = kind.Test ∷ []

-- The places of the operands in a condition.
abbrev pub operand_kinds : {L : Type 0} → Condition L → List Kind
operand_kinds (Leaf test) = []
operand_kinds (NotSo operand) = operand_kinds operand
operand_kinds (And left right) = (own_kinds (is_chain false left) ++ operand_kinds left) ++ kind.Test ∷ operand_kinds right
operand_kinds (Or left right) = (own_kinds (is_chain true left) ++ operand_kinds left) ++ kind.Test ∷ operand_kinds right

-- The places of a further operand of a chain: its own, and those of the operands in it.
abbrev pub next_kinds : {L : Type 0} → Condition L → List Kind
next_kinds operand = own_kinds false ++ operand_kinds operand

-- The places of a block, in text order.
abbrev pub block_kinds : {L R S : Type 0} → Block L R S → List Kind
block_kinds Done = []
block_kinds (RunThen command rest) = kind.Command ∷ block_kinds rest
block_kinds (SetStateThen state rest) = kind.Wish ∷ block_kinds rest
block_kinds (IfThen condition inner rest) = ((kind.Test ∷ operand_kinds condition) ++ block_kinds inner) ++ block_kinds rest

-- The places of a statement.
abbrev pub statement_kinds : {L R S : Type 0} → Statement L R S → List Kind
statement_kinds (Run command) = kind.Command ∷ []
statement_kinds (SetState state) = kind.Wish ∷ []
statement_kinds (If condition inner) = (kind.Test ∷ operand_kinds condition) ++ block_kinds inner

-- The places of a part of a policy: those of its init, and those of its body.
abbrev pub part_kinds : Handlers → List Kind
part_kinds part = block_kinds part.init ++ block_kinds part.body

-- The places of a part that is a statement.
abbrev pub body_kinds : Part → List Kind
body_kinds (Init place block) = []
body_kinds (Do statement) = statement_kinds statement

-- The places of a statement outside of states.
abbrev pub always_kinds : Item → List Kind
always_kinds (InitState place name) = []
always_kinds (State name parts) = []
always_kinds (Always part) = body_kinds part

-- The places of the state that an item defines, if it does: those of its init, and those of its body.
abbrev pub state_kinds : Item → List Kind
state_kinds (InitState place name) = []
state_kinds (State name parts) = block_kinds (init_in parts) ++ flat_map body_kinds parts
state_kinds (Always part) = []

-- The places of a policy: those of the always part, and those of each state.
abbrev pub tree_kinds : List Item → List Kind
tree_kinds items = (block_kinds (init_in (always_of items)) ++ flat_map always_kinds items) ++ flat_map state_kinds items
