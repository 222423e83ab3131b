-- The places of a policy are what those of its tree are.
use Rattle.std.proofs.Common.{◌≡◌, ℕ, ◌≤◌, Bool, true, false, not, List, [], ◌∷◌, ◌++◌, map, length, drop, set, get_or, ◌⊎◌, ⊎_elim, zero, suc, refl, sym, ap, ◌∙◌, append_assoc}
use Rattle.std.specs.List.{flat_map}
use Rattle.std.proofs.lemmas.List.{append-nil, map-append, map-set, set-get_or, drop_all}
use Rattle.ifs_parse.specs.Trees as tree
use Rattle.ifs_parse.specs.Views.{joined_of, block_of, statement_then}
use Rattle.ifs_parse.specs.declared.block.Statement.{Statement}
use Rattle.ifs_parse.specs.declared.block.Statement.TheVariants.{Run, SetState, If}
use Rattle.ifs_parse.specs.declared.tree.Item.{Item}
use Rattle.ifs_parse.specs.declared.tree.Item.TheVariants.{InitState, State, Always}
use Rattle.ifs_parse.specs.declared.tree.Name.{Name}
use Rattle.ifs_parse.specs.declared.tree.Part.{Part}
use Rattle.ifs_parse.specs.declared.tree.Part.TheVariants.{Init, Do}
use Rattle.ifs_parse.specs.declared.tree.Test.{Test}
use Rattle.ifs_parse.specs.declared.tree.Wish.{Wish}
use Rattle.ifs_policy.specs.Meaning.{Condition, Block}
use Rattle.ifs_policy.specs.Resolution.{place_condition, place_block, place_part, place_states, place_items, always_of, init_in, body_in}
use Rattle.ifs_policy.specs.declared.policy.Handlers.{Handlers}
use Rattle.ifs_policy.specs.declared.policy.PolicyParts.{PolicyParts}
use Rattle.ifs_policy.specs.declared.tables.Tables.{Tables}
use Rattle.ifs_solver.specs.Places as places
use Rattle.ifs_solver.specs.Places.{Here}
use Rattle.ifs_lint.specs.declared.marks.Kind.{Kind}
use Rattle.ifs_lint.specs.declared.marks.Kind.TheVariants as kind
use Rattle.ifs_lint.specs.declared.marks.Mark.{Mark}
use Rattle.ifs_lint.specs.inner.Marking.{kind_of_mark, kinds_in, kind_of_place, is_chain, own_kinds, operand_kinds, next_kinds, block_kinds, statement_kinds, part_kinds, body_kinds, always_kinds, state_kinds, tree_kinds}

-- What is a chain.
chain_is : (deciding : Bool) (c : Condition) → places.is_chain deciding c ≡ is_chain deciding c
chain_is false (tree.Leaf single) = refl
chain_is false (tree.NotSo operand) = refl
chain_is false (tree.And left right) = refl
chain_is false (tree.Or left right) = refl
chain_is true (tree.Leaf single) = refl
chain_is true (tree.NotSo operand) = refl
chain_is true (tree.And left right) = refl
chain_is true (tree.Or left right) = refl

own_is : (several : Bool) (here : Here) (c : Condition) → map kind_of_place (places.own_place several here c) ≡ own_kinds several
own_is true here c = refl
own_is false here c = refl

-- The first operands of a chain, and the second one.
both_are : (deciding : Bool) (here there : Here) (left right : Condition) → map kind_of_place (places.operand_places here left) ≡ operand_kinds left → map kind_of_place (places.operand_places there right) ≡ operand_kinds right
    → map kind_of_place ((places.own_place (places.is_chain deciding left) here left ++ places.operand_places here left) ++ (places.Test there right ∷ places.operand_places there right))
    ≡ (own_kinds (is_chain deciding left) ++ operand_kinds left) ++ kind.Test ∷ operand_kinds right
both_are deciding here there left right h k =
    let own = own_is (places.is_chain deciding left) here left ∙ ap own_kinds (chain_is deciding left) in
    let first =
    map-append kind_of_place (places.own_place (places.is_chain deciding left) here left) (places.operand_places here left)
    ∙ ap (λ xs. xs ++ map kind_of_place (places.operand_places here left)) own ∙ ap (λ xs. own_kinds (is_chain deciding left) ++ xs) h in
    map-append kind_of_place (places.own_place (places.is_chain deciding left) here left ++ places.operand_places here left) (places.Test there right ∷ places.operand_places there right)
    ∙ ap (λ xs. xs ++ kind.Test ∷ map kind_of_place (places.operand_places there right)) first
    ∙ ap (λ xs. (own_kinds (is_chain deciding left) ++ operand_kinds left) ++ kind.Test ∷ xs) k

-- The places of the operands in a condition.
operands_are : (here : Here) (c : Condition) → map kind_of_place (places.operand_places here c) ≡ operand_kinds c
operands_are here (tree.Leaf single) = refl
operands_are here (tree.NotSo operand) = operands_are here operand
operands_are here (tree.And left right) = both_are false here (places.where_is true here left) left right (operands_are here left) (operands_are (places.where_is true here left) right)
operands_are here (tree.Or left right) = both_are true here (places.where_is false here left) left right (operands_are here left) (operands_are (places.where_is false here left) right)

-- The places of a block.
block_are : (here later : Here) (others : List Here) (b : Block) → map kind_of_place (places.block_places here later others b) ≡ block_kinds b
block_are here later others tree.Done = refl
block_are here later others (tree.RunThen command rest) = ap (λ xs. kind.Command ∷ xs) (block_are here later others rest)
block_are here later others (tree.SetStateThen target rest) = ap (λ xs. kind.Wish ∷ xs) (block_are here later others rest)
block_are here later others (tree.IfThen condition inner rest) =
    let inside = places.block_places (places.where_is true here condition) (places.or_wish later rest) others inner in
    let first =
    map-append kind_of_place (places.condition_places here condition) inside ∙ ap (λ xs. (kind.Test ∷ xs) ++ map kind_of_place inside) (operands_are here condition)
    ∙ ap (λ xs. (kind.Test ∷ operand_kinds condition) ++ xs) (block_are (places.where_is true here condition) (places.or_wish later rest) others inner) in
    map-append kind_of_place (places.condition_places here condition ++ inside) (places.block_places here later others rest) ∙ ap (λ xs. xs ++ map kind_of_place (places.block_places here later others rest)) first
    ∙ ap (λ xs. ((kind.Test ∷ operand_kinds condition) ++ block_kinds inner) ++ xs) (block_are here later others rest)

part_are : (others : List Here) (part : Handlers) → map kind_of_place (places.part_places others part) ≡ part_kinds part
part_are others part =
    let inits = places.block_places places.always_here places.never_here others part.init in
    let bodies = places.block_places (places.where_free part.body) places.never_here others part.body in
    map-append kind_of_place inits bodies ∙ ap (λ xs. xs ++ map kind_of_place bodies) (block_are places.always_here places.never_here others part.init)
    ∙ ap (λ xs. block_kinds part.init ++ xs) (block_are (places.where_free part.body) places.never_here others part.body)

parts_are : (parts : List Handlers) → map kind_of_place (flat_map (places.part_places places.nothing_after) parts) ≡ flat_map part_kinds parts
parts_are [] = refl
parts_are (part ∷ rest) =
    let others = flat_map (places.part_places places.nothing_after) rest in
    map-append kind_of_place (places.part_places places.nothing_after part) others ∙ ap (λ xs. xs ++ map kind_of_place others) (part_are places.nothing_after part)
    ∙ ap (λ xs. part_kinds part ++ xs) (parts_are rest)

-- The places of a policy are those of its parts.
pub policy_are : (policy : PolicyParts) → map kind_of_place (places.places_of policy) ≡ part_kinds policy.always ++ flat_map part_kinds policy.states
policy_are policy =
    let always = places.part_places (places.bodies_after_always policy.states) policy.always in
    let states = flat_map (places.part_places places.nothing_after) policy.states in
    map-append kind_of_place always states ∙ ap (λ xs. xs ++ map kind_of_place states) (part_are (places.bodies_after_always policy.states) policy.always)
    ∙ ap (λ xs. part_kinds policy.always ++ xs) (parts_are policy.states)

-- A name for a place does not change what a condition or a block has.
chain_placed : (tables : Tables) (deciding : Bool) (c : tree.Condition Test) → is_chain deciding (place_condition tables c) ≡ is_chain deciding c
chain_placed tables false (tree.Leaf test) = refl
chain_placed tables false (tree.NotSo operand) = refl
chain_placed tables false (tree.And left right) = refl
chain_placed tables false (tree.Or left right) = refl
chain_placed tables true (tree.Leaf test) = refl
chain_placed tables true (tree.NotSo operand) = refl
chain_placed tables true (tree.And left right) = refl
chain_placed tables true (tree.Or left right) = refl

both_placed : (one other : Bool) (a b c d : List Kind) → one ≡ other → a ≡ b → c ≡ d → (own_kinds one ++ a) ++ kind.Test ∷ c ≡ (own_kinds other ++ b) ++ kind.Test ∷ d
both_placed one other a b c d e f g = λ i. (own_kinds (e i) ++ f i) ++ kind.Test ∷ g i

operands_placed : (tables : Tables) (c : tree.Condition Test) → operand_kinds (place_condition tables c) ≡ operand_kinds c
operands_placed tables (tree.Leaf test) = refl
operands_placed tables (tree.NotSo operand) = operands_placed tables operand
operands_placed tables (tree.And left right) =
    both_placed (is_chain false (place_condition tables left)) (is_chain false left) (operand_kinds (place_condition tables left)) (operand_kinds left) (operand_kinds (place_condition tables right)) (operand_kinds right)
    (chain_placed tables false left) (operands_placed tables left) (operands_placed tables right)
operands_placed tables (tree.Or left right) =
    both_placed (is_chain true (place_condition tables left)) (is_chain true left) (operand_kinds (place_condition tables left)) (operand_kinds left) (operand_kinds (place_condition tables right)) (operand_kinds right)
    (chain_placed tables true left) (operands_placed tables left) (operands_placed tables right)

block_placed : (tables : Tables) (b : tree.Block Test Name Wish) → block_kinds (place_block tables b) ≡ block_kinds b
block_placed tables tree.Done = refl
block_placed tables (tree.RunThen command rest) = ap (λ xs. kind.Command ∷ xs) (block_placed tables rest)
block_placed tables (tree.SetStateThen target rest) = ap (λ xs. kind.Wish ∷ xs) (block_placed tables rest)
block_placed tables (tree.IfThen condition inner rest) =
    let c = operands_placed tables condition in
    let i = block_placed tables inner in
    let r = block_placed tables rest in
    λ k. ((kind.Test ∷ c k) ++ i k) ++ r k

-- A block is its first statement and the rest.
then_is : {L R S : Type 0} (statement : Statement L R S) (rest : tree.Block L R S) → block_kinds (statement_then statement rest) ≡ statement_kinds statement ++ block_kinds rest
then_is (Run command) rest = refl
then_is (SetState state) rest = refl
then_is (If condition inner) rest = refl

-- The body of a part is its statements.
body_is : (parts : List Part) → block_kinds (body_in parts) ≡ flat_map body_kinds parts
body_is [] = refl
body_is (Init place block ∷ rest) = body_is rest
body_is (Do statement ∷ rest) = then_is statement (body_in rest) ∙ ap (λ xs. statement_kinds statement ++ xs) (body_is rest)

always_is : (items : List Item) → flat_map body_kinds (always_of items) ≡ flat_map always_kinds items
always_is [] = refl
always_is (InitState place name ∷ rest) = always_is rest
always_is (State name parts ∷ rest) = always_is rest
always_is (Always part ∷ rest) = ap (λ xs. body_kinds part ++ xs) (always_is rest)

part_placed : (tables : Tables) (parts : List Part) → part_kinds (place_part tables parts) ≡ block_kinds (init_in parts) ++ flat_map body_kinds parts
part_placed tables parts =
    let inits = block_placed tables (init_in parts) in
    let bodies = block_placed tables (body_in parts) ∙ body_is parts in
    λ i. inits i ++ bodies i

states_placed : (tables : Tables) (items : List Item) → flat_map part_kinds (place_states tables items) ≡ flat_map state_kinds items
states_placed tables [] = refl
states_placed tables (State name parts ∷ rest) =
    let first = part_placed tables parts in
    let others = states_placed tables rest in
    λ i. first i ++ others i
states_placed tables (Always part ∷ rest) = states_placed tables rest
states_placed tables (InitState place name ∷ rest) = states_placed tables rest

-- The places of a policy are what those of its tree are, in order.
pub places_placed : (tables : Tables) (items : List Item) → tree_kinds items ≡ map kind_of_place (places.places_of (place_items tables items))
places_placed tables items =
    let policy = place_items tables items in
    let inits = block_kinds (init_in (always_of items)) in
    sym
    (policy_are policy ∙ ap (λ xs. xs ++ flat_map part_kinds policy.states) (part_placed tables (always_of items)) ∙ ap (λ xs. (inits ++ xs) ++ flat_map part_kinds policy.states) (always_is items)
    ∙ ap (λ xs. (inits ++ flat_map always_kinds items) ++ xs) (states_placed tables items))

-- What code adds for the operands of a chain.
pub chain_kinds : {L : Type 0} (first : tree.Condition L) (rest : List (tree.Condition L)) → is_chain false first ≡ true
    → operand_kinds (joined_of tree.And first rest) ≡ operand_kinds first ++ flat_map next_kinds rest
chain_kinds first [] chain = sym (append-nil (operand_kinds first))
chain_kinds first (next ∷ rest) chain =
    chain_kinds (tree.And first next) rest refl
    ∙ ap (λ several. ((own_kinds several ++ operand_kinds first) ++ kind.Test ∷ operand_kinds next) ++ flat_map next_kinds rest) chain
    ∙ append_assoc (operand_kinds first) (kind.Test ∷ operand_kinds next) (flat_map next_kinds rest)

pub other_chain_kinds : {L : Type 0} (first : tree.Condition L) (rest : List (tree.Condition L)) → is_chain true first ≡ true
    → operand_kinds (joined_of tree.Or first rest) ≡ operand_kinds first ++ flat_map next_kinds rest
other_chain_kinds first [] chain = sym (append-nil (operand_kinds first))
other_chain_kinds first (next ∷ rest) chain =
    other_chain_kinds (tree.Or first next) rest refl
    ∙ ap (λ several. ((own_kinds several ++ operand_kinds first) ++ kind.Test ∷ operand_kinds next) ++ flat_map next_kinds rest) chain
    ∙ append_assoc (operand_kinds first) (kind.Test ∷ operand_kinds next) (flat_map next_kinds rest)

-- A node of several operands is a chain of its sign.
pub and_chain : {L : Type 0} (deciding : Bool) (first second : tree.Condition L) (rest : List (tree.Condition L)) → is_chain deciding (joined_of tree.And (tree.And first second) rest) ≡ not deciding
and_chain true first second [] = refl
and_chain false first second [] = refl
and_chain deciding first second (next ∷ rest) = and_chain deciding (tree.And first second) next rest

pub or_chain : {L : Type 0} (deciding : Bool) (first second : tree.Condition L) (rest : List (tree.Condition L)) → is_chain deciding (joined_of tree.Or (tree.Or first second) rest) ≡ deciding
or_chain true first second [] = refl
or_chain false first second [] = refl
or_chain deciding first second (next ∷ rest) = or_chain deciding (tree.Or first second) next rest

-- The places of the operands of a chain, given the sign of its node.
pub node_kinds : {N L : Type 0} (view : N → tree.Condition L) (sign : N → Bool) (node all any : N) (first second : tree.Condition L) (rest : List (tree.Condition L)) → (node ≡ all) ⊎ (node ≡ any)
    → view all ≡ joined_of tree.And (tree.And first second) rest → view any ≡ joined_of tree.Or (tree.Or first second) rest → sign all ≡ false → sign any ≡ true
    → operand_kinds (view node) ≡ ((own_kinds (is_chain (sign node) first) ++ operand_kinds first) ++ next_kinds second) ++ flat_map next_kinds rest
node_kinds view sign node all any first second rest is all_is any_is both either =
    ⊎_elim
    (λ e. ap (λ n. operand_kinds (view n)) e ∙ ap operand_kinds all_is ∙ chain_kinds (tree.And first second) rest refl
    ∙ ap (λ d. ((own_kinds (is_chain d first) ++ operand_kinds first) ++ next_kinds second) ++ flat_map next_kinds rest) (sym (ap sign e ∙ both)))
    (λ e. ap (λ n. operand_kinds (view n)) e ∙ ap operand_kinds any_is ∙ other_chain_kinds (tree.Or first second) rest refl
    ∙ ap (λ d. ((own_kinds (is_chain d first) ++ operand_kinds first) ++ next_kinds second) ++ flat_map next_kinds rest) (sym (ap sign e ∙ either)))
    is

-- Marks that are added one after the other.
pub one_after : (start one two all first second others whole : List Kind) → one ≡ start ++ first → two ≡ one ++ second → all ≡ two ++ others → whole ≡ (first ++ second) ++ others → all ≡ start ++ whole
one_after start one two all first second others whole a b c d =
    c ∙ ap (λ xs. xs ++ others) (b ∙ ap (λ xs. xs ++ second) a ∙ append_assoc start first second) ∙ append_assoc start (first ++ second) others ∙ ap (λ xs. start ++ xs) (sym d)

-- Nothing is left.
pub none_left : {X : Type 0} (f : X → List Kind) (made whole : List Kind) (xs : List X) (i : ℕ) → length xs ≤ i → made ++ flat_map f (drop i xs) ≡ whole → made ≡ whole
none_left f made whole xs i all h = sym (append-nil made) ∙ ap (λ ys. made ++ flat_map f ys) (sym (drop_all i xs all)) ∙ h

mapped_at : {X Y : Type 0} (f : X → Y) (xs : List X) (i : ℕ) (d : X) → get_or (map f xs) i (f d) ≡ f (get_or xs i d)
mapped_at f [] i d = refl
mapped_at f (x ∷ xs) zero d = refl
mapped_at f (x ∷ xs) (suc i) d = mapped_at f xs i d

-- Other tokens do not change what a place is.
pub set_kept : (marks : List Mark) (i : ℕ) (mark old : Mark) → kind_of_mark mark ≡ kind_of_mark old → old ≡ get_or marks i old → kinds_in (set marks i mark) ≡ kinds_in marks
set_kept marks i mark old same is =
    map-set kind_of_mark marks i mark ∙ ap (set (kinds_in marks) i) (same ∙ ap kind_of_mark is ∙ sym (mapped_at kind_of_mark marks i old)) ∙ set-get_or (kinds_in marks) i (kind_of_mark old)

-- A block is its statements.
pub block_is : {L R S : Type 0} (statements : List (Statement L R S)) → block_kinds (block_of statements) ≡ flat_map statement_kinds statements
block_is [] = refl
block_is (Run command ∷ rest) = ap (λ xs. kind.Command ∷ xs) (block_is rest)
block_is (SetState state ∷ rest) = ap (λ xs. kind.Wish ∷ xs) (block_is rest)
block_is (If condition inner ∷ rest) = ap (λ xs. ((kind.Test ∷ operand_kinds condition) ++ block_kinds inner) ++ xs) (block_is rest)
