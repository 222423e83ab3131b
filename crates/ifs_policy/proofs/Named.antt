-- With its names, a policy says what its tree says.
use Rattle.std.proofs.Common.{◌≡◌, ℕ, suc, ◌+◌, Bool, true, false, cond, not, nat_eq, ◌||◌, true≢false, List, [], ◌∷◌, ◌++◌, Option, Some, refl, sym, ap, subst, ◌∙◌, arith}
use Rattle.std.specs.Prelude.{slice_get}
use Rattle.std.specs.List.{flat_map, list_any, position_or_len}
use Rattle.std.proofs.lemmas.Bool.{and_parts, eqb-true}
use Rattle.ifs_parse.specs.Trees as tree
use Rattle.ifs_parse.specs.Views.{statement_then, block_of}
use Rattle.ifs_parse.specs.declared.tree.Name.{Name}
use Rattle.ifs_parse.specs.declared.tree.Test.{Test}
use Rattle.ifs_parse.specs.declared.tree.Test.TheVariants.{Link, External}
use Rattle.ifs_parse.specs.declared.tree.Wish.{Wish}
use Rattle.ifs_parse.specs.declared.tree.Part.{Part}
use Rattle.ifs_parse.specs.declared.tree.Part.TheVariants.{Init, Do}
use Rattle.ifs_parse.specs.declared.tree.Item.{Item}
use Rattle.ifs_parse.specs.declared.tree.Item.TheVariants.{InitState, State, Always}
use Rattle.ifs_parse.specs.declared.block.Statement.{Statement}
use Rattle.ifs_parse.specs.declared.block.Statement.TheVariants.{Run, SetState, If}
use Rattle.ifs_policy.specs.declared.mention.Half.{Half}
use Rattle.ifs_policy.specs.declared.mention.Half.TheVariants as at
use Rattle.ifs_policy.specs.declared.mention.Owner.{Owner}
use Rattle.ifs_policy.specs.declared.mention.Owner.TheVariants as whose
use Rattle.ifs_policy.specs.declared.policy.PolicyParts.{PolicyParts}
use Rattle.ifs_policy.specs.declared.tables.ExternalTest.{ExternalTest}
use Rattle.ifs_policy.specs.declared.tables.Tables.{Tables}
use Rattle.ifs_policy.specs.Mentions.{condition_mentions, block_mentions}
use Rattle.ifs_policy.specs.Mentions.{statement_mentions, part_mentions, mentions_of}
use Rattle.ifs_policy.specs.Tables.{text_eq, test_eq, test_of, no_names, tables_of}
use Rattle.ifs_policy.specs.Resolution.{place_condition, place_block, place_part, init_in, body_in}
use Rattle.ifs_policy.specs.Resolution.{always_of, place_states, initial_of, place_items, Resolves}
use Rattle.ifs_policy.specs.Whole.{TextBlock, inits_of, outside, of_states, init_states}
use Rattle.ifs_policy.specs.Named.{NamedSingle, NamedLink, NamedTest, NamedBlock, with_leaves, text_single, text_block}
use Rattle.ifs_policy.specs.Named.{named_single, named_block, statements_of, AreHandlersOf, AreHandlersOfStates, SaysTree}
use Rattle.ifs_policy.proofs.Lists.{each_left, each_right}
use Rattle.ifs_policy.proofs.Filled.{IsListed, AreListed, all_listed}
use Rattle.ifs_policy.proofs.Fitting.{always_listed}
use Rattle.ifs_policy.proofs.Running.{text_from}

-- Under the place of an entry is the entry.
found : {X : Type 0} (eq : X → X → Bool) (x : X) → ((y : X) → eq x y ≡ true → x ≡ y) → (xs : List X) → list_any (eq x) xs ≡ true
    → slice_get xs (position_or_len (eq x) xs) ≡ Some x
found eq x same [] h = absurd (true≢false (sym h))
found {X} eq x same (y ∷ ys) h = by (eq x y) refl h (found eq x same ys)
  where
    by : (b : Bool) → eq x y ≡ b → (b || list_any (eq x) ys) ≡ true → (list_any (eq x) ys ≡ true → slice_get ys (position_or_len (eq x) ys) ≡ Some x)
        → slice_get (y ∷ ys) (cond (not b) (1 + position_or_len (eq x) ys) 0) ≡ Some x
    by true e h rest = ap Some (sym (same y e))
    by false e h rest =
        let more : 1 + position_or_len (eq x) ys ≡ suc (position_or_len (eq x) ys) = omega arith in
        ap (slice_get (y ∷ ys)) more ∙ rest h

text_found : (texts : List (List ℕ)) (text : List ℕ) → list_any (text_eq text) texts ≡ true → slice_get texts (position_or_len (text_eq text) texts) ≡ Some text
text_found texts text h = found text_eq text (text_from text) texts h

test_from : (one other : ExternalTest) → test_eq one other ≡ true → one ≡ other
test_from one other h =
    let parts = and_parts (text_eq one.command other.command) (nat_eq one.period other.period) h in
    λ i. record { command = text_from one.command other.command parts.0 i; period = eqb-true one.period other.period parts.1 i }

test_found : (tests : List ExternalTest) (test : ExternalTest) → list_any (test_eq test) tests ≡ true → slice_get tests (position_or_len (test_eq test) tests) ≡ Some test
test_found tests test h = found test_eq test (test_from test) tests h

-- Two operands under a sign have their names if both do.
named_both : (tables : Tables) (half : Half) (left right : tree.Condition Test) (sign : tree.Condition NamedSingle → tree.Condition NamedSingle → tree.Condition NamedSingle)
    → (AreListed tables (condition_mentions half left) → with_leaves (named_single tables) (place_condition tables left) ≡ with_leaves text_single left)
    → (AreListed tables (condition_mentions half right) → with_leaves (named_single tables) (place_condition tables right) ≡ with_leaves text_single right)
    → AreListed tables (condition_mentions half left ++ condition_mentions half right)
    → sign (with_leaves (named_single tables) (place_condition tables left)) (with_leaves (named_single tables) (place_condition tables right))
    ≡ sign (with_leaves text_single left) (with_leaves text_single right)
named_both tables half left right sign one two h =
    let first = condition_mentions half left in
    let second = condition_mentions half right in
    let on_left = one (each_left (IsListed tables) first second h) in
    let on_right = two (each_right (IsListed tables) first second h) in
    λ i. sign (on_left i) (on_right i)

named_condition : (tables : Tables) (half : Half) (c : tree.Condition Test) → AreListed tables (condition_mentions half c)
    → with_leaves (named_single tables) (place_condition tables c) ≡ with_leaves text_single c
named_condition tables half (tree.Leaf (Link name state)) h = ap (λ (entry : Option (List ℕ)). tree.Leaf (NamedLink entry state)) (text_found tables.interfaces name.text h.0)
named_condition tables half (tree.Leaf (External command period)) h = ap (λ (entry : Option ExternalTest). tree.Leaf (NamedTest entry)) (test_found tables.tests (test_of command period) h.0)
named_condition tables half (tree.NotSo operand) h = ap (λ (c : tree.Condition NamedSingle). tree.NotSo c) (named_condition tables half operand h)
named_condition tables half (tree.And left right) h = named_both tables half left right (λ a b. tree.And a b) (named_condition tables half left) (named_condition tables half right) h
named_condition tables half (tree.Or left right) h = named_both tables half left right (λ a b. tree.Or a b) (named_condition tables half left) (named_condition tables half right) h

named : (tables : Tables) (half : Half) (b : TextBlock) → AreListed tables (block_mentions half b) → named_block tables (place_block tables b) ≡ text_block b
named tables half tree.Done h = refl
named tables half (tree.RunThen command rest) h =
    let here = text_found tables.commands command.text h.0 in
    let later = named tables half rest h.1 in
    λ i. tree.RunThen (here i) (later i)
named tables half (tree.SetStateThen target rest) h =
    let here = text_found tables.states target.state.text h.1.0 in
    let later = named tables half rest h.1.1 in
    λ i. tree.SetStateThen (here i) (later i)
named tables half (tree.IfThen condition inner rest) h =
    let first = condition_mentions half condition in
    let second = block_mentions half inner in
    let third = block_mentions half rest in
    let after = each_right (IsListed tables) first (second ++ third) h in
    let one = named_condition tables half condition (each_left (IsListed tables) first (second ++ third) h) in
    let two = named tables half inner (each_left (IsListed tables) second third after) in
    let three = named tables half rest (each_right (IsListed tables) second third after) in
    λ i. tree.IfThen (one i) (two i) (three i)

-- The first of a list of blocks; without one, the empty block.
first_block : List TextBlock → TextBlock
first_block [] = tree.Done
first_block (block ∷ rest) = block

init_is_first : (parts : List Part) → init_in parts ≡ first_block (inits_of parts)
unfolding first_block
init_is_first [] = refl
init_is_first (Init place block ∷ rest) = refl
init_is_first (Do statement ∷ rest) = init_is_first rest

no_init_is_empty : (parts : List Part) → inits_of parts ≡ [] → init_in parts ≡ tree.Done
unfolding first_block
no_init_is_empty parts none = init_is_first parts ∙ ap first_block none

one_init_is_it : (parts : List Part) (block : TextBlock) → inits_of parts ≡ block ∷ [] → init_in parts ≡ block
unfolding first_block
one_init_is_it parts block one = init_is_first parts ∙ ap first_block one

named_init : (tables : Tables) (owner : Owner) (parts : List Part) → AreListed tables (flat_map (part_mentions owner) parts)
    → named_block tables (place_block tables (init_in parts)) ≡ text_block (init_in parts)
named_init tables owner [] h = refl
named_init tables owner (Init place block ∷ rest) h = named tables at.Init block (each_left (IsListed tables) (block_mentions at.Init block) (flat_map (part_mentions owner) rest) h.1)
named_init tables owner (Do statement ∷ rest) h = named_init tables owner rest (each_right (IsListed tables) (statement_mentions at.Body statement) (flat_map (part_mentions owner) rest) h)

named_then : (tables : Tables) (statement : Statement Test Name Wish) (rest : TextBlock) (more : TextBlock) → AreListed tables (statement_mentions at.Body statement)
    → named_block tables (place_block tables rest) ≡ text_block more
    → named_block tables (place_block tables (statement_then statement rest)) ≡ text_block (statement_then statement more)
named_then tables (Run command) rest more h later =
    let here = text_found tables.commands command.text h.0 in
    λ i. tree.RunThen (here i) (later i)
named_then tables (SetState target) rest more h later =
    let here = text_found tables.states target.state.text h.1.0 in
    λ i. tree.SetStateThen (here i) (later i)
named_then tables (If condition inner) rest more h later =
    let first = condition_mentions at.Body condition in
    let second = block_mentions at.Body inner in
    let after = each_right (IsListed tables) first (second ++ []) h in
    let one = named_condition tables at.Body condition (each_left (IsListed tables) first (second ++ []) h) in
    let two = named tables at.Body inner (each_left (IsListed tables) second [] after) in
    λ i. tree.IfThen (one i) (two i) (later i)

named_body : (tables : Tables) (owner : Owner) (parts : List Part) → AreListed tables (flat_map (part_mentions owner) parts)
    → named_block tables (place_block tables (body_in parts)) ≡ text_block (block_of (statements_of parts))
named_body tables owner [] h = refl
named_body tables owner (Init place block ∷ rest) h = named_body tables owner rest (each_right (IsListed tables) (block_mentions at.Init block) (flat_map (part_mentions owner) rest) h.1)
named_body tables owner (Do statement ∷ rest) h =
    let here = statement_mentions at.Body statement in
    let later = flat_map (part_mentions owner) rest in
    named_then tables statement (body_in rest) (block_of (statements_of rest)) (each_left (IsListed tables) here later h)
    (named_body tables owner rest (each_right (IsListed tables) here later h))

are_handlers : (tables : Tables) (owner : Owner) (parts : List Part) → AreListed tables (flat_map (part_mentions owner) parts)
    → AreHandlersOf tables parts (place_part tables parts)
are_handlers tables owner parts h = record {
  no_init = λ none. ap (place_block tables) (no_init_is_empty parts none);
  init = λ block one. named_init tables owner parts h ∙ ap text_block (one_init_is_it parts block one);
  body = named_body tables owner parts h;
}

always_is_outside : (items : List Item) → always_of items ≡ outside items
always_is_outside [] = refl
always_is_outside (InitState place name ∷ rest) = always_is_outside rest
always_is_outside (State name parts ∷ rest) = always_is_outside rest
always_is_outside (Always part ∷ rest) = ap (λ (parts : List Part). part ∷ parts) (always_is_outside rest)

states_say : (tables : Tables) (items : List Item) → AreListed tables (mentions_of items) → AreHandlersOfStates tables (of_states items) (place_states tables items)
states_say tables [] h = tt
states_say tables (InitState place name ∷ rest) h = states_say tables rest h.1.1
states_say tables (State name parts ∷ rest) h =
    let here = flat_map (part_mentions whose.State) parts in (
      are_handlers tables whose.State parts (each_left (IsListed tables) here (mentions_of rest) h.1),
      states_say tables rest (each_right (IsListed tables) here (mentions_of rest) h.1),
    )
states_say tables (Always part ∷ rest) h = states_say tables rest (each_right (IsListed tables) (part_mentions whose.Always part) (mentions_of rest) h)

first_text : List (List ℕ) → List ℕ
first_text [] = []
first_text (text ∷ rest) = text

same_first : (one other : List ℕ) (rest more : List (List ℕ)) → one ∷ rest ≡ other ∷ more → one ≡ other
unfolding first_text
same_first one other rest more e = ap first_text e

initial_says : (tables : Tables) (items : List Item) (name : List ℕ) → AreListed tables (mentions_of items) → init_states items ≡ name ∷ []
    → slice_get tables.states (initial_of tables items).0 ≡ Some name
initial_says tables [] name h one = absurd (cc)
initial_says tables (InitState place target ∷ rest) name h one = text_found tables.states target.text h.1.0 ∙ ap Some (same_first target.text name (init_states rest) [] one)
initial_says tables (State defined parts ∷ rest) name h one = initial_says tables rest name (each_right (IsListed tables) (flat_map (part_mentions whose.State) parts) (mentions_of rest) h.1) one
initial_says tables (Always part ∷ rest) name h one = initial_says tables rest name (each_right (IsListed tables) (part_mentions whose.Always part) (mentions_of rest) h) one

first_is_initial : (tables : Tables) (items : List Item) → init_states items ≡ [] → (initial_of tables items).0 ≡ 0
first_is_initial tables [] none = refl
first_is_initial tables (InitState place target ∷ rest) none = absurd (cc)
first_is_initial tables (State defined parts ∷ rest) none = first_is_initial tables rest none
first_is_initial tables (Always part ∷ rest) none = first_is_initial tables rest none

pub names_give_the_tree : (items : List Item) (policy : PolicyParts) → Resolves items policy → SaysTree items policy
names_give_the_tree items policy r =
    let mentions = mentions_of items in
    let tables = tables_of mentions in
    let listed = all_listed no_names mentions r.known in
    let says : SaysTree items (place_items tables items) = record {
      always = subst (λ (parts : List Part). AreHandlersOf tables parts (place_part tables (always_of items))) (always_is_outside items)
          (are_handlers tables whose.Always (always_of items) (always_listed tables items listed));
      states = states_say tables items listed;
      initial = λ name one. initial_says tables items name listed one;
      first = first_is_initial tables items;
    } in
    subst (SaysTree items) (sym r.placed) says
