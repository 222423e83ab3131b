-- The lists that are picked from the mentions of a tree are the lists of the tree.
use Rattle.std.proofs.Common.{◌≡◌, ℕ, List, [], ◌∷◌, ◌++◌, map, refl, sym, ap, subst, ◌∙◌}
use Rattle.std.proofs.lemmas.List.Concat.{flat_map-append}
use Rattle.std.specs.List.{flat_map, AllByRecursion}
use Rattle.std.proofs.lemmas.List.{map-append}
use Rattle.ifs_parse.specs.Trees as tree
use Rattle.ifs_parse.specs.Views.{statement_then}
use Rattle.ifs_parse.specs.declared.tree.Name.{Name}
use Rattle.ifs_parse.specs.declared.tree.Test.{Test}
use Rattle.ifs_parse.specs.declared.tree.Test.TheVariants.{Link, External}
use Rattle.ifs_parse.specs.declared.tree.Wish.{Wish}
use Rattle.ifs_parse.specs.declared.tree.Part.{Part}
use Rattle.ifs_parse.specs.declared.tree.Part.TheVariants.{Init, Do}
use Rattle.ifs_parse.specs.declared.tree.Item.{Item}
use Rattle.ifs_parse.specs.declared.tree.Item.TheVariants.{InitState, State, Always}
use Rattle.ifs_base.specs.declared.op.LinkState.{LinkState}
use Rattle.ifs_lex.specs.declared.token.TokenPlace.{TokenPlace}
use Rattle.ifs_policy.specs.declared.mention.Mention.TheVariants as says
use Rattle.ifs_policy.specs.declared.mention.Half.{Half}
use Rattle.ifs_policy.specs.declared.mention.Half.TheVariants as at
use Rattle.ifs_policy.specs.declared.mention.Owner.{Owner}
use Rattle.ifs_policy.specs.declared.mention.Owner.TheVariants as whose
use Rattle.ifs_policy.specs.declared.tables.ExternalTest.{ExternalTest}
use Rattle.ifs_policy.specs.Mentions.{Mentioned, test_mention, condition_mentions}
use Rattle.ifs_policy.specs.Mentions.{block_mentions, part_mentions, mentions_of}
use Rattle.ifs_policy.specs.Tables.{test_of}
use Rattle.ifs_policy.specs.Whole as whole
use Rattle.ifs_policy.proofs.Lists.{each_left, each_right, each_both}
use Rattle.ifs_policy.specs.Whole.{TextBlock, singles, block_singles, block_commands}
use Rattle.ifs_policy.specs.Whole.{block_targets, link_of, external_of, block_in, inits_of}

-- The entries that are picked from one mention.
abbrev pub interface_of : Mentioned → List (List ℕ)
interface_of (says.Interface name) = name.text ∷ []
interface_of _ = []

abbrev pub tested_by : Mentioned → List ExternalTest
tested_by (says.External half command period) = test_of command period ∷ []
tested_by _ = []

abbrev pub command_of : Mentioned → List (List ℕ)
command_of (says.Command text) = text.text ∷ []
command_of _ = []

abbrev pub state_of : Mentioned → List (List ℕ)
state_of (says.Defined name) = name.text ∷ []
state_of _ = []

abbrev pub target_of : Mentioned → List (List ℕ)
target_of (says.Target name) = name.text ∷ []
target_of _ = []

-- The entries that are picked from mentions in an `init`.
abbrev pub tested_in_init : Mentioned → List ExternalTest
tested_in_init (says.External at.Init command period) = test_of command period ∷ []
tested_in_init _ = []

abbrev pub set_in_init : Mentioned → List (Unit {0})
set_in_init (says.SetState at.Init place) = tt ∷ []
set_in_init _ = []

-- A mark for each word that may occur once.
abbrev pub always_init : Mentioned → List (Unit {0})
always_init (says.Init whose.Always place) = tt ∷ []
always_init _ = []

abbrev pub init_state : Mentioned → List (Unit {0})
init_state (says.InitState place) = tt ∷ []
init_state _ = []

-- The empty list for each member.
abbrev nothing : {X Y : Type 0} → X → List Y
nothing x = []

none_of : {X Y : Type 0} (xs : List X) → flat_map (nothing {X = X} {Y = Y}) xs ≡ []
none_of [] = refl
none_of (x ∷ xs) = none_of xs

module _ {X : Type 0} (pick : Mentioned → List X) where
  of_both : (xs ys : List Mentioned) (us vs : List X) → flat_map pick xs ≡ us → flat_map pick ys ≡ vs → flat_map pick (xs ++ ys) ≡ us ++ vs
  of_both xs ys us vs e f = flat_map-append pick xs ys ∙ (λ i. e i ++ f i)

  module _ (half : Half) where
    of_operands : (leaf : Test → List X) (a b : tree.Condition Test) → flat_map pick (condition_mentions half a) ≡ flat_map leaf (singles a)
        → flat_map pick (condition_mentions half b) ≡ flat_map leaf (singles b) → flat_map pick (condition_mentions half a ++ condition_mentions half b) ≡ flat_map leaf (singles a ++ singles b)
    of_operands leaf a b e f = of_both (condition_mentions half a) (condition_mentions half b) _ _ e f ∙ sym (flat_map-append leaf (singles a) (singles b))

    of_condition : (leaf : Test → List X) → ((t : Test) → pick (test_mention half t) ≡ leaf t) → (c : tree.Condition Test)
        → flat_map pick (condition_mentions half c) ≡ flat_map leaf (singles c)
    of_condition leaf one (tree.Leaf t) = ap (λ xs. xs ++ []) (one t)
    of_condition leaf one (tree.NotSo c) = of_condition leaf one c
    of_condition leaf one (tree.And a b) = of_operands leaf a b (of_condition leaf one a) (of_condition leaf one b)
    of_condition leaf one (tree.Or a b) = of_operands leaf a b (of_condition leaf one a) (of_condition leaf one b)

    -- A list that is defined case by case, as the picked one is.
    module _ (inside : tree.Condition Test → List X) (all : TextBlock → List X)
        (on_condition : (c : tree.Condition Test) → flat_map pick (condition_mentions half c) ≡ inside c)
        (on_done : [] ≡ all tree.Done)
        (on_run : (command : Name) (rest : TextBlock) → pick (says.Command command) ++ all rest ≡ all (tree.RunThen command rest))
        (on_set_state : (target : Wish) (rest : TextBlock) → pick (says.SetState half target.place) ++ (pick (says.Target target.state) ++ all rest) ≡ all (tree.SetStateThen target rest))
        (on_if : (c : tree.Condition Test) (inner rest : TextBlock) → inside c ++ (all inner ++ all rest) ≡ all (tree.IfThen c inner rest)) where
      of_block : (b : TextBlock) → flat_map pick (block_mentions half b) ≡ all b
      of_block tree.Done = on_done
      of_block (tree.RunThen command rest) = ap (λ xs. pick (says.Command command) ++ xs) (of_block rest) ∙ on_run command rest
      of_block (tree.SetStateThen target rest) =
          ap (λ xs. pick (says.SetState half target.place) ++ (pick (says.Target target.state) ++ xs)) (of_block rest) ∙ on_set_state target rest
      of_block (tree.IfThen c inner rest) =
          of_both (condition_mentions half c) (block_mentions half inner ++ block_mentions half rest) (inside c) (all inner ++ all rest) (on_condition c)
          (of_both (block_mentions half inner) (block_mentions half rest) (all inner) (all rest) (of_block inner) (of_block rest))
          ∙ on_if c inner rest

  -- Entries of a single test, by its kind.
  of_test : (half : Half) (leaf : Test → List X) → ((name : Name) (state : LinkState) → pick (says.Interface name) ≡ leaf (Link name state))
      → ((command : Name) (period : ℕ) → pick (says.External half command period) ≡ leaf (External command period)) → (t : Test) → pick (test_mention half t) ≡ leaf t
  of_test half leaf link external (Link name state) = link name state
  of_test half leaf link external (External command period) = external command period

  -- Entries of single tests alone.
  of_singles : (half : Half) (leaf : Test → List X) → ((t : Test) → pick (test_mention half t) ≡ leaf t) → ((command : Name) → pick (says.Command command) ≡ [])
      → ((place : TokenPlace) → pick (says.SetState half place) ≡ []) → ((name : Name) → pick (says.Target name) ≡ [])
      → (b : TextBlock) → flat_map pick (block_mentions half b) ≡ flat_map leaf (block_singles b)
  of_singles half leaf one run set target =
      of_block half (λ c. flat_map leaf (singles c)) (λ b. flat_map leaf (block_singles b)) (of_condition half leaf one) refl
      (λ command rest. ap (λ xs. xs ++ flat_map leaf (block_singles rest)) (run command))
      (λ wanted rest i. set wanted.place i ++ (target wanted.state i ++ flat_map leaf (block_singles rest)))
      (λ c inner rest. sym (flat_map-append leaf (singles c) (block_singles inner ++ block_singles rest)
      ∙ ap (λ xs. flat_map leaf (singles c) ++ xs) (flat_map-append leaf (block_singles inner) (block_singles rest))))

  -- Entries of no single test.
  no_single : (half : Half) → ((name : Name) → pick (says.Interface name) ≡ []) → ((command : Name) (period : ℕ) → pick (says.External half command period) ≡ [])
      → (c : tree.Condition Test) → flat_map pick (condition_mentions half c) ≡ []
  no_single half link external c = of_condition half (λ _. []) (of_test half (λ _. []) (λ name state. link name) external) c ∙ none_of (singles c)

  -- Entries of blocks alone.
  of_part : (f : TextBlock → List X) → ((owner : Owner) (place : TokenPlace) → pick (says.Init owner place) ≡ []) → ((half : Half) (b : TextBlock) → flat_map pick (block_mentions half b) ≡ f b)
      → (owner : Owner) (part : Part) → flat_map pick (part_mentions owner part) ≡ f (block_in part)
  of_part f init block owner (Init place b) = ap (λ xs. xs ++ flat_map pick (block_mentions at.Init b)) (init owner place) ∙ block at.Init b
  of_part f init block owner (Do statement) = block at.Body (statement_then statement tree.Done)

  of_parts : (owner : Owner) (f : Part → List X) → ((part : Part) → flat_map pick (part_mentions owner part) ≡ f part)
      → (ps : List Part) → flat_map pick (flat_map (part_mentions owner) ps) ≡ flat_map f ps
  of_parts owner f one [] = refl
  of_parts owner f one (p ∷ ps) = of_both (part_mentions owner p) (flat_map (part_mentions owner) ps) _ _ (one p) (of_parts owner f one ps)

  no_parts : (owner : Owner) → ((part : Part) → flat_map pick (part_mentions owner part) ≡ []) → (ps : List Part) → flat_map pick (flat_map (part_mentions owner) ps) ≡ []
  no_parts owner none ps = of_parts owner (λ _. []) none ps ∙ none_of ps

  module _ (all : List Item → List X) (on_none : [] ≡ all [])
      (on_initial : (place : TokenPlace) (name : Name) (rest : List Item) → pick (says.InitState place) ++ (pick (says.Target name) ++ all rest) ≡ all (InitState place name ∷ rest))
      (on_state : (name : Name) (ps : List Part) (rest : List Item)
      → pick (says.Defined name) ++ (flat_map pick (flat_map (part_mentions whose.State) ps) ++ all rest) ≡ all (State name ps ∷ rest))
      (on_always : (part : Part) (rest : List Item) → flat_map pick (part_mentions whose.Always part) ++ all rest ≡ all (Always part ∷ rest)) where
    of_items : (items : List Item) → flat_map pick (mentions_of items) ≡ all items
    of_items [] = on_none
    of_items (InitState place name ∷ rest) = ap (λ xs. pick (says.InitState place) ++ (pick (says.Target name) ++ xs)) (of_items rest) ∙ on_initial place name rest
    of_items (State name ps ∷ rest) =
        ap (λ xs. pick (says.Defined name) ++ xs) (of_both (flat_map (part_mentions whose.State) ps) (mentions_of rest) _ _ refl (of_items rest)) ∙ on_state name ps rest
    of_items (Always part ∷ rest) = of_both (part_mentions whose.Always part) (mentions_of rest) _ _ refl (of_items rest) ∙ on_always part rest

  -- Entries of parts alone.
  of_all_parts : (f : Part → List X) → ((owner : Owner) (part : Part) → flat_map pick (part_mentions owner part) ≡ f part) → ((name : Name) → pick (says.Defined name) ≡ [])
      → ((place : TokenPlace) → pick (says.InitState place) ≡ []) → ((name : Name) → pick (says.Target name) ≡ [])
      → (items : List Item) → flat_map pick (mentions_of items) ≡ flat_map f (whole.parts items)
  of_all_parts f one defined initial target =
      of_items (λ items. flat_map f (whole.parts items)) refl
      (λ place name rest i. initial place i ++ (target name i ++ flat_map f (whole.parts rest)))
      (λ name ps rest. (λ i. defined name i ++ (of_parts whose.State f (one whose.State) ps i ++ flat_map f (whole.parts rest)))
      ∙ sym (flat_map-append f ps (whole.parts rest)))
      (λ part rest. ap (λ xs. xs ++ flat_map f (whole.parts rest)) (one whose.Always part))

interfaces_in : (half : Half) (b : TextBlock) → flat_map interface_of (block_mentions half b) ≡ flat_map link_of (block_singles b)
interfaces_in half = of_singles interface_of half link_of (of_test interface_of half link_of (λ _ _. refl) (λ _ _. refl)) (λ _. refl) (λ _. refl) (λ _. refl)

tests_in : (half : Half) (b : TextBlock) → flat_map tested_by (block_mentions half b) ≡ flat_map external_of (block_singles b)
tests_in half = of_singles tested_by half external_of (of_test tested_by half external_of (λ _ _. refl) (λ _ _. refl)) (λ _. refl) (λ _. refl) (λ _. refl)

commands_in : (half : Half) (b : TextBlock) → flat_map command_of (block_mentions half b) ≡ block_commands b
commands_in half = of_block command_of half nothing block_commands (no_single command_of half (λ _. refl) (λ _ _. refl)) refl (λ _ _. refl) (λ _ _. refl) (λ _ _ _. refl)

targets_in : (half : Half) (b : TextBlock) → flat_map target_of (block_mentions half b) ≡ block_targets b
targets_in half = of_block target_of half nothing block_targets (no_single target_of half (λ _. refl) (λ _ _. refl)) refl (λ _ _. refl) (λ _ _. refl) (λ _ _ _. refl)

-- The interfaces, tests and commands of a tree.
pub picked_interfaces : (items : List Item) → flat_map interface_of (mentions_of items) ≡ whole.interfaces items
picked_interfaces =
    of_all_parts interface_of (λ part. flat_map link_of (block_singles (block_in part))) (of_part interface_of (λ b. flat_map link_of (block_singles b)) (λ _ _. refl) interfaces_in)
    (λ _. refl) (λ _. refl) (λ _. refl)

pub picked_tests : (items : List Item) → flat_map tested_by (mentions_of items) ≡ whole.tests items
picked_tests =
    of_all_parts tested_by (λ part. flat_map external_of (block_singles (block_in part))) (of_part tested_by (λ b. flat_map external_of (block_singles b)) (λ _ _. refl) tests_in)
    (λ _. refl) (λ _. refl) (λ _. refl)

pub picked_commands : (items : List Item) → flat_map command_of (mentions_of items) ≡ whole.commands items
picked_commands = of_all_parts command_of (λ part. block_commands (block_in part)) (of_part command_of block_commands (λ _ _. refl) commands_in) (λ _. refl) (λ _. refl) (λ _. refl)

-- A part defines no state.
no_states : (owner : Owner) (part : Part) → flat_map state_of (part_mentions owner part) ≡ []
no_states =
    of_part state_of nothing (λ _ _. refl) (λ half. of_block state_of half nothing nothing (no_single state_of half (λ _. refl) (λ _ _. refl)) refl (λ _ _. refl) (λ _ _. refl) (λ _ _ _. refl))

pub picked_states : (items : List Item) → flat_map state_of (mentions_of items) ≡ whole.states items
picked_states =
    of_items state_of whole.states refl (λ _ _ _. refl)
    (λ name ps rest. ap (λ xs. name.text ∷ (xs ++ whole.states rest)) (no_parts state_of whose.State (no_states whose.State) ps))
    (λ part rest. ap (λ xs. xs ++ whole.states rest) (no_states whose.Always part))

-- Entries of `init`s alone.
module _ {X : Type 0} (pick : Mentioned → List X) (inside : TextBlock → List X) where
  -- The entries of the block of an `init`; none of a statement.
  abbrev pub of_init : Part → List X
  of_init (Init place block) = inside block
  of_init (Do statement) = []

  of_inits : (ps : List Part) → flat_map of_init ps ≡ flat_map inside (inits_of ps)
  of_inits [] = refl
  of_inits (Init place block ∷ rest) = ap (λ xs. inside block ++ xs) (of_inits rest)
  of_inits (Do statement ∷ rest) = of_inits rest

  picked_in_inits : ((owner : Owner) (part : Part) → flat_map pick (part_mentions owner part) ≡ of_init part) → ((name : Name) → pick (says.Defined name) ≡ [])
      → ((place : TokenPlace) → pick (says.InitState place) ≡ []) → ((name : Name) → pick (says.Target name) ≡ [])
      → (items : List Item) → flat_map pick (mentions_of items) ≡ flat_map inside (inits_of (whole.parts items))
  picked_in_inits one defined initial target items = of_all_parts pick of_init one defined initial target items ∙ of_inits (whole.parts items)

pub picked_init_tests : (items : List Item) → flat_map tested_in_init (mentions_of items) ≡ whole.tests_in_inits items
picked_init_tests = picked_in_inits tested_in_init (λ block. flat_map external_of (block_singles block)) one (λ _. refl) (λ _. refl) (λ _. refl)
  where
    one : (owner : Owner) (part : Part) → flat_map tested_in_init (part_mentions owner part) ≡ of_init tested_in_init (λ block. flat_map external_of (block_singles block)) part
    one owner (Init place block) =
        of_singles tested_in_init at.Init external_of (of_test tested_in_init at.Init external_of (λ _ _. refl) (λ _ _. refl)) (λ _. refl) (λ _. refl) (λ _. refl) block
    one owner (Do statement) =
        of_block tested_in_init at.Body nothing nothing (no_single tested_in_init at.Body (λ _. refl) (λ _ _. refl)) refl (λ _ _. refl) (λ _ _. refl) (λ _ _ _. refl)
        (statement_then statement tree.Done)

-- A mark for each member.
abbrev pub marks : {X : Type 0} → List X → List (Unit {0})
marks xs = map (λ _. tt) xs

marks_all : {X Y : Type 0} (f : X → List Y) (xs : List X) → flat_map (λ x. marks (f x)) xs ≡ marks (flat_map f xs)
marks_all f [] = refl
marks_all f (x ∷ xs) = ap (λ ys. marks (f x) ++ ys) (marks_all f xs) ∙ sym (map-append (λ _. tt) (f x) (flat_map f xs))

pub picked_init_targets : (items : List Item) → flat_map set_in_init (mentions_of items) ≡ marks (whole.targets_in_inits items)
picked_init_targets items =
    picked_in_inits set_in_init (λ block. marks (block_targets block)) one (λ _. refl) (λ _. refl) (λ _. refl) items
    ∙ marks_all block_targets (inits_of (whole.parts items))
  where
    one : (owner : Owner) (part : Part) → flat_map set_in_init (part_mentions owner part) ≡ of_init set_in_init (λ block. marks (block_targets block)) part
    one owner (Init place block) =
        of_block set_in_init at.Init nothing (λ b. marks (block_targets b)) (no_single set_in_init at.Init (λ _. refl) (λ _ _. refl)) refl (λ _ _. refl) (λ _ _. refl)
        (λ c inner rest. sym (map-append (λ _. tt) (block_targets inner) (block_targets rest))) block
    one owner (Do statement) =
        of_block set_in_init at.Body nothing nothing (no_single set_in_init at.Body (λ _. refl) (λ _ _. refl)) refl (λ _ _. refl) (λ _ _. refl) (λ _ _ _. refl)
        (statement_then statement tree.Done)

-- The `init`s outside any state.
pub picked_outside : (items : List Item) → flat_map always_init (mentions_of items) ≡ marks (inits_of (whole.outside items))
picked_outside =
    of_items always_init (λ items. marks (inits_of (whole.outside items))) refl (λ _ _ _. refl)
    (λ name ps rest. ap (λ xs. xs ++ marks (inits_of (whole.outside rest))) (no_parts always_init whose.State inside ps)) outside
  where
    block : (half : Half) (b : TextBlock) → flat_map always_init (block_mentions half b) ≡ []
    block half = of_block always_init half nothing nothing (no_single always_init half (λ _. refl) (λ _ _. refl)) refl (λ _ _. refl) (λ _ _. refl) (λ _ _ _. refl)

    inside : (part : Part) → flat_map always_init (part_mentions whose.State part) ≡ []
    inside (Init place b) = block at.Init b
    inside (Do statement) = block at.Body (statement_then statement tree.Done)

    outside : (part : Part) (rest : List Item) → flat_map always_init (part_mentions whose.Always part) ++ marks (inits_of (whole.outside rest)) ≡ marks (inits_of (part ∷ whole.outside rest))
    outside (Init place b) rest = ap (λ xs. tt ∷ (xs ++ marks (inits_of (whole.outside rest)))) (block at.Init b)
    outside (Do statement) rest = ap (λ xs. xs ++ marks (inits_of (whole.outside rest))) (block at.Body (statement_then statement tree.Done))

-- A part has no `init-state`.
no_initial : (owner : Owner) (part : Part) → flat_map init_state (part_mentions owner part) ≡ []
no_initial =
    of_part init_state nothing (λ _ _. refl) (λ half. of_block init_state half nothing nothing (no_single init_state half (λ _. refl) (λ _ _. refl)) refl (λ _ _. refl) (λ _ _. refl) (λ _ _ _. refl))

pub picked_initial : (items : List Item) → flat_map init_state (mentions_of items) ≡ marks (whole.init_states items)
picked_initial =
    of_items init_state (λ items. marks (whole.init_states items)) refl (λ _ _ _. refl)
    (λ name ps rest. ap (λ xs. xs ++ marks (whole.init_states rest)) (no_parts init_state whose.State (no_initial whose.State) ps))
    (λ part rest. ap (λ xs. xs ++ marks (whole.init_states rest)) (no_initial whose.Always part))

-- The targets of `set-state` and `init-state`, in text order.
abbrev part_targets : Part → List (List ℕ)
part_targets part = block_targets (block_in part)

abbrev pub all_targets : List Item → List (List ℕ)
all_targets [] = []
all_targets (InitState place name ∷ rest) = name.text ∷ all_targets rest
all_targets (State name ps ∷ rest) = flat_map part_targets ps ++ all_targets rest
all_targets (Always part ∷ rest) = part_targets part ++ all_targets rest

pub picked_targets : (items : List Item) → flat_map target_of (mentions_of items) ≡ all_targets items
picked_targets =
    of_items target_of all_targets refl (λ _ _ _. refl) (λ name ps rest. ap (λ xs. xs ++ all_targets rest) (of_parts target_of whose.State part_targets (one whose.State) ps))
    (λ part rest. ap (λ xs. xs ++ all_targets rest) (one whose.Always part))
  where
    one : (owner : Owner) (part : Part) → flat_map target_of (part_mentions owner part) ≡ part_targets part
    one = of_part target_of block_targets (λ _ _. refl) targets_in

module _ (P : List ℕ → Type 0) where
  pub set_targets : (items : List Item) → AllByRecursion P (all_targets items) → AllByRecursion P (whole.targets items)
  set_targets [] h = tt
  set_targets (InitState place name ∷ rest) h = set_targets rest h.1
  set_targets (State name ps ∷ rest) h =
      let inside = flat_map part_targets ps in
      subst (AllByRecursion P) (sym (flat_map-append part_targets ps (whole.parts rest)))
      (each_both P inside (whole.targets rest) (each_left P inside (all_targets rest) h) (set_targets rest (each_right P inside (all_targets rest) h)))
  set_targets (Always part ∷ rest) h =
      let inside = part_targets part in
      each_both P inside (whole.targets rest) (each_left P inside (all_targets rest) h) (set_targets rest (each_right P inside (all_targets rest) h))

  pub initial_targets : (items : List Item) → AllByRecursion P (all_targets items) → AllByRecursion P (whole.init_states items)
  initial_targets [] h = tt
  initial_targets (InitState place name ∷ rest) h = (h.0, initial_targets rest h.1)
  initial_targets (State name ps ∷ rest) h = initial_targets rest (each_right P (flat_map part_targets ps) (all_targets rest) h)
  initial_targets (Always part ∷ rest) h = initial_targets rest (each_right P (part_targets part) (all_targets rest) h)

  pub join_targets : (items : List Item) → AllByRecursion P (whole.targets items) → AllByRecursion P (whole.init_states items) → AllByRecursion P (all_targets items)
  join_targets [] h g = tt
  join_targets (InitState place name ∷ rest) h g = (g.0, join_targets rest h g.1)
  join_targets (State name ps ∷ rest) h g =
      let inside = flat_map part_targets ps in
      let both = subst (AllByRecursion P) (flat_map-append part_targets ps (whole.parts rest)) h in
      each_both P inside (all_targets rest) (each_left P inside (whole.targets rest) both) (join_targets rest (each_right P inside (whole.targets rest) both) g)
  join_targets (Always part ∷ rest) h g =
      let inside = part_targets part in
      each_both P inside (all_targets rest) (each_left P inside (whole.targets rest) h) (join_targets rest (each_right P inside (whole.targets rest) h) g)
