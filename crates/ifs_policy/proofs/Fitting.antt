-- The policy of a text keeps the limits.
use Rattle.std.proofs.Common.{◌≡◌, suc, ◌+◌, ◌<◌, Bool, true, false, cond, not, ◌||◌, true≢false, List}
use Rattle.std.proofs.Common.{[], ◌∷◌, ◌++◌, length, All, refl, sym, ap, subst, ◌∙◌, append_assoc, arith}
use Rattle.std.proofs.lemmas.List.Elements.{All-nil, All-cons}
use Rattle.std.specs.List.{flat_map, list_any, position_or_len, AllByRecursion}
use Rattle.ifs_parse.specs.Trees as tree
use Rattle.ifs_parse.specs.Views.{statement_then}
use Rattle.ifs_parse.specs.declared.tree.Name.{Name}
use Rattle.ifs_parse.specs.declared.tree.Test.{Test}
use Rattle.ifs_parse.specs.declared.tree.Test.TheVariants.{Link, External}
use Rattle.ifs_parse.specs.declared.tree.Wish.{Wish}
use Rattle.ifs_parse.specs.declared.tree.Part.{Part}
use Rattle.ifs_parse.specs.declared.tree.Part.TheVariants.{Init, Do}
use Rattle.ifs_parse.specs.declared.tree.Item.{Item}
use Rattle.ifs_parse.specs.declared.tree.Item.TheVariants.{InitState, State, Always}
use Rattle.ifs_parse.specs.declared.block.Statement.{Statement}
use Rattle.ifs_parse.specs.declared.block.Statement.TheVariants.{Run, SetState, If}
use Rattle.ifs_parse.specs.Files.{File}
use Rattle.ifs_parse.specs.Grammar.{IsSaid}
use Rattle.ifs_base.specs.Sizes.{PeriodFits}
use Rattle.ifs_policy.proofs.Timed.{said_periods_fit}
use Rattle.ifs_policy.proofs.Lists.{each_left, each_right, each_both}
use Rattle.ifs_policy.proofs.Inner.{IsInner, block_inner}
use Rattle.ifs_policy.specs.declared.mention.Mention.TheVariants.{Defined}
use Rattle.ifs_policy.specs.declared.mention.Half.{Half}
use Rattle.ifs_policy.specs.declared.mention.Half.TheVariants as at
use Rattle.ifs_policy.specs.declared.mention.Owner.{Owner}
use Rattle.ifs_policy.specs.declared.mention.Owner.TheVariants as whose
use Rattle.ifs_policy.specs.declared.names.Names.{Names}
use Rattle.ifs_policy.specs.declared.policy.PolicyParts.{PolicyParts}
use Rattle.ifs_policy.specs.declared.tables.Tables.{Tables}
use Rattle.ifs_policy.specs.Mentions.{Mentioned, condition_mentions, block_mentions}
use Rattle.ifs_policy.specs.Mentions.{statement_mentions, part_mentions, mentions_of}
use Rattle.ifs_policy.specs.Tables.{text_eq, test_eq, test_of, no_names, names_after, tables_of}
use Rattle.ifs_policy.specs.Faults.{AreSound, is_state}
use Rattle.ifs_policy.specs.Resolution.{place_condition, place_block, place_part, init_in, body_in}
use Rattle.ifs_policy.specs.Resolution.{always_of, place_states, initial_of, place_items, Resolves}
use Rattle.ifs_policy.specs.Fits.{TablesFit, Sizes, sizes_of, ConditionFits, BlockFits, HandlersFit, PolicyFits}
use Rattle.ifs_policy.specs.inner.Sized.{HasTableSizes}
use Rattle.ifs_policy.proofs.Filled.{IsListed, AreListed, all_listed}
use Rattle.ifs_policy.proofs.Filled.{tables_fit, no_tables_fit, defined, count_states}

-- The place of an entry is less than the number of entries.
place_below : {X : Type 0} (p : X → Bool) (xs : List X) → list_any p xs ≡ true → position_or_len p xs < length xs
place_below p [] h = absurd (true≢false (sym h))
place_below {X} p (x ∷ xs) h = by (p x) h (place_below p xs)
  where
    by : (b : Bool) → (b || list_any p xs) ≡ true → (list_any p xs ≡ true → position_or_len p xs < length xs)
        → cond (not b) (1 + position_or_len p xs) 0 < suc (length xs)
    by true h rest = omega arith
    by false h rest = let below = rest h in omega arith

-- Two operands fit if the places of all their names do.
both_fit : (tables : Tables) (half : Half) (left right : tree.Condition Test) → (AreListed tables (condition_mentions half left) → ConditionFits (sizes_of tables) (place_condition tables left))
    → (AreListed tables (condition_mentions half right) → ConditionFits (sizes_of tables) (place_condition tables right))
    → AreListed tables (condition_mentions half left ++ condition_mentions half right)
    → ConditionFits (sizes_of tables) (place_condition tables left) × ConditionFits (sizes_of tables) (place_condition tables right)
both_fit tables half left right one two h =
    let first = condition_mentions half left in
    let second = condition_mentions half right in
    (one (each_left (IsListed tables) first second h), two (each_right (IsListed tables) first second h))

condition_fits : (tables : Tables) (half : Half) (c : tree.Condition Test) → AreListed tables (condition_mentions half c)
    → ConditionFits (sizes_of tables) (place_condition tables c)
condition_fits tables half (tree.Leaf (Link name state)) h = place_below (text_eq name.text) tables.interfaces h.0
condition_fits tables half (tree.Leaf (External command period)) h = place_below (test_eq (test_of command period)) tables.tests h.0
condition_fits tables half (tree.NotSo operand) h = condition_fits tables half operand h
condition_fits tables half (tree.And left right) h = both_fit tables half left right (condition_fits tables half left) (condition_fits tables half right) h
condition_fits tables half (tree.Or left right) h = both_fit tables half left right (condition_fits tables half left) (condition_fits tables half right) h

block_fits : (tables : Tables) (half : Half) (b : tree.Block Test Name Wish) → AreListed tables (block_mentions half b)
    → BlockFits (sizes_of tables) (place_block tables b)
block_fits tables half tree.Done h = tt
block_fits tables half (tree.RunThen command rest) h = (place_below (text_eq command.text) tables.commands h.0, block_fits tables half rest h.1)
block_fits tables half (tree.SetStateThen target rest) h = (place_below (text_eq target.state.text) tables.states h.1.0, block_fits tables half rest h.1.1)
block_fits tables half (tree.IfThen condition inner rest) h =
    let first = condition_mentions half condition in
    let second = block_mentions half inner in
    let third = block_mentions half rest in
    let after = each_right (IsListed tables) first (second ++ third) h in (
      condition_fits tables half condition (each_left (IsListed tables) first (second ++ third) h),
      block_fits tables half inner (each_left (IsListed tables) second third after),
      block_fits tables half rest (each_right (IsListed tables) second third after),
    )

then_fits : (tables : Tables) (sizes : Sizes) (statement : Statement Test Name Wish) (rest : tree.Block Test Name Wish)
    → BlockFits sizes (place_block tables (statement_then statement tree.Done)) → BlockFits sizes (place_block tables rest)
    → BlockFits sizes (place_block tables (statement_then statement rest))
then_fits tables sizes (Run command) rest h later = (h.0, later)
then_fits tables sizes (SetState target) rest h later = (h.0, later)
then_fits tables sizes (If condition inner) rest h later = (h.0, h.1, later)

init_fits : (tables : Tables) (owner : Owner) (parts : List Part) → AreListed tables (flat_map (part_mentions owner) parts)
    → BlockFits (sizes_of tables) (place_block tables (init_in parts))
init_fits tables owner [] h = tt
init_fits tables owner (Init place block ∷ rest) h = block_fits tables at.Init block (each_left (IsListed tables) (block_mentions at.Init block) (flat_map (part_mentions owner) rest) h.1)
init_fits tables owner (Do statement ∷ rest) h = init_fits tables owner rest (each_right (IsListed tables) (statement_mentions at.Body statement) (flat_map (part_mentions owner) rest) h)

body_fits : (tables : Tables) (owner : Owner) (parts : List Part) → AreListed tables (flat_map (part_mentions owner) parts)
    → BlockFits (sizes_of tables) (place_block tables (body_in parts))
body_fits tables owner [] h = tt
body_fits tables owner (Init place block ∷ rest) h = body_fits tables owner rest (each_right (IsListed tables) (block_mentions at.Init block) (flat_map (part_mentions owner) rest) h.1)
body_fits tables owner (Do statement ∷ rest) h =
    let here = statement_mentions at.Body statement in
    let later = flat_map (part_mentions owner) rest in
    then_fits tables (sizes_of tables) statement (body_in rest)
    (block_fits tables at.Body (statement_then statement tree.Done) (each_left (IsListed tables) here later h))
    (body_fits tables owner rest (each_right (IsListed tables) here later h))

part_fits : (tables : Tables) (owner : Owner) (parts : List Part) → AreListed tables (flat_map (part_mentions owner) parts)
    → HandlersFit (sizes_of tables) (place_part tables parts)
part_fits tables owner parts h = record { init = init_fits tables owner parts h; body = body_fits tables owner parts h }

pub always_listed : (tables : Tables) (items : List Item) → AreListed tables (mentions_of items)
    → AreListed tables (flat_map (part_mentions whose.Always) (always_of items))
always_listed tables [] h = tt
always_listed tables (InitState place name ∷ rest) h = always_listed tables rest h.1.1
always_listed tables (State name parts ∷ rest) h = always_listed tables rest (each_right (IsListed tables) (flat_map (part_mentions whose.State) parts) (mentions_of rest) h.1)
always_listed tables (Always part ∷ rest) h =
    let here = part_mentions whose.Always part in
    each_both (IsListed tables) here (flat_map (part_mentions whose.Always) (always_of rest)) (each_left (IsListed tables) here (mentions_of rest) h)
    (always_listed tables rest (each_right (IsListed tables) here (mentions_of rest) h))

states_fit : (tables : Tables) (items : List Item) → AreListed tables (mentions_of items)
    → All (HandlersFit (sizes_of tables)) (place_states tables items)
states_fit tables [] h = All-nil (HandlersFit (sizes_of tables))
states_fit tables (InitState place name ∷ rest) h = states_fit tables rest h.1.1
states_fit tables (State name parts ∷ rest) h =
    let here = flat_map (part_mentions whose.State) parts in
    All-cons (HandlersFit (sizes_of tables)) (place_part tables parts) (place_states tables rest) (part_fits tables whose.State parts (each_left (IsListed tables) here (mentions_of rest) h.1))
    (states_fit tables rest (each_right (IsListed tables) here (mentions_of rest) h.1))
states_fit tables (Always part ∷ rest) h = states_fit tables rest (each_right (IsListed tables) (part_mentions whose.Always part) (mentions_of rest) h)

initial_fits : (tables : Tables) (items : List Item) → 0 < length tables.states → AreListed tables (mentions_of items)
    → (initial_of tables items).0 < length tables.states
initial_fits tables [] some h = some
initial_fits tables (InitState place name ∷ rest) some h = place_below (text_eq name.text) tables.states h.1.0
initial_fits tables (State name parts ∷ rest) some h = initial_fits tables rest some (each_right (IsListed tables) (flat_map (part_mentions whose.State) parts) (mentions_of rest) h.1)
initial_fits tables (Always part ∷ rest) some h = initial_fits tables rest some (each_right (IsListed tables) (part_mentions whose.Always part) (mentions_of rest) h)

-- Mentions inside blocks define no state, so parts do not.
inner_define : (inside rest : List Mentioned) → AllByRecursion IsInner inside → defined (inside ++ rest) ≡ defined rest
inner_define [] rest inner = refl
inner_define (Defined name ∷ inside) rest inner = absurd inner.0
inner_define (mention ∷ inside) rest inner = inner_define inside rest inner.1

part_defines : (owner : Owner) (part : Part) (rest : List Mentioned) → defined (part_mentions owner part ++ rest) ≡ defined rest
part_defines owner (Init place block) rest = inner_define (block_mentions at.Init block) rest (block_inner at.Init block)
part_defines owner (Do statement) rest = inner_define (statement_mentions at.Body statement) rest (block_inner at.Body (statement_then statement tree.Done))

parts_define : (owner : Owner) (parts : List Part) (rest : List Mentioned) → defined (flat_map (part_mentions owner) parts ++ rest) ≡ defined rest
parts_define owner [] rest = refl
parts_define owner (part ∷ parts) rest =
    ap defined (append_assoc (part_mentions owner part) (flat_map (part_mentions owner) parts) rest)
    ∙ part_defines owner part (flat_map (part_mentions owner) parts ++ rest) ∙ parts_define owner parts rest

items_define : (tables : Tables) (items : List Item) → defined (mentions_of items) ≡ length (place_states tables items)
items_define tables [] = refl
items_define tables (InitState place name ∷ rest) = items_define tables rest
items_define tables (State name parts ∷ rest) =
    let here = parts_define whose.State parts (mentions_of rest) in
    let later = items_define tables rest in
    omega arith
items_define tables (Always part ∷ rest) = part_defines whose.Always part (mentions_of rest) ∙ items_define tables rest

some_state : (tables : Tables) (items : List Item) → list_any is_state items ≡ true → 0 < length (place_states tables items)
some_state tables [] h = absurd (true≢false (sym h))
some_state tables (InitState place name ∷ rest) h = some_state tables rest h
some_state tables (State name parts ∷ rest) h = omega arith
some_state tables (Always part ∷ rest) h = some_state tables rest h

-- Places in filled tables are 16-bit numbers.
pub filled_sized : (names : Names) (mentions : List Mentioned) → AreSound no_names mentions → names ≡ names_after no_names mentions → HasTableSizes names.tables
filled_sized names mentions sound filled =
    let fits = subst (λ (n : Names). TablesFit n.tables) (sym filled) (tables_fit no_names mentions sound no_tables_fit) in
    record {
      interfaces = fits.interfaces.within;
      tests = fits.tests.within;
      commands = fits.commands.within;
      states = fits.states.within;
    }

pub resolved_fits : (f : File) (policy : PolicyParts) → IsSaid f → Resolves f.items policy → PolicyFits policy
resolved_fits f policy said r =
    let items = f.items in
    let mentions = mentions_of items in
    let tables = tables_of mentions in
    let listed = all_listed no_names mentions r.known in
    let count = count_states no_names mentions r.sound in
    let define = items_define tables items in
    let some = some_state tables items r.has_state in
    let fits : PolicyFits (place_items tables items) = record {
      tables = tables_fit no_names mentions r.sound no_tables_fit;
      periods = subst (λ (p : PolicyParts). All (λ test. PeriodFits test.period) p.tables.tests) r.placed (said_periods_fit f policy said r);
      initial = initial_fits tables items (omega arith) listed;
      always = part_fits tables whose.Always (always_of items) (always_listed tables items listed);
      count = omega arith;
      states = states_fit tables items listed;
    } in
    subst PolicyFits (sym r.placed) fits
