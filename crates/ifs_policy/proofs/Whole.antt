-- A tree has a policy exactly if it keeps the rules as a whole.
use Rattle.std.proofs.Common.{◌≡◌, ◌≢◌, ℕ, suc, ◌+◌, ◌≤◌, ◌↔◌, Bool, true, false, List, [], ◌∷◌, ◌++◌, length}
use Rattle.std.proofs.Common.{All, AllPairs, Contains, refl, sym, ap, subst, ◌∙◌, append_assoc, arith}
use Rattle.std.proofs.lemmas.List.{length-map}
use Rattle.std.proofs.lemmas.List.Elements.{All-from_recursion, recursion_from_All, All-weaker, All-contains}
use Rattle.std.specs.List.{flat_map, list_any, AllByRecursion}
use Rattle.ifs_base.specs.Sizes.{TextFits}
use Rattle.ifs_parse.specs.Trees as tree
use Rattle.ifs_parse.specs.Views.{statement_then}
use Rattle.ifs_parse.specs.declared.tree.Part.{Part}
use Rattle.ifs_parse.specs.declared.tree.Part.TheVariants.{Init, Do}
use Rattle.ifs_parse.specs.declared.tree.Item.{Item}
use Rattle.ifs_parse.specs.declared.tree.Item.TheVariants.{InitState, State, Always}
use Rattle.ifs_policy.specs.declared.mention.Half.{Half}
use Rattle.ifs_policy.specs.declared.mention.Half.TheVariants as at
use Rattle.ifs_policy.specs.declared.mention.Owner.TheVariants as whose
use Rattle.ifs_policy.specs.declared.policy.PolicyParts.{PolicyParts}
use Rattle.ifs_policy.specs.Mentions.{Mentioned, block_mentions, part_mentions, mentions_of}
use Rattle.ifs_policy.specs.declared.mention.Mention.TheVariants as says
use Rattle.ifs_policy.specs.Tables.{text_eq, test_eq, no_names, tables_of}
use Rattle.ifs_policy.specs.Faults.{AreSound, AreKnown, is_state}
use Rattle.ifs_policy.specs.Resolution.{place_items, Resolves}
use Rattle.ifs_policy.specs.Whole as whole
use Rattle.ifs_policy.specs.Whole.{TextBlock, inits_of, KeepsRules}
use Rattle.ifs_policy.proofs.Filled.{tables_fit, no_tables_fit}
use Rattle.ifs_policy.proofs.Inner.{IsInner, block_inner}
use Rattle.ifs_policy.proofs.Gathered.{interface_of, tested_by, command_of, state_of, always_init, init_state}
use Rattle.ifs_policy.proofs.Gathered.{marks, picked_interfaces, picked_tests, picked_commands, picked_states}
use Rattle.ifs_policy.proofs.Gathered.{picked_init_tests, picked_init_targets, picked_outside, picked_initial}
use Rattle.ifs_policy.proofs.Gathered.{picked_targets, set_targets, initial_targets, join_targets}
use Rattle.ifs_policy.proofs.FirstUses.{inserted_are_first, text_laws, test_laws}
use Rattle.ifs_policy.proofs.Ordered.{interfaces_first, tests_first, commands_first, states_defined}
use Rattle.ifs_policy.proofs.Running.{Takes, Defines, Opens, bit, Sound, forth, back, takes_fit, all_taken}
use Rattle.ifs_policy.proofs.Running.{defines_fit, all_defined, contains_from, contains_to, known_forth, known_back}

-- Mentions inside blocks have no `init`.
opens_inner : (has : Bool) (inside rest : List Mentioned) → AllByRecursion IsInner inside → Opens has (inside ++ rest) → Opens has rest
opens_inner has [] rest inner h = h
opens_inner has (says.Defined name ∷ inside) rest inner h = absurd inner.0
opens_inner has (says.Init owner place ∷ inside) rest inner h = absurd inner.0
opens_inner has (mention ∷ inside) rest inner h = opens_inner has inside rest inner.1 h

before_inner : (has : Bool) (inside rest : List Mentioned) → AllByRecursion IsInner inside → Opens has rest → Opens has (inside ++ rest)
before_inner has [] rest inner h = h
before_inner has (says.Defined name ∷ inside) rest inner h = absurd inner.0
before_inner has (says.Init owner place ∷ inside) rest inner h = absurd inner.0
before_inner has (mention ∷ inside) rest inner h = before_inner has inside rest inner.1 h

opens_block : (has : Bool) (half : Half) (b : TextBlock) (rest : List Mentioned) → Opens has (block_mentions half b ++ rest) → Opens has rest
opens_block has half b rest h = opens_inner has (block_mentions half b) rest (block_inner half b) h

before_block : (has : Bool) (half : Half) (b : TextBlock) (rest : List Mentioned) → Opens has rest → Opens has (block_mentions half b ++ rest)
before_block has half b rest h = before_inner has (block_mentions half b) rest (block_inner half b) h

one_more : (has : Bool) (n : ℕ) → has ≡ false → 1 + n ≤ 1 → bit has + suc n ≤ 1
one_more true n e h = absurd (cc)
one_more false n e h = omega (arith, h)

none_yet : (has : Bool) (n : ℕ) → bit has + suc n ≤ 1 → (has ≡ false) × (1 + n ≤ 1)
none_yet true n h = absurd (omega (arith, h))
none_yet false n h = (refl, omega (arith, h))

at_most_one : (has : Bool) → bit has + 0 ≤ 1
at_most_one true = omega arith
at_most_one false = omega arith

-- The parts between the braces of a state have at most one `init`.
opens_parts : (has : Bool) (ps : List Part) (rest : List Mentioned) → Opens has (flat_map (part_mentions whose.State) ps ++ rest)
    → (bit has + length (inits_of ps) ≤ 1) × ((later : Bool) × Opens later rest)
opens_parts has [] rest h = (at_most_one has, (has, h))
opens_parts has (Init place b ∷ ps) rest h =
    let others = flat_map (part_mentions whose.State) ps in
    let r = opens_parts true ps rest (opens_block true at.Init b (others ++ rest) (subst (Opens true) (append_assoc (block_mentions at.Init b) others rest) h.1)) in
    (one_more has (length (inits_of ps)) h.0 r.0, r.1)
opens_parts has (Do statement ∷ ps) rest h =
    let others = flat_map (part_mentions whose.State) ps in
    let b = statement_then statement tree.Done in
    opens_parts has ps rest (opens_block has at.Body b (others ++ rest) (subst (Opens has) (append_assoc (block_mentions at.Body b) others rest) h))

before_parts : (has : Bool) (ps : List Part) (rest : List Mentioned) → bit has + length (inits_of ps) ≤ 1 → ((later : Bool) → Opens later rest)
    → Opens has (flat_map (part_mentions whose.State) ps ++ rest)
before_parts has [] rest few h = h has
before_parts has (Init place b ∷ ps) rest few h =
    let others = flat_map (part_mentions whose.State) ps in
    let n = none_yet has (length (inits_of ps)) few in
    (n.0, subst (Opens true) (sym (append_assoc (block_mentions at.Init b) others rest)) (before_block true at.Init b (others ++ rest) (before_parts true ps rest n.1 h)))
before_parts has (Do statement ∷ ps) rest few h =
    let others = flat_map (part_mentions whose.State) ps in
    let b = statement_then statement tree.Done in
    subst (Opens has) (sym (append_assoc (block_mentions at.Body b) others rest)) (before_block has at.Body b (others ++ rest) (before_parts has ps rest few h))

abbrev FewInits : List Part → Type 0
FewInits inside = length (inits_of inside) ≤ 1

opens_items : (has : Bool) (items : List Item) → Opens has (mentions_of items) → AllByRecursion FewInits (whole.of_states items)
opens_items has [] h = tt
opens_items has (InitState place name ∷ rest) h = opens_items has rest h
opens_items has (State name ps ∷ rest) h =
    let r = opens_parts false ps (mentions_of rest) h in
    let few = r.0 in (omega (arith, few), opens_items r.1.0 rest r.1.1)
opens_items has (Always (Init place b) ∷ rest) h = opens_items has rest (opens_block has at.Init b (mentions_of rest) h)
opens_items has (Always (Do statement) ∷ rest) h = opens_items has rest (opens_block has at.Body (statement_then statement tree.Done) (mentions_of rest) h)

before_items : (has : Bool) (items : List Item) → AllByRecursion FewInits (whole.of_states items) → Opens has (mentions_of items)
before_items has [] h = tt
before_items has (InitState place name ∷ rest) h = before_items has rest h
before_items has (State name ps ∷ rest) h = let few = h.0 in before_parts false ps (mentions_of rest) (omega (arith, few)) (λ later. before_items later rest h.1)
before_items has (Always (Init place b) ∷ rest) h = before_block has at.Init b (mentions_of rest) (before_items has rest h)
before_items has (Always (Do statement) ∷ rest) h = before_block has at.Body (statement_then statement tree.Done) (mentions_of rest) (before_items has rest h)

-- There is a state exactly if an item defines one.
some_state : (items : List Item) → list_any is_state items ≡ true → 1 ≤ length (whole.states items)
some_state [] h = absurd (cc)
some_state (InitState place name ∷ rest) h = some_state rest h
some_state (State name ps ∷ rest) h = omega arith
some_state (Always part ∷ rest) h = some_state rest h

is_some_state : (items : List Item) → 1 ≤ length (whole.states items) → list_any is_state items ≡ true
is_some_state [] h = absurd (omega (arith, h))
is_some_state (InitState place name ∷ rest) h = is_some_state rest h
is_some_state (State name ps ∷ rest) h = refl
is_some_state (Always part ∷ rest) h = is_some_state rest h

no_marks : {X : Type 0} (xs : List X) → marks xs ≡ [] → xs ≡ []
no_marks [] h = refl
no_marks (x ∷ xs) h = absurd (cc)

marked : {X : Type 0} (ms : List (Unit {0})) (xs : List X) → ms ≡ marks xs → length ms ≡ length xs
marked ms xs e = ap length e ∙ length-map xs (λ _. tt)

each_as : {X : Type 0} (P Q : X → Type 0) → ((x : X) → P x → Q x) → (xs : List X) → AllByRecursion P xs → All Q xs
each_as P Q more xs h = All-weaker P Q more xs (All-from_recursion P xs h)

module _ (items : List Item) where
  abbrev ms : List Mentioned
  ms = mentions_of items

  rules_kept : (policy : PolicyParts) → Resolves items policy → KeepsRules items
  rules_kept policy r =
      let s = forth no_names ms r.sound in
      let t = tables_fit no_names ms r.sound no_tables_fit in
      let defined = states_defined items r.sound in
      let outside = marked (flat_map always_init ms) (inits_of (whole.outside items)) (picked_outside items) in
      let initial = marked (flat_map init_state ms) (whole.init_states items) (picked_initial items) in
      let few_outside = s.outside in
      let few_initial = s.initial in
      let known = subst (AllByRecursion (λ name. list_any (text_eq name) (tables_of ms).states ≡ true)) (picked_targets items) (known_forth (tables_of ms).states ms r.known) in
      let contained = λ (name : List ℕ) (h : list_any (text_eq name) (tables_of ms).states ≡ true). contains_from name (whole.states items) (subst (λ xs. list_any (text_eq name) xs ≡ true) defined h) in
      record {
        some_state = some_state items r.has_state;
        few_states = subst (λ xs. length xs ≤ 256) defined t.states.within;
        distinct = subst (λ xs. AllPairs (λ name other. name ≢ other) xs) defined t.states.distinct;
        one_outside = omega (arith, outside, few_outside);
        one_each = All-from_recursion FewInits (whole.of_states items) (opens_items false items s.opens);
        one_initial = omega (arith, initial, few_initial);
        no_tests = sym (picked_init_tests items) ∙ s.untested;
        no_targets = no_marks (whole.targets_in_inits items) (sym (picked_init_targets items) ∙ s.unset);
        few_interfaces = subst (λ xs. length xs ≤ 64) (interfaces_first items) t.interfaces.within;
        few_tests = subst (λ xs. length xs ≤ 64) (tests_first items) t.tests.within;
        few_commands = subst (λ xs. length xs ≤ 1024) (commands_first items) t.commands.within;
        interfaces_fit = subst (All TextFits) (picked_interfaces items) (All-from_recursion TextFits _ (takes_fit text_eq (λ t. t) 64 [] (flat_map interface_of ms) s.interfaces));
        tests_fit = subst (All (λ test. TextFits test.command)) (picked_tests items) (All-from_recursion (λ test. TextFits test.command) _ (takes_fit test_eq (λ t. t.command) 64 [] (flat_map tested_by ms) s.tests));
        commands_fit = subst (All TextFits) (picked_commands items) (All-from_recursion TextFits _ (takes_fit text_eq (λ t. t) 1024 [] (flat_map command_of ms) s.commands));
        states_fit = subst (All TextFits) (picked_states items) (All-from_recursion TextFits _ (defines_fit [] (flat_map state_of ms) s.states));
        targets_known = each_as _ (Contains (whole.states items)) contained (whole.targets items) (set_targets _ items known);
        initial_known = each_as _ (Contains (whole.states items)) contained (whole.init_states items) (initial_targets _ items known);
      }

  sound_from : KeepsRules items → Sound no_names ms
  sound_from k =
      let outside = marked (flat_map always_init ms) (inits_of (whole.outside items)) (picked_outside items) in
      let initial = marked (flat_map init_state ms) (whole.init_states items) (picked_initial items) in
      let few_outside = k.one_outside in
      let few_initial = k.one_initial in
      let fits_of = λ (xs : List (List ℕ)) (known : All (Contains (whole.states items)) xs). recursion_from_All TextFits xs
      (All-weaker (Contains (whole.states items)) TextFits (λ name there. All-contains TextFits (whole.states items) name k.states_fit there) xs known) in
      record {
        interfaces = subst (Takes text_eq (λ t. t) 64 []) (sym (picked_interfaces items)) (all_taken text_eq (λ t. t) 64 [] (whole.interfaces items)
            (subst (λ xs. length xs ≤ 64) (sym (inserted_are_first text_eq text_laws (whole.interfaces items))) k.few_interfaces)
            (recursion_from_All TextFits (whole.interfaces items) k.interfaces_fit));
        tests = subst (Takes test_eq (λ t. t.command) 64 []) (sym (picked_tests items)) (all_taken test_eq (λ t. t.command) 64 [] (whole.tests items)
            (subst (λ xs. length xs ≤ 64) (sym (inserted_are_first test_eq test_laws (whole.tests items))) k.few_tests)
            (recursion_from_All (λ test. TextFits test.command) (whole.tests items) k.tests_fit));
        commands = subst (Takes text_eq (λ t. t) 1024 []) (sym (picked_commands items)) (all_taken text_eq (λ t. t) 1024 [] (whole.commands items)
            (subst (λ xs. length xs ≤ 1024) (sym (inserted_are_first text_eq text_laws (whole.commands items))) k.few_commands)
            (recursion_from_All TextFits (whole.commands items) k.commands_fit));
        states = subst (Defines []) (sym (picked_states items)) (all_defined (whole.states items) k.distinct k.few_states (recursion_from_All TextFits (whole.states items) k.states_fit));
        targets = subst (AllByRecursion TextFits) (sym (picked_targets items))
            (join_targets TextFits items (fits_of (whole.targets items) k.targets_known) (fits_of (whole.init_states items) k.initial_known));
        untested = picked_init_tests items ∙ k.no_tests;
        unset = picked_init_targets items ∙ ap marks k.no_targets;
        outside = omega (arith, outside, few_outside);
        initial = omega (arith, initial, few_initial);
        opens = before_items false items (recursion_from_All FewInits (whole.of_states items) k.one_each);
      }

  known_from : KeepsRules items → AreSound no_names ms → AreKnown (tables_of ms).states ms
  known_from k sound =
      let P = λ (name : List ℕ). list_any (text_eq name) (tables_of ms).states ≡ true in
      let there = λ (name : List ℕ) (c : Contains (whole.states items) name). subst (λ xs. list_any (text_eq name) xs ≡ true) (sym (states_defined items sound)) (contains_to name (whole.states items) c) in
      known_back (tables_of ms).states ms (subst (AllByRecursion P) (sym (picked_targets items)) (join_targets P items
      (recursion_from_All P (whole.targets items) (All-weaker (Contains (whole.states items)) P there (whole.targets items) k.targets_known))
      (recursion_from_All P (whole.init_states items) (All-weaker (Contains (whole.states items)) P there (whole.init_states items) k.initial_known))))

  has_policy : KeepsRules items → (policy : PolicyParts) × Resolves items policy
  has_policy k =
      let sound = back no_names ms (sound_from k) in (
        place_items (tables_of ms) items,
        record { has_state = is_some_state items k.some_state; sound = sound; known = known_from k sound; placed = refl },
      )

pub tree_has_a_policy : (items : List Item) → ((policy : PolicyParts) × Resolves items policy) ↔ KeepsRules items
tree_has_a_policy items = ((λ h. rules_kept items h.0 h.1), has_policy items)
