-- The entries of the tables are in the order of the text.
use Rattle.std.proofs.Common.{◌≡◌, List, [], ◌∷◌, ◌++◌, fold, refl, sym, ap, subst, ◌∙◌, append_assoc}
use Rattle.std.specs.List.{flat_map}
use Rattle.std.proofs.lemmas.List.{append-nil}
use Rattle.indexmap.specs.IndexSet.{insert_key}
use Rattle.ifs_parse.specs.declared.tree.Item.{Item}
use Rattle.ifs_policy.specs.declared.fault.ResolveFault.TheVariants.{StateTwice}
use Rattle.ifs_policy.specs.declared.mention.Mention.TheVariants.{Defined, Init}
use Rattle.ifs_policy.specs.declared.mention.Owner.TheVariants as whose
use Rattle.ifs_policy.specs.declared.names.Names.{Names}
use Rattle.ifs_policy.specs.declared.policy.PolicyParts.{PolicyParts}
use Rattle.ifs_policy.specs.Mentions.{Mentioned, mentions_of}
use Rattle.ifs_policy.specs.Tables.{text_eq, test_eq, after, names_after, no_names, tables_of}
use Rattle.ifs_policy.specs.Faults.{AreSound}
use Rattle.ifs_policy.specs.Resolution.{Resolves}
use Rattle.ifs_policy.specs.Order.{InOrder}
use Rattle.ifs_policy.specs.Whole as whole
use Rattle.ifs_policy.specs.Whole.{first_uses}
use Rattle.ifs_policy.proofs.Filled.{insert_cases, table_after, interfaces_one, tests_one, commands_one}
use Rattle.ifs_policy.proofs.FirstUses.{inserted_are_first, text_laws, test_laws}
use Rattle.ifs_policy.proofs.Gathered.{interface_of, tested_by, command_of, state_of}
use Rattle.ifs_policy.proofs.Gathered.{picked_interfaces, picked_tests, picked_commands, picked_states}

-- A defined state is new, so it is appended.
state_goes_last : (names : Names) (mentions : List Mentioned) → AreSound names mentions → (names_after names mentions).tables.states ≡ names.tables.states ++ flat_map state_of mentions
state_goes_last names [] sound = sym (append-nil names.tables.states)
state_goes_last names (Defined name ∷ rest) sound =
    let new : insert_key text_eq names.tables.states name.text ≡ names.tables.states ++ name.text ∷ [] =
    insert_cases text_eq (λ ys. ys ≡ names.tables.states ++ name.text ∷ []) names.tables.states name.text
    (λ there. absurd (sound.0 (StateTwice name.place) (refl, there))) (λ absent. refl) in
    state_goes_last (after names (Defined name)) rest sound.1 ∙ ap (λ xs. xs ++ flat_map state_of rest) new ∙ append_assoc names.tables.states (name.text ∷ []) (flat_map state_of rest)
state_goes_last names (Init whose.Always place ∷ rest) sound = state_goes_last (after names (Init whose.Always place)) rest sound.1
state_goes_last names (mention ∷ rest) sound = state_goes_last (after names mention) rest sound.1

pub interfaces_first : (items : List Item) → (tables_of (mentions_of items)).interfaces ≡ first_uses text_eq (whole.interfaces items)
interfaces_first items = table_after text_eq (λ names. names.tables.interfaces) interface_of interfaces_one no_names (mentions_of items) ∙ ap (fold (insert_key text_eq) []) (picked_interfaces items) ∙ inserted_are_first text_eq text_laws (whole.interfaces items)

pub tests_first : (items : List Item) → (tables_of (mentions_of items)).tests ≡ first_uses test_eq (whole.tests items)
tests_first items = table_after test_eq (λ names. names.tables.tests) tested_by tests_one no_names (mentions_of items) ∙ ap (fold (insert_key test_eq) []) (picked_tests items) ∙ inserted_are_first test_eq test_laws (whole.tests items)

pub commands_first : (items : List Item) → (tables_of (mentions_of items)).commands ≡ first_uses text_eq (whole.commands items)
commands_first items = table_after text_eq (λ names. names.tables.commands) command_of commands_one no_names (mentions_of items) ∙ ap (fold (insert_key text_eq) []) (picked_commands items) ∙ inserted_are_first text_eq text_laws (whole.commands items)

pub states_defined : (items : List Item) → AreSound no_names (mentions_of items) → (tables_of (mentions_of items)).states ≡ whole.states items
states_defined items sound = state_goes_last no_names (mentions_of items) sound ∙ picked_states items

pub in_order : (items : List Item) (policy : PolicyParts) → Resolves items policy → InOrder items policy.tables
in_order items policy r =
    let made : InOrder items (tables_of (mentions_of items)) = record {
      interfaces = interfaces_first items;
      tests = tests_first items;
      commands = commands_first items;
      states = states_defined items r.sound;
    } in
    subst (λ (p : PolicyParts). InOrder items p.tables) (sym r.placed) made
