-- Mentions that break no rule leave tables within their limits, which list what is mentioned.
use Rattle.std.proofs.Common.{◌≡◌, ◌≢◌, ℕ, ◌+◌, ◌≤◌, inl, inr, Bool, true, false, nat_eq, ◌||◌, ◌&&◌, true≢false}
use Rattle.std.proofs.Common.{List, [], ◌∷◌, ◌++◌, fold, subst, length, if◌then◌else◌, All, refl, sym, ap, ◌∙◌, arith}
use Rattle.std.proofs.lemmas.Bool.{cases_lt}
use Rattle.std.proofs.Math.Bool.{or-true}
use Rattle.std.proofs.lemmas.Cmp.{nat_list_eq_equiv, nat_eq_equiv}
use Rattle.std.proofs.lemmas.List.{length_push}
use Rattle.std.proofs.lemmas.List.Elements.{All-nil, All-push}
use Rattle.std.proofs.lemmas.List.Folds.{list_any-append, list_any_at}
use Rattle.std.proofs.lemmas.List.Quantifiers.{all_pairs_push}
use Rattle.std.specs.List.{flat_map, list_any, AllPairs, AllByRecursion}
use Rattle.std.proofs.lemmas.List.Sums.{fold-append}
use Rattle.indexmap.specs.IndexSet.{insert_key}
use Rattle.ifs_base.specs.Sizes.{TextFits}
use Rattle.ifs_policy.specs.declared.fault.ResolveFault.TheVariants.{StateTwice, TableFull, BadText}
use Rattle.ifs_policy.specs.declared.mention.Mention.TheVariants.{Interface, External, Command, Defined}
use Rattle.ifs_policy.specs.declared.mention.Mention.TheVariants.{Target, Init}
use Rattle.ifs_policy.specs.declared.mention.Owner.TheVariants as whose
use Rattle.ifs_policy.specs.declared.tables.ExternalTest.{ExternalTest}
use Rattle.ifs_policy.specs.declared.tables.Tables.{Tables}
use Rattle.ifs_policy.specs.declared.names.Names.{Names}
use Rattle.ifs_policy.specs.Mentions.{Mentioned}
use Rattle.ifs_policy.specs.Tables.{text_eq, test_eq, test_of, no_tables, after, names_after}
use Rattle.ifs_policy.specs.Faults.{IsFull, IsSound, AreSound, IsKnown, AreKnown}
use Rattle.ifs_policy.specs.Fits.{TableFits, TestsFit, TablesFit}
use Rattle.ifs_policy.proofs.Gathered.{interface_of, tested_by, command_of}

-- An inserted entry is in the table already, or is appended.
pub insert_cases : {T : Type 0} (eq : T → T → Bool) (Q : List T → Type 0) (xs : List T) (x : T)
    → (list_any (eq x) xs ≡ true → Q xs) → (list_any (eq x) xs ≡ false → Q (xs ++ x ∷ [])) → Q (insert_key eq xs x)
insert_cases {T} eq Q xs x there absent = by (list_any (eq x) xs) there absent
  where
    by : (b : Bool) → (b ≡ true → Q xs) → (b ≡ false → Q (xs ++ x ∷ [])) → Q (if b then xs else xs ++ x ∷ [])
    by true there absent = there refl
    by false there absent = absent refl

pub text_same : (text : List ℕ) → text_eq text text ≡ true
text_same text = nat_list_eq_equiv.refl text

test_same : (test : ExternalTest) → test_eq test test ≡ true
test_same test = ap (λ b. b && nat_eq test.period test.period) (text_same test.command) ∙ nat_eq_equiv.refl test.period

within_insert : {T : Type 0} (eq : T → T → Bool) (limit : ℕ) (xs : List T) (x : T) → length xs ≤ limit → ¬ IsFull eq limit xs x → length (insert_key eq xs x) ≤ limit
within_insert eq limit xs x within room = insert_cases eq (λ ys. length ys ≤ limit) xs x (λ there. within) (λ absent.
    let more : limit ≤ length xs → ⊥ = λ full. room (absent, full) in
    elim (cases_lt (length xs) limit) [ inl below ↦ omega (arith, length_push xs x) | inr full ↦ absurd (more full) ])

pub all_insert : {T : Type 0} (eq : T → T → Bool) (P : T → Type 0) (xs : List T) (x : T) → All P xs → P x → All P (insert_key eq xs x)
all_insert eq P xs x each this = insert_cases eq (All P) xs x (λ there. each) (λ absent. All-push P xs x each this)

distinct_insert : {T : Type 0} (eq : T → T → Bool) → ((x : T) → eq x x ≡ true) → (xs : List T) (x : T)
    → AllPairs (λ y z. y ≢ z) xs → AllPairs (λ y z. y ≢ z) (insert_key eq xs x)
distinct_insert eq same xs x distinct = insert_cases eq (AllPairs (λ y z. y ≢ z)) xs x (λ there. distinct) (λ absent.
    all_pairs_push (λ y z. y ≢ z) xs x distinct (λ k d below e.
    true≢false (sym (list_any_at (eq x) xs k d below (ap (eq x) e ∙ same x)) ∙ absent)))

any_insert : {T : Type 0} (eq : T → T → Bool) (p : T → Bool) (xs : List T) (x : T) → list_any p xs ≡ true → list_any p (insert_key eq xs x) ≡ true
any_insert eq p xs x h = insert_cases eq (λ ys. list_any p ys ≡ true) xs x (λ there. h) (λ absent.
    list_any-append p xs (x ∷ []) ∙ ap (λ b. b || list_any p (x ∷ [])) h)

any_all : {T : Type 0} (eq : T → T → Bool) (p : T → Bool) (table xs : List T) → list_any p table ≡ true → list_any p (fold (insert_key eq) table xs) ≡ true
any_all eq p table [] h = h
any_all eq p table (x ∷ xs) h = any_all eq p (insert_key eq table x) xs (any_insert eq p table x h)

inserted : {T : Type 0} (eq : T → T → Bool) → ((x : T) → eq x x ≡ true) → (xs : List T) (x : T) → list_any (eq x) (insert_key eq xs x) ≡ true
inserted eq same xs x = insert_cases eq (λ ys. list_any (eq x) ys ≡ true) xs x (λ there. there) (λ absent.
    list_any-append (eq x) xs (x ∷ []) ∙ ap (λ b. list_any (eq x) xs || (b || false)) (same x) ∙ or-true (list_any (eq x) xs))

-- A text that is not invalid is valid.
pub at_most : (m n : ℕ) → ¬ (¬ (m ≤ n)) → m ≤ n
at_most m n h = elim (cases_lt n m) [ inl above ↦ absurd (h (λ within. omega arith)) | inr within ↦ within ]

pub fit : (text : List ℕ) → ¬ (¬ TextFits text) → TextFits text
fit text h = record {
  not_empty = at_most 1 (length text) (λ no. h (λ fits. no fits.not_empty));
  within = at_most (length text) 1024 (λ no. h (λ fits. no fits.within));
  no_nul = λ k d below e. h (λ fits. fits.no_nul k d below e);
}

table_fits : (limit : ℕ) (xs : List (List ℕ)) (x : List ℕ) → ¬ IsFull text_eq limit xs x → ¬ (¬ TextFits x) → TableFits limit xs → TableFits limit (insert_key text_eq xs x)
table_fits limit xs x room fits t = record {
  within = within_insert text_eq limit xs x t.within room;
  each = all_insert text_eq TextFits xs x t.each (fit x fits);
  distinct = distinct_insert text_eq text_same xs x t.distinct;
}

tests_fit : (xs : List ExternalTest) (x : ExternalTest) → ¬ IsFull test_eq 64 xs x → ¬ (¬ TextFits x.command) → TestsFit xs → TestsFit (insert_key test_eq xs x)
tests_fit xs x room fits t = record {
  within = within_insert test_eq 64 xs x t.within room;
  each = all_insert test_eq (λ test. TextFits test.command) xs x t.each (fit x.command fits);
  distinct = distinct_insert test_eq test_same xs x t.distinct;
}

fits_after : (names : Names) (mention : Mentioned) → IsSound names mention → TablesFit names.tables → TablesFit (after names mention).tables
fits_after names (Interface name) sound t = record {
  interfaces = table_fits 64 names.tables.interfaces name.text (λ full. sound (TableFull name.place) (refl, full)) (λ bad. sound (BadText name.place) (refl, bad)) t.interfaces;
  tests = t.tests;
  commands = t.commands;
  states = t.states;
}
fits_after names (External half command period) sound t = record {
  interfaces = t.interfaces;
  tests = tests_fit names.tables.tests (test_of command period) (λ full. sound (TableFull command.place) (refl, full)) (λ bad. sound (BadText command.place) (refl, bad)) t.tests;
  commands = t.commands;
  states = t.states;
}
fits_after names (Command text) sound t = record {
  interfaces = t.interfaces;
  tests = t.tests;
  commands = table_fits 1024 names.tables.commands text.text (λ full. sound (TableFull text.place) (refl, full)) (λ bad. sound (BadText text.place) (refl, bad)) t.commands;
  states = t.states;
}
fits_after names (Defined name) sound t = record {
  interfaces = t.interfaces;
  tests = t.tests;
  commands = t.commands;
  states = table_fits 256 names.tables.states name.text (λ full. sound (TableFull name.place) (refl, full)) (λ bad. sound (BadText name.place) (refl, bad)) t.states;
}
fits_after names (Init whose.Always place) sound t = t
fits_after names _ sound t = t

pub tables_fit : (names : Names) (mentions : List Mentioned) → AreSound names mentions → TablesFit names.tables → TablesFit (names_after names mentions).tables
tables_fit names [] sound t = t
tables_fit names (mention ∷ rest) sound t = tables_fit (after names mention) rest sound.1 (fits_after names mention sound.0 t)

none_fit : (limit : ℕ) → TableFits limit []
none_fit limit = record { within = omega arith; each = All-nil TextFits; distinct = λ i j d before below. absurd (omega arith) }

pub no_tables_fit : TablesFit no_tables
no_tables_fit = record {
  interfaces = none_fit 64;
  tests = record { within = omega arith; each = All-nil (λ test. TextFits test.command); distinct = λ i j d before below. absurd (omega arith) };
  commands = none_fit 1024;
  states = none_fit 256;
}

-- If each mention adds its picked entries to a table, then a list of mentions adds those of all its members.
module _ {T : Type 0} (eq : T → T → Bool) (table : Names → List T) (pick : Mentioned → List T)
    (one : (names : Names) (mention : Mentioned) → table (after names mention) ≡ fold (insert_key eq) (table names) (pick mention)) where
  pub table_after : (names : Names) (mentions : List Mentioned) → table (names_after names mentions) ≡ fold (insert_key eq) (table names) (flat_map pick mentions)
  table_after names [] = refl
  table_after names (mention ∷ rest) =
      table_after (after names mention) rest ∙ ap (λ t. fold (insert_key eq) t (flat_map pick rest)) (one names mention)
      ∙ sym (fold-append (insert_key eq) (table names) (pick mention) (flat_map pick rest))

  -- The table keeps its entries.
  kept_after : (names : Names) (mentions : List Mentioned) (p : T → Bool) → list_any p (table names) ≡ true → list_any p (table (names_after names mentions)) ≡ true
  kept_after names mentions p h = subst (λ t. list_any p t ≡ true) (sym (table_after names mentions)) (any_all eq p (table names) (flat_map pick mentions) h)

pub interfaces_one : (names : Names) (mention : Mentioned) → (after names mention).tables.interfaces ≡ fold (insert_key text_eq) names.tables.interfaces (interface_of mention)
interfaces_one names (Init whose.Always place) = refl
interfaces_one names _ = refl

pub tests_one : (names : Names) (mention : Mentioned) → (after names mention).tables.tests ≡ fold (insert_key test_eq) names.tables.tests (tested_by mention)
tests_one names (Init whose.Always place) = refl
tests_one names _ = refl

pub commands_one : (names : Names) (mention : Mentioned) → (after names mention).tables.commands ≡ fold (insert_key text_eq) names.tables.commands (command_of mention)
commands_one names (Init whose.Always place) = refl
commands_one names _ = refl

-- The mentioned entry is in its table.
abbrev pub IsListed : Tables → Mentioned → Type 0
IsListed tables (Interface name) = list_any (text_eq name.text) tables.interfaces ≡ true
IsListed tables (External half command period) = list_any (test_eq (test_of command period)) tables.tests ≡ true
IsListed tables (Command text) = list_any (text_eq text.text) tables.commands ≡ true
IsListed tables (Target name) = list_any (text_eq name.text) tables.states ≡ true
IsListed tables _ = Unit {0}

listed_after : (names : Names) (mention : Mentioned) (rest : List Mentioned) → IsKnown (names_after names (mention ∷ rest)).tables.states mention
    → IsListed (names_after names (mention ∷ rest)).tables mention
listed_after names (Interface name) rest known =
    kept_after text_eq (λ names. names.tables.interfaces) interface_of interfaces_one (after names (Interface name)) rest (text_eq name.text) (inserted text_eq text_same names.tables.interfaces name.text)
listed_after names (External half command period) rest known =
    let test = test_of command period in
    kept_after test_eq (λ names. names.tables.tests) tested_by tests_one (after names (External half command period)) rest (test_eq test) (inserted test_eq test_same names.tables.tests test)
listed_after names (Command text) rest known =
    kept_after text_eq (λ names. names.tables.commands) command_of commands_one (after names (Command text)) rest (text_eq text.text) (inserted text_eq text_same names.tables.commands text.text)
listed_after names (Target name) rest known = known
listed_after names _ rest known = tt

abbrev pub AreListed : Tables → List Mentioned → Type 0
AreListed tables mentions = AllByRecursion (IsListed tables) mentions

pub all_listed : (names : Names) (mentions : List Mentioned) → AreKnown (names_after names mentions).tables.states mentions
    → AreListed (names_after names mentions).tables mentions
all_listed names [] known = tt
all_listed names (mention ∷ rest) known = (listed_after names mention rest known.0, all_listed (after names mention) rest known.1)

-- The number of states that mentions define.
abbrev pub defined : List Mentioned → ℕ
defined [] = 0
defined (Defined name ∷ rest) = defined rest + 1
defined (mention ∷ rest) = defined rest

states_after : (names : Names) (mention : Mentioned) → IsSound names mention → length (after names mention).tables.states ≡ length names.tables.states + defined (mention ∷ [])
states_after names (Defined name) sound = insert_cases text_eq (λ ys. length ys ≡ length names.tables.states + 1) names.tables.states name.text
    (λ there. absurd (sound (StateTwice name.place) (refl, there)))
    (λ absent. length_push names.tables.states name.text)
states_after names (Init whose.Always place) sound = omega arith
states_after names _ sound = omega arith

defined_more : (mention : Mentioned) (rest : List Mentioned) → defined (mention ∷ rest) ≡ defined (mention ∷ []) + defined rest
defined_more (Defined name) rest = omega arith
defined_more _ rest = omega arith

pub count_states : (names : Names) (mentions : List Mentioned) → AreSound names mentions
    → length (names_after names mentions).tables.states ≡ length names.tables.states + defined mentions
count_states names [] sound = omega arith
count_states names (mention ∷ rest) sound =
    let here = states_after names mention sound.0 in
    let later = count_states (after names mention) rest sound.1 in
    let both = defined_more mention rest in
    omega arith
