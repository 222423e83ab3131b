-- Mentions break no rule exactly if the lists that are picked from them have certain properties.
use Rattle.std.proofs.Common.{◌≡◌, ◌≢◌, ℕ, suc, ◌+◌, ◌≤◌, ⊎_elim, Bool, true, false, ◌||◌, List, []}
use Rattle.std.proofs.Common.{◌∷◌, ◌++◌, length, fold, AllPairs, Contains, refl, sym, ap, ◌∙◌, arith}
use Rattle.std.proofs.lemmas.Bool.{or_cases, or_from, false_from_ne_true}
use Rattle.std.proofs.lemmas.Bool.Decides.{Decides-eqb}
use Rattle.std.proofs.lemmas.Slice.Eq.{slice_eq-Decides}
use Rattle.std.proofs.lemmas.List.{length_push}
use Rattle.std.proofs.lemmas.List.Elements.{recursion_from_All}
use Rattle.std.proofs.lemmas.List.Folds.{list_any-append, list_any_at}
use Rattle.std.specs.List.{flat_map, list_any, AllByRecursion}
use Rattle.indexmap.specs.IndexSet.{insert_key}
use Rattle.ifs_base.specs.Sizes.{TextFits}
use Rattle.ifs_policy.specs.declared.fault.ResolveFault.TheVariants.{StateTwice, SecondInit, SetStateInInit}
use Rattle.ifs_policy.specs.declared.fault.ResolveFault.TheVariants.{TestInInit, TableFull, BadText}
use Rattle.ifs_policy.specs.declared.mention.Mention.TheVariants.{Interface, External, Command, Defined}
use Rattle.ifs_policy.specs.declared.mention.Mention.TheVariants.{Target, Init, InitState, SetState}
use Rattle.ifs_policy.specs.declared.mention.Half.TheVariants as at
use Rattle.ifs_policy.specs.declared.mention.Owner.TheVariants as whose
use Rattle.ifs_policy.specs.declared.names.Names.{Names}
use Rattle.ifs_policy.specs.Mentions.{Mentioned}
use Rattle.ifs_policy.specs.Tables.{text_eq, test_eq, after}
use Rattle.ifs_policy.specs.Faults.{IsFull, IsSound, AreSound, AreKnown}
use Rattle.ifs_policy.proofs.Filled.{insert_cases, fit, text_same}
use Rattle.ifs_policy.proofs.Gathered.{interface_of, tested_by, command_of, state_of, target_of}
use Rattle.ifs_policy.proofs.Gathered.{tested_in_init, set_in_init, always_init, init_state}

-- Each entry finds room in its table, and its text is valid.
abbrev pub Takes : {T : Type 0} → (T → T → Bool) → (T → List ℕ) → ℕ → List T → List T → Type 0
Takes eq text limit table [] = Unit {0}
Takes eq text limit table (x ∷ xs) = (¬ IsFull eq limit table x) × TextFits (text x) × Takes eq text limit (insert_key eq table x) xs

-- Each state finds room, is valid, and is new.
abbrev pub Defines : List (List ℕ) → List (List ℕ) → Type 0
Defines table [] = Unit {0}
Defines table (x ∷ xs) = (list_any (text_eq x) table ≡ false) × (¬ IsFull text_eq 256 table x) × TextFits x × Defines (insert_key text_eq table x) xs

-- No state has a second `init`.
abbrev pub Opens : Bool → List Mentioned → Type 0
Opens has [] = Unit {0}
Opens has (Defined name ∷ rest) = Opens false rest
Opens has (Init whose.State place ∷ rest) = (has ≡ false) × Opens true rest
Opens has (mention ∷ rest) = Opens has rest

abbrev pub bit : Bool → ℕ
bit true = 1
bit false = 0

-- What holds of the lists that are picked from mentions, from these tables on.
abbrev TakesInterfaces : Names → List Mentioned → Type 0
TakesInterfaces names ms = Takes text_eq (λ t. t) 64 names.tables.interfaces (flat_map interface_of ms)

abbrev TakesTests : Names → List Mentioned → Type 0
TakesTests names ms = Takes test_eq (λ t. t.command) 64 names.tables.tests (flat_map tested_by ms)

abbrev TakesCommands : Names → List Mentioned → Type 0
TakesCommands names ms = Takes text_eq (λ t. t) 1024 names.tables.commands (flat_map command_of ms)

abbrev DefinesStates : Names → List Mentioned → Type 0
DefinesStates names ms = Defines names.tables.states (flat_map state_of ms)

abbrev TargetsFit : Names → List Mentioned → Type 0
TargetsFit names ms = AllByRecursion TextFits (flat_map target_of ms)

abbrev HasNoTest : Names → List Mentioned → Type 0
HasNoTest names ms = flat_map tested_in_init ms ≡ []

abbrev HasNoSetState : Names → List Mentioned → Type 0
HasNoSetState names ms = flat_map set_in_init ms ≡ []

abbrev OneOutside : Names → List Mentioned → Type 0
OneOutside names ms = bit names.always_init + length (flat_map always_init ms) ≤ 1

abbrev OneInitial : Names → List Mentioned → Type 0
OneInitial names ms = bit names.init_state + length (flat_map init_state ms) ≤ 1

abbrev OneEach : Names → List Mentioned → Type 0
OneEach names ms = Opens names.state_init ms

pub record Sound (names : Names) (ms : List Mentioned) : Type 0 where
  pub interfaces : TakesInterfaces names ms
  pub tests : TakesTests names ms
  pub commands : TakesCommands names ms
  pub states : DefinesStates names ms
  pub targets : TargetsFit names ms
  pub untested : HasNoTest names ms
  pub unset : HasNoSetState names ms
  pub outside : OneOutside names ms
  pub initial : OneInitial names ms
  pub opens : OneEach names ms

no_more : (b : Bool) → bit b + 0 ≤ 1
no_more true = omega arith
no_more false = omega arith

first_bit : (b : Bool) (n : ℕ) → b ≡ false → 1 + n ≤ 1 → bit b + suc n ≤ 1
first_bit true n e h = absurd (cc)
first_bit false n e h = omega (arith, h)

bit_before : (b : Bool) (n : ℕ) → bit b + suc n ≤ 1 → b ≡ false
bit_before true n h = absurd (omega (arith, h))
bit_before false n h = refl

bit_after : (b : Bool) (n : ℕ) → bit b + suc n ≤ 1 → 1 + n ≤ 1
bit_after true n h = absurd (omega (arith, h))
bit_after false n h = omega (arith, h)

-- A property of the mentions after a sound one holds with that mention as well.
abbrev Carries : (Names → List Mentioned → Type 0) → Type 0
Carries P = (names : Names) (mention : Mentioned) (rest : List Mentioned) → IsSound names mention → P (after names mention) rest → P names (mention ∷ rest)

along : (P : Names → List Mentioned → Type 0) → ((names : Names) → P names []) → Carries P → (names : Names) (ms : List Mentioned) → AreSound names ms → P names ms
along P none more names [] h = none names
along P none more names (mention ∷ rest) h = more names mention rest h.0 (along P none more (after names mention) rest h.1)

carry_interfaces : Carries TakesInterfaces
carry_interfaces names (Interface name) rest sound h = ((λ full. sound (TableFull name.place) (refl, full)), fit name.text (λ bad. sound (BadText name.place) (refl, bad)), h)
carry_interfaces names (Init whose.Always place) rest sound h = h
carry_interfaces names _ rest sound h = h

carry_tests : Carries TakesTests
carry_tests names (External half command period) rest sound h =
    ((λ full. sound (TableFull command.place) (refl, full)), fit command.text (λ bad. sound (BadText command.place) (refl, bad)), h)
carry_tests names (Init whose.Always place) rest sound h = h
carry_tests names _ rest sound h = h

carry_commands : Carries TakesCommands
carry_commands names (Command text) rest sound h = ((λ full. sound (TableFull text.place) (refl, full)), fit text.text (λ bad. sound (BadText text.place) (refl, bad)), h)
carry_commands names (Init whose.Always place) rest sound h = h
carry_commands names _ rest sound h = h

carry_states : Carries DefinesStates
carry_states names (Defined name) rest sound h = (
  false_from_ne_true (list_any (text_eq name.text) names.tables.states) (λ there. sound (StateTwice name.place) (refl, there)),
  (λ full. sound (TableFull name.place) (refl, full)),
  fit name.text (λ bad. sound (BadText name.place) (refl, bad)),
  h,
)
carry_states names (Init whose.Always place) rest sound h = h
carry_states names _ rest sound h = h

carry_targets : Carries TargetsFit
carry_targets names (Target name) rest sound h = (fit name.text (λ bad. sound (BadText name.place) (refl, bad)), h)
carry_targets names _ rest sound h = h

carry_untested : Carries HasNoTest
carry_untested names (External at.Init command period) rest sound h = absurd (sound (TestInInit command.place) (refl, refl))
carry_untested names _ rest sound h = h

carry_unset : Carries HasNoSetState
carry_unset names (SetState at.Init place) rest sound h = absurd (sound (SetStateInInit place) (refl, refl))
carry_unset names _ rest sound h = h

carry_outside : Carries OneOutside
carry_outside names (Init whose.Always place) rest sound h =
    first_bit names.always_init (length (flat_map always_init rest)) (false_from_ne_true names.always_init (λ has. sound (SecondInit place) (refl, has))) h
carry_outside names _ rest sound h = h

carry_initial : Carries OneInitial
carry_initial names (InitState place) rest sound h =
    first_bit names.init_state (length (flat_map init_state rest)) (false_from_ne_true names.init_state (λ has. sound (SecondInit place) (refl, has))) h
carry_initial names (Init whose.Always place) rest sound h = h
carry_initial names _ rest sound h = h

carry_opens : Carries OneEach
carry_opens names (Init whose.State place) rest sound h = (false_from_ne_true names.state_init (λ has. sound (SecondInit place) (refl, has)), h)
carry_opens names _ rest sound h = h

pub forth : (names : Names) (ms : List Mentioned) → AreSound names ms → Sound names ms
forth names ms h = record {
  interfaces = along TakesInterfaces (λ names. tt) carry_interfaces names ms h;
  tests = along TakesTests (λ names. tt) carry_tests names ms h;
  commands = along TakesCommands (λ names. tt) carry_commands names ms h;
  states = along DefinesStates (λ names. tt) carry_states names ms h;
  targets = along TargetsFit (λ names. tt) carry_targets names ms h;
  untested = along HasNoTest (λ names. refl) carry_untested names ms h;
  unset = along HasNoSetState (λ names. refl) carry_unset names ms h;
  outside = along OneOutside (λ names. no_more names.always_init) carry_outside names ms h;
  initial = along OneInitial (λ names. no_more names.init_state) carry_initial names ms h;
  opens = along OneEach (λ names. tt) carry_opens names ms h;
}

-- A property of mentions holds of those after the first.
abbrev Leaves : (Names → List Mentioned → Type 0) → Type 0
Leaves P = (names : Names) (mention : Mentioned) (rest : List Mentioned) → P names (mention ∷ rest) → P (after names mention) rest

leave_interfaces : Leaves TakesInterfaces
leave_interfaces names (Interface name) rest h = h.2
leave_interfaces names (Init whose.Always place) rest h = h
leave_interfaces names _ rest h = h

leave_tests : Leaves TakesTests
leave_tests names (External half command period) rest h = h.2
leave_tests names (Init whose.Always place) rest h = h
leave_tests names _ rest h = h

leave_commands : Leaves TakesCommands
leave_commands names (Command text) rest h = h.2
leave_commands names (Init whose.Always place) rest h = h
leave_commands names _ rest h = h

leave_states : Leaves DefinesStates
leave_states names (Defined name) rest h = h.3
leave_states names (Init whose.Always place) rest h = h
leave_states names _ rest h = h

leave_targets : Leaves TargetsFit
leave_targets names (Target name) rest h = h.1
leave_targets names _ rest h = h

leave_untested : Leaves HasNoTest
leave_untested names (External at.Init command period) rest h = absurd (cc)
leave_untested names _ rest h = h

leave_unset : Leaves HasNoSetState
leave_unset names (SetState at.Init place) rest h = absurd (cc)
leave_unset names _ rest h = h

leave_outside : Leaves OneOutside
leave_outside names (Init whose.Always place) rest h = bit_after names.always_init (length (flat_map always_init rest)) h
leave_outside names _ rest h = h

leave_initial : Leaves OneInitial
leave_initial names (InitState place) rest h = bit_after names.init_state (length (flat_map init_state rest)) h
leave_initial names (Init whose.Always place) rest h = h
leave_initial names _ rest h = h

leave_opens : Leaves OneEach
leave_opens names (Init whose.State place) rest h = h.1
leave_opens names _ rest h = h

first_sound : (names : Names) (mention : Mentioned) (rest : List Mentioned) → Sound names (mention ∷ rest) → IsSound names mention
first_sound names (Interface name) rest w (TableFull place) h = w.interfaces.0 h.1
first_sound names (Interface name) rest w (BadText place) h = h.1 w.interfaces.1
first_sound names (External at.Init command period) rest w fault h = let none = w.untested in absurd (cc)
first_sound names (External at.Body command period) rest w (TestInInit place) h = let k = h.1 in absurd (cc)
first_sound names (External at.Body command period) rest w (TableFull place) h = w.tests.0 h.1
first_sound names (External at.Body command period) rest w (BadText place) h = h.1 w.tests.1
first_sound names (Command text) rest w (TableFull place) h = w.commands.0 h.1
first_sound names (Command text) rest w (BadText place) h = h.1 w.commands.1
first_sound names (Defined name) rest w (StateTwice place) h = let k = h.1 in let new = w.states.0 in absurd (cc)
first_sound names (Defined name) rest w (TableFull place) h = w.states.1 h.1
first_sound names (Defined name) rest w (BadText place) h = h.1 w.states.2
first_sound names (Target name) rest w (TableFull place) h = h.1
first_sound names (Target name) rest w (BadText place) h = h.1 w.targets.0
first_sound names (Init whose.Always word) rest w (SecondInit place) h =
    let k = h.1 in let none = bit_before names.always_init (length (flat_map always_init rest)) w.outside in absurd (cc)
first_sound names (Init whose.State word) rest w (SecondInit place) h = let k = h.1 in let none = w.opens.0 in absurd (cc)
first_sound names (InitState word) rest w (SecondInit place) h =
    let k = h.1 in let none = bit_before names.init_state (length (flat_map init_state rest)) w.initial in absurd (cc)
first_sound names (SetState at.Init place) rest w fault h = let none = w.unset in absurd (cc)
first_sound names (SetState at.Body word) rest w (SetStateInInit place) h = let k = h.1 in absurd (cc)
first_sound names _ rest w _ h = h

others_sound : (names : Names) (mention : Mentioned) (rest : List Mentioned) → Sound names (mention ∷ rest) → Sound (after names mention) rest
others_sound names mention rest w = record {
  interfaces = leave_interfaces names mention rest w.interfaces;
  tests = leave_tests names mention rest w.tests;
  commands = leave_commands names mention rest w.commands;
  states = leave_states names mention rest w.states;
  targets = leave_targets names mention rest w.targets;
  untested = leave_untested names mention rest w.untested;
  unset = leave_unset names mention rest w.unset;
  outside = leave_outside names mention rest w.outside;
  initial = leave_initial names mention rest w.initial;
  opens = leave_opens names mention rest w.opens;
}

pub back : (names : Names) (ms : List Mentioned) → Sound names ms → AreSound names ms
back names [] w = tt
back names (mention ∷ rest) w = (first_sound names mention rest w, back (after names mention) rest (others_sound names mention rest w))

-- All entries of a list find room and are valid.
module _ {T : Type 0} (eq : T → T → Bool) (text : T → List ℕ) (limit : ℕ) where
  pub takes_fit : (table xs : List T) → Takes eq text limit table xs → AllByRecursion (λ x. TextFits (text x)) xs
  takes_fit table [] h = tt
  takes_fit table (x ∷ xs) h = (h.1, takes_fit (insert_key eq table x) xs h.2)

  longer : (table : List T) (x : T) → length table ≤ length (insert_key eq table x)
  longer table x = insert_cases eq (λ ys. length table ≤ length ys) table x (λ there. omega arith) (λ absent. let e = length_push table x in omega (arith, e))

  grows : (table xs : List T) → length table ≤ length (fold (insert_key eq) table xs)
  grows table [] = omega arith
  grows table (x ∷ xs) = let here = longer table x in let later = grows (insert_key eq table x) xs in omega (arith, here, later)

  one_longer : (table : List T) (x : T) → list_any (eq x) table ≡ false → length (insert_key eq table x) ≡ length table + 1
  one_longer table x new =
      insert_cases eq (λ ys. length ys ≡ length table + 1) table x (λ there. absurd (cc)) (λ absent. length_push table x)

  pub all_taken : (table xs : List T) → length (fold (insert_key eq) table xs) ≤ limit → AllByRecursion (λ x. TextFits (text x)) xs → Takes eq text limit table xs
  all_taken table [] within fits = tt
  all_taken table (x ∷ xs) within fits = (
    λ full. let e = one_longer table x full.0 in let g = grows (insert_key eq table x) xs in let f = full.1 in omega (arith, e, g, f, within),
    fits.0,
    all_taken (insert_key eq table x) xs within fits.1,
  )

pub defines_fit : (table xs : List (List ℕ)) → Defines table xs → AllByRecursion TextFits xs
defines_fit table [] h = tt
defines_fit table (x ∷ xs) h = (h.2, defines_fit (insert_key text_eq table x) xs h.3)

-- No member equals a later one.
abbrev Apart : List (List ℕ) → Type 0
Apart [] = Unit {0}
Apart (x ∷ xs) = AllByRecursion (λ y. text_eq y x ≡ false) xs × Apart xs

pub text_from : (xs ys : List ℕ) → text_eq xs ys ≡ true → xs ≡ ys
text_from xs ys h = (slice_eq-Decides Decides-eqb xs ys (text_eq xs ys) refl).0 h

apart_from : (xs : List (List ℕ)) → AllPairs (λ name other. name ≢ other) xs → Apart xs
apart_from [] pairs = tt
apart_from (x ∷ xs) pairs = (
  recursion_from_All (λ y. text_eq y x ≡ false) xs (λ k d below.
      false_from_ne_true _ (λ same. pairs 0 (suc k) d (omega arith) (omega (arith, below)) (sym (text_from _ _ same)))),
  apart_from xs (λ i j d before below. pairs (suc i) (suc j) d (omega (arith, before)) (omega (arith, below))),
)

-- An entry that is new to a table, and differs from a further entry, is new to both.
still_new : (table : List (List ℕ)) (x : List ℕ) (xs : List (List ℕ)) → AllByRecursion (λ y. list_any (text_eq y) table ≡ false) xs
    → AllByRecursion (λ y. text_eq y x ≡ false) xs → AllByRecursion (λ y. list_any (text_eq y) (table ++ x ∷ []) ≡ false) xs
still_new table x [] new apart = tt
still_new table x (y ∷ ys) new apart = (
  list_any-append (text_eq y) table (x ∷ []) ∙ or_from (list_any (text_eq y) table) (text_eq y x || false) new.0 (or_from (text_eq y x) false apart.0 refl),
  still_new table x ys new.1 apart.1,
)

defined_apart : (table xs : List (List ℕ)) → AllByRecursion (λ y. list_any (text_eq y) table ≡ false) xs → Apart xs → length table + length xs ≤ 256
    → AllByRecursion TextFits xs → Defines table xs
defined_apart table [] new apart within fits = tt
defined_apart table (x ∷ xs) new apart within fits = (
  new.0,
  (λ full. let f = full.1 in omega (arith, f, within)),
  fits.0,
  insert_cases text_eq (λ t. Defines t xs) table x (λ there. let n = new.0 in absurd (cc))
      (λ absent. defined_apart (table ++ x ∷ []) xs (still_new table x xs new.1 apart.0) apart.1 (let e = length_push table x in omega (arith, e, within)) fits.1),
)

all_new : (xs : List (List ℕ)) → AllByRecursion (λ y. list_any (text_eq y) [] ≡ false) xs
all_new [] = tt
all_new (x ∷ xs) = (refl, all_new xs)

pub all_defined : (xs : List (List ℕ)) → AllPairs (λ name other. name ≢ other) xs → length xs ≤ 256 → AllByRecursion TextFits xs → Defines [] xs
all_defined xs pairs within fits = defined_apart [] xs (all_new xs) (apart_from xs pairs) (omega (arith, within)) fits

-- Targets and defined states.
pub contains_from : (name : List ℕ) (xs : List (List ℕ)) → list_any (text_eq name) xs ≡ true → Contains xs name
contains_from name [] h = absurd (cc)
contains_from name (x ∷ xs) h =
    ⊎_elim
    (λ here. (0, omega arith, sym (text_from name x here)))
    (λ there. let c = contains_from name xs there in let below = c.1 in (suc c.0, omega (arith, below), c.2))
    (or_cases (text_eq name x) (list_any (text_eq name) xs) h)

pub contains_to : (name : List ℕ) (xs : List (List ℕ)) → Contains xs name → list_any (text_eq name) xs ≡ true
contains_to name xs c = list_any_at (text_eq name) xs c.0 name c.1 (ap (text_eq name) c.2 ∙ text_same name)

pub known_forth : (states : List (List ℕ)) (ms : List Mentioned) → AreKnown states ms → AllByRecursion (λ name. list_any (text_eq name) states ≡ true) (flat_map target_of ms)
known_forth states [] h = tt
known_forth states (Target name ∷ rest) h = (h.0, known_forth states rest h.1)
known_forth states (mention ∷ rest) h = known_forth states rest h.1

pub known_back : (states : List (List ℕ)) (ms : List Mentioned) → AllByRecursion (λ name. list_any (text_eq name) states ≡ true) (flat_map target_of ms) → AreKnown states ms
known_back states [] h = tt
known_back states (Target name ∷ rest) h = (h.0, known_back states rest h.1)
known_back states (mention ∷ rest) h = (tt, known_back states rest h)
