-- The rules of names, the mentions that break them, and the first fault of a tree.
use Rattle.std.specs.Prelude.{ℕ, ◌≡◌, ◌<◌, ◌≤◌, ◌⊎◌, Bool, true, false, List, [], ◌∷◌, length, IsTrue, Some}
use Rattle.std.specs.List.{list_any, slice_get}
use Rattle.ifs_base.specs.Sizes.{TextFits}
use Rattle.ifs_lex.specs.declared.token.Token.{Token}
use Rattle.ifs_lex.specs.declared.token.TokenPlace.{TokenPlace}
use Rattle.ifs_lex.specs.Numbered.{place_of}
use Rattle.ifs_parse.specs.declared.tree.Item.{Item}
use Rattle.ifs_parse.specs.declared.tree.Item.TheVariants as item
use Rattle.ifs_policy.specs.declared.mention.Mention.TheVariants.{Interface, External, Command, Defined}
use Rattle.ifs_policy.specs.declared.mention.Mention.TheVariants.{Target, Init, InitState, SetState}
use Rattle.ifs_policy.specs.declared.mention.Half.TheVariants as at
use Rattle.ifs_policy.specs.declared.mention.Owner.{Owner}
use Rattle.ifs_policy.specs.declared.mention.Owner.TheVariants.{Always, State}
use Rattle.ifs_policy.specs.declared.fault.ResolveFault.{ResolveFault}
use Rattle.ifs_policy.specs.declared.fault.ResolveFault.TheVariants.{NoState, StateTwice, SecondInit}
use Rattle.ifs_policy.specs.declared.fault.ResolveFault.TheVariants.{SetStateInInit, TestInInit, TableFull}
use Rattle.ifs_policy.specs.declared.fault.ResolveFault.TheVariants.{BadText, UnknownState, Memory}
use Rattle.ifs_policy.specs.declared.names.Names.{Names}
use Rattle.ifs_policy.specs.Mentions.{Mentioned, mentions_of}
use Rattle.ifs_policy.specs.Tables.{text_eq, test_eq, test_of, after, no_names, tables_of}

-- An entry is new, and its table is full.
abbrev pub IsFull : {T : Type 0} → (T → T → Bool) → ℕ → List T → T → Type 0
IsFull eq limit table entry = (list_any (eq entry) table ≡ false) × (limit ≤ length table)

-- The mentioned entry is new, and its table is full.
abbrev pub HasNoRoom : Names → Mentioned → Type 0
HasNoRoom names (Interface name) = IsFull text_eq 64 names.tables.interfaces name.text
HasNoRoom names (External half command period) = IsFull test_eq 64 names.tables.tests (test_of command period)
HasNoRoom names (Command text) = IsFull text_eq 1024 names.tables.commands text.text
HasNoRoom names (Defined name) = IsFull text_eq 256 names.tables.states name.text
HasNoRoom names _ = ⊥

-- A mention is of a string at this place, and the string has this property.
abbrev pub IsStringWith : (List ℕ → Type 0) → TokenPlace → Mentioned → Type 0
IsStringWith P place (Interface name) = (place ≡ name.place) × P name.text
IsStringWith P place (External half command period) = (place ≡ command.place) × P command.text
IsStringWith P place (Command text) = (place ≡ text.place) × P text.text
IsStringWith P place (Defined name) = (place ≡ name.place) × P name.text
IsStringWith P place (Target name) = (place ≡ name.place) × P name.text
IsStringWith P place _ = ⊥

-- The current part of this owner has an `init`.
abbrev pub has_init : Names → Owner → Bool
has_init names Always = names.always_init
has_init names State = names.state_init

-- A mention breaks the rule of this fault.
abbrev pub Breaks : Names → Mentioned → ResolveFault → Type 0
-- a state is defined twice
Breaks names (Defined name) (StateTwice place) = (place ≡ name.place) × IsTrue (list_any (text_eq name.text) names.tables.states)
-- a part has a second `init`, or there is a second `init-state`
Breaks names (Init owner word) (SecondInit place) = (place ≡ word) × IsTrue (has_init names owner)
Breaks names (InitState word) (SecondInit place) = (place ≡ word) × IsTrue names.init_state
-- an `init` contains a `set-state` or an external test
Breaks names (SetState half word) (SetStateInInit place) = (place ≡ word) × (half ≡ at.Init)
Breaks names (External half command period) (TestInInit place) = (place ≡ command.place) × (half ≡ at.Init)
-- a table is full
Breaks names mention (TableFull place) = IsStringWith (λ text. HasNoRoom names mention) place mention
-- a name or a command is empty, too long or contains a NUL
Breaks names mention (BadText place) = IsStringWith (λ text. ¬ TextFits text) place mention
-- no other combination breaks a rule
Breaks names mention _ = ⊥

-- The number of a fault in its code.
abbrev pub fault_number : ResolveFault → ℕ
fault_number Memory = 0
fault_number (NoState line) = 9
fault_number (StateTwice place) = 10
fault_number (UnknownState place) = 11
fault_number (SecondInit place) = 12
fault_number (SetStateInInit place) = 13
fault_number (TestInInit place) = 14
fault_number (TableFull place) = 15
fault_number (BadText place) = 16

-- A mention breaks no rule.
abbrev pub IsSound : Names → Mentioned → Type 0
IsSound names mention = (fault : ResolveFault) → ¬ Breaks names mention fault

-- A mention breaks the rule of this fault, and none of a lower number.
pub record IsLowest (names : Names) (mention : Mentioned) (fault : ResolveFault) : Type 0 where
  pub broken : Breaks names mention fault
  pub lowest : (other : ResolveFault) → fault_number other < fault_number fault → ¬ Breaks names mention other

-- No mention breaks a rule, under the tables at its place.
abbrev pub AreSound : Names → List Mentioned → Type 0
AreSound names [] = Unit {0}
AreSound names (mention ∷ rest) = IsSound names mention × AreSound (after names mention) rest

-- The fault of the first mention that breaks a rule.
abbrev pub FirstBroken : Names → List Mentioned → ResolveFault → Type 0
FirstBroken names [] fault = ⊥
FirstBroken names (mention ∷ rest) fault = IsLowest names mention fault ⊎ (IsSound names mention × FirstBroken (after names mention) rest fault)

-- A target is a defined state.
abbrev pub IsKnown : List (List ℕ) → Mentioned → Type 0
IsKnown states (Target name) = IsTrue (list_any (text_eq name.text) states)
IsKnown states _ = Unit {0}

-- Each target is a defined state.
abbrev pub AreKnown : List (List ℕ) → List Mentioned → Type 0
AreKnown states [] = Unit {0}
AreKnown states (mention ∷ rest) = IsKnown states mention × AreKnown states rest

-- The first target that is not a defined state is at this place.
abbrev pub FirstUnknown : List (List ℕ) → List Mentioned → TokenPlace → Type 0
FirstUnknown states [] place = ⊥
FirstUnknown states (mention ∷ rest) place =
    (IsStringWith (λ text. Unit {0}) place mention × (¬ IsKnown states mention)) ⊎ (IsKnown states mention × FirstUnknown states rest place)

-- A token has this place: it is the one with its number.
abbrev pub IsPlaceOf : List Token → TokenPlace → Type 0
IsPlaceOf tokens place = (token : Token) × (slice_get tokens place.number ≡ Some token) × (place_of token ≡ place)

-- A fault names one of these tokens, by its number and its place. No token has the fault that no state is defined.
abbrev pub NamesToken : List Token → ResolveFault → Type 0
NamesToken tokens Memory = Unit {0}
NamesToken tokens (NoState line) = Unit {0}
NamesToken tokens (StateTwice place) = IsPlaceOf tokens place
NamesToken tokens (UnknownState place) = IsPlaceOf tokens place
NamesToken tokens (SecondInit place) = IsPlaceOf tokens place
NamesToken tokens (SetStateInInit place) = IsPlaceOf tokens place
NamesToken tokens (TestInInit place) = IsPlaceOf tokens place
NamesToken tokens (TableFull place) = IsPlaceOf tokens place
NamesToken tokens (BadText place) = IsPlaceOf tokens place

-- An item defines a state.
abbrev pub is_state : Item → Bool
is_state (item.State name parts) = true
is_state _ = false

-- The first fault of a text's items: no state, else the first broken rule, else the first unknown state.
pub data IsTreeRefused (items : List Item) : ResolveFault → Type 0 where
  no_state : list_any is_state items ≡ false → IsTreeRefused items (NoState 1)
  broken : (fault : ResolveFault) → IsTrue (list_any is_state items) → FirstBroken no_names (mentions_of items) fault → IsTreeRefused items fault
  unknown : (place : TokenPlace) → IsTrue (list_any is_state items) → AreSound no_names (mentions_of items)
      → FirstUnknown (tables_of (mentions_of items)).states (mentions_of items) place → IsTreeRefused items (UnknownState place)
