-- The contracts of entering an entry and of noting mentions.
use Rattle.std.specs.Prelude.{ℕ, ◌≡◌, ◌≢◌, ◌⊎◌, Bool, List, Result, MatchResult}
use Rattle.indexmap.specs.IndexSet.{insert_key}
use Rattle.ifs_base.specs.Sizes.{TextFits}
use Rattle.ifs_lex.specs.declared.token.TokenPlace.{TokenPlace}
use Rattle.ifs_parse.specs.declared.tree.Name.{Name}
use Rattle.ifs_policy.specs.declared.fault.ResolveFault.{ResolveFault}
use Rattle.ifs_policy.specs.declared.fault.ResolveFault.TheVariants.{TableFull, BadText, UnknownState, Memory}
use Rattle.ifs_policy.specs.declared.names.Names.{Names}
use Rattle.ifs_policy.specs.Mentions.{Mentioned}
use Rattle.ifs_policy.specs.Tables.{after, names_after}
use Rattle.ifs_policy.specs.Faults.{IsFull, IsSound, IsLowest, AreSound, FirstBroken, AreKnown, FirstUnknown}

-- An entry is entered: its table has room, and its string is valid.
pub record Entered {T : Type 0} (eq : T → T → Bool) (limit : ℕ) (entry : T) (name : Name) (old new : List T) : Type 0 where
  pub room : ¬ IsFull eq limit old entry
  pub fits : TextFits name.text
  pub entered : new ≡ insert_key eq old entry

-- An entry is not entered: its table is full, or its string is not valid.
abbrev pub NotEntered : {T : Type 0} → (T → T → Bool) → ℕ → T → Name → List T → ResolveFault → Type 0
NotEntered eq limit entry name table fault =
    ((fault ≡ TableFull name.place) × IsFull eq limit table entry)
    ⊎ ((fault ≡ BadText name.place) × (¬ IsFull eq limit table entry) × (¬ TextFits name.text))

-- An entry is entered or not, unless an allocation fails.
abbrev pub Enters : {T : Type 0} → (T → T → Bool) → ℕ → T → Name → List T → Result (Unit {0}) ResolveFault → List T → Type 0
Enters eq limit entry name old result new =
    MatchResult result (λ _. Entered eq limit entry name old new) (λ fault. fault ≢ Memory → NotEntered eq limit entry name old fault)

-- A mention that breaks no rule is noted. Otherwise the fault is that of the lowest rule, unless an allocation fails.
abbrev pub MentionNoted : Names → Mentioned → Result (Unit {0}) ResolveFault → Names → Type 0
MentionNoted old mention result new =
    MatchResult result (λ _. IsSound old mention × (new ≡ after old mention)) (λ fault. fault ≢ Memory → IsLowest old mention fault)

-- Mentions that break no rule are noted in order. Otherwise the fault is the first one, unless an allocation fails.
abbrev pub AllNoted : Names → List Mentioned → Result (Unit {0}) ResolveFault → Names → Type 0
AllNoted old mentions result new =
    MatchResult result (λ _. AreSound old mentions × (new ≡ names_after old mentions)) (λ fault. fault ≢ Memory → FirstBroken old mentions fault)

-- The remaining mentions decide for all of them.
pub record Decides (names : Names) (rest : List Mentioned) (old : Names) (all : List Mentioned) : Type 0 where
  pub sound : AreSound names rest → AreSound old all
  pub filled : names_after names rest ≡ names_after old all
  pub broken : (fault : ResolveFault) → FirstBroken names rest fault → FirstBroken old all fault

-- Each target is a defined state, or the fault has the place of the first that is not.
abbrev pub StatesChecked : List (List ℕ) → List Mentioned → Result (Unit {0}) ResolveFault → Type 0
StatesChecked states mentions result =
    MatchResult result (λ _. AreKnown states mentions) (λ fault. (place : TokenPlace) × (fault ≡ UnknownState place) × FirstUnknown states mentions place)

-- The remaining mentions decide for all of them, as to targets.
pub record DecidesStates (states : List (List ℕ)) (rest all : List Mentioned) : Type 0 where
  pub known : AreKnown states rest → AreKnown states all
  pub unknown : (place : TokenPlace) → FirstUnknown states rest place → FirstUnknown states all place

-- The first fault of a text's mentions.
abbrev pub IsFirst : Names → List Mentioned → ResolveFault → Type 0
IsFirst old mentions fault =
    FirstBroken old mentions fault
    ⊎ (AreSound old mentions × ((place : TokenPlace) × (fault ≡ UnknownState place) × FirstUnknown (names_after old mentions).tables.states mentions place))

-- The tables are those of mentions that break no rule and whose targets are defined. Otherwise the fault is the first one, unless an allocation fails.
abbrev pub Filled : Names → List Mentioned → Result (Unit {0}) ResolveFault → Names → Type 0
Filled old mentions result new =
    MatchResult result
    (λ _. AreSound old mentions × AreKnown (names_after old mentions).tables.states mentions × (new ≡ names_after old mentions))
    (λ fault. fault ≢ Memory → IsFirst old mentions fault)
