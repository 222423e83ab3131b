-- What the tokens of a line claim.
use Rattle.std.specs.Prelude.{◌≡◌, ◌≢◌, ◌<◌, ℕ, List, [], ◌∷◌, ◌++◌, Vec, Some, length, slice_get, All, Contains}
use Rattle.std.specs.List.{AllByRecursion, AllZip}
use Rattle.std.specs.declared.alloc.Global.{Global}
use Rattle.ifs_base.specs.declared.ids.CommandId.{CommandId}
use Rattle.ifs_base.specs.declared.ids.StateId.{StateId}
use Rattle.ifs_lex.specs.declared.token.Token.{Token}
use Rattle.ifs_parse.specs.Words.{number_of_what}
use Rattle.ifs_policy.specs.declared.tables.Tables.{Tables}
use Rattle.ifs_policy.specs.Fits.{ConditionFits, sizes_of}
use Rattle.ifs_claim_parse.specs.declared.claim.Claim.{Claim}
use Rattle.ifs_claim_parse.specs.declared.claim.Claim.TheVariants.{NeverRests, RestsIn, NeverFrom, NeverEnters, NeverEntersWhile, NeverRuns, RestsWithin, NeverIn, MayFlap}
use Rattle.ifs_claim_parse.specs.declared.claim.Premise.{Premise}
use Rattle.ifs_claim_parse.specs.declared.keyword.Keyword.TheVariants.{Never, Rest, In, While, From, To, Enter, Run, Within, Changes, At, Any, Moment, May, Flap}
use Rattle.ifs_claim_parse.specs.Words.{Is, name_in}
use Rattle.ifs_claim_parse.specs.Conditions.{IsPremise}

-- A token is the name of a state of the policy.
pub record IsState (tables : Tables) (token : Token) (state : StateId) : Type 0 where
  pub name : List ℕ
  pub named : name_in token.what ≡ Some name
  pub known : slice_get tables.states state.0 ≡ Some name

-- A token is a command that the policy runs.
pub record IsCommand (tables : Tables) (token : Token) (command : CommandId) : Type 0 where
  pub text : List ℕ
  pub named : name_in token.what ≡ Some text
  pub known : slice_get tables.commands command.0 ≡ Some text

-- Tokens are the names of states, in order.
abbrev pub AreStates : Tables → List Token → List StateId → Type 0
AreStates tables tokens states = AllZip (IsState tables) tokens states

-- Tokens are commands, in order.
abbrev pub AreCommands : Tables → List Token → List CommandId → Type 0
AreCommands tables tokens commands = AllZip (IsCommand tables) tokens commands

-- No state of the second list is among the first.
abbrev pub AreApart : List StateId → List StateId → Type 0
AreApart states others = All (λ other. ¬ Contains states other) others

-- The tokens of `in STATE.. while PREMISE`.
pub record AreWhile (tables : Tables) (tokens : List Token) (states : List StateId) (premise : Premise) : Type 0 where
  pub opening : Token
  pub names : List Token
  pub sign : Token
  pub after : List Token
  pub whole : tokens ≡ opening ∷ (names ++ sign ∷ after)
  pub opens : Is In opening
  pub some : states ≢ []
  pub named : AreStates tables names states
  pub turns : Is While sign
  pub said : IsPremise tables after premise

-- The nine claims.
pub data Says (tables : Tables) : List Token → Claim → Type 0 where
  -- never rest in STATE.. while PREMISE
  never_rests : (a b : Token) (tokens : List Token) (states : Vec StateId Global) (premise : Premise)
      → Is Never a → Is Rest b → AreWhile tables tokens states.items premise → Says tables (a ∷ b ∷ tokens) (NeverRests states premise)
  -- rest in STATE.. while PREMISE
  rests_in : (a : Token) (tokens : List Token) (states : Vec StateId Global) (premise : Premise)
      → Is Rest a → AreWhile tables tokens states.items premise → Says tables (a ∷ tokens) (RestsIn states premise)
  -- never from STATE.. to STATE..
  never_from : (a b c : Token) (names others : List Token) (from to : Vec StateId Global)
      → Is Never a → Is From b → from.items ≢ [] → AreStates tables names from.items → Is To c → to.items ≢ [] → AreStates tables others to.items → AreApart from.items to.items
      → Says tables (a ∷ b ∷ (names ++ c ∷ others)) (NeverFrom from to)
  -- never enter STATE..
  never_enters : (a b : Token) (names : List Token) (states : Vec StateId Global)
      → Is Never a → Is Enter b → states.items ≢ [] → AreStates tables names states.items → Says tables (a ∷ b ∷ names) (NeverEnters states)
  -- never enter STATE.. while PREMISE
  never_enters_while : (a b c : Token) (names tokens : List Token) (states : Vec StateId Global) (premise : Premise)
      → Is Never a → Is Enter b → states.items ≢ [] → AreStates tables names states.items → Is While c → IsPremise tables tokens premise
      → Says tables (a ∷ b ∷ (names ++ c ∷ tokens)) (NeverEntersWhile states premise)
  -- never run "COMMAND".. while PREMISE
  never_runs : (a b c : Token) (names tokens : List Token) (commands : Vec CommandId Global) (premise : Premise)
      → Is Never a → Is Run b → commands.items ≢ [] → AreCommands tables names commands.items → Is While c → IsPremise tables tokens premise
      → Says tables (a ∷ b ∷ (names ++ c ∷ tokens)) (NeverRuns commands premise)
  -- rest within N changes
  rests_within : (a b c d : Token) (n : ℕ) → Is Rest a → Is Within b → number_of_what c.what ≡ Some n → Is Changes d → Says tables (a ∷ b ∷ c ∷ d ∷ []) (RestsWithin n)
  -- at any moment never in STATE.. while PREMISE
  never_in : (a b c d : Token) (tokens : List Token) (states : Vec StateId Global) (premise : Premise)
      → Is At a → Is Any b → Is Moment c → Is Never d → AreWhile tables tokens states.items premise → Says tables (a ∷ b ∷ c ∷ d ∷ tokens) (NeverIn states premise)
  -- may flap STATE..
  may_flap : (a b : Token) (names : List Token) (states : Vec StateId Global)
      → Is May a → Is Flap b → states.items ≢ [] → AreStates tables names states.items → Says tables (a ∷ b ∷ names) (MayFlap states)

-- The policy has a state.
abbrev pub StateIsIn : Tables → StateId → Type 0
StateIsIn tables state = state.0 < length tables.states

-- The policy runs a command.
abbrev pub CommandIsIn : Tables → CommandId → Type 0
CommandIsIn tables command = command.0 < length tables.commands

-- The policy has each state, command, interface and test that a claim speaks of.
abbrev pub NamesAreIn : Tables → Claim → Type 0
NamesAreIn tables (NeverRests states premise) = AllByRecursion (StateIsIn tables) states.items × ConditionFits (sizes_of tables) premise.condition
NamesAreIn tables (RestsIn states premise) = AllByRecursion (StateIsIn tables) states.items × ConditionFits (sizes_of tables) premise.condition
NamesAreIn tables (NeverFrom from to) = AllByRecursion (StateIsIn tables) from.items × AllByRecursion (StateIsIn tables) to.items
NamesAreIn tables (NeverEnters states) = AllByRecursion (StateIsIn tables) states.items
NamesAreIn tables (NeverEntersWhile states premise) = AllByRecursion (StateIsIn tables) states.items × ConditionFits (sizes_of tables) premise.condition
NamesAreIn tables (NeverRuns commands premise) = AllByRecursion (CommandIsIn tables) commands.items × ConditionFits (sizes_of tables) premise.condition
NamesAreIn tables (RestsWithin n) = Unit {0}
NamesAreIn tables (NeverIn states premise) = AllByRecursion (StateIsIn tables) states.items × ConditionFits (sizes_of tables) premise.condition
NamesAreIn tables (MayFlap states) = AllByRecursion (StateIsIn tables) states.items
