-- The next tokens of a line, and those that are left behind them.
use Rattle.std.specs.Prelude.{◌≡◌, ℕ, List, ◌∷◌, ◌++◌, Some}
use Rattle.std.specs.List.{AllZip}
use Rattle.ifs_base.specs.declared.ids.CommandId.{CommandId}
use Rattle.ifs_base.specs.declared.ids.StateId.{StateId}
use Rattle.ifs_lex.specs.declared.token.Token.{Token}
use Rattle.ifs_policy.specs.declared.tables.Tables.{Tables}
use Rattle.ifs_claim_parse.specs.declared.claim.Claim.{Claim}
use Rattle.ifs_claim_parse.specs.declared.keyword.Keyword.{Keyword}
use Rattle.ifs_claim_parse.specs.Words.{Is, name_in}
use Rattle.ifs_claim_parse.specs.Says.{IsState, IsCommand}
use Rattle.ifs_parse.specs.Words.{number_of_what}

-- Tokens begin with a word.
pub record Begins (word : Keyword) (tokens rest : List Token) : Type 0 where
  pub token : Token
  pub whole : tokens ≡ token ∷ rest
  pub is : Is word token

-- Tokens begin with a name.
pub record BeginsWithName (name : List ℕ) (tokens rest : List Token) : Type 0 where
  pub token : Token
  pub whole : tokens ≡ token ∷ rest
  pub is : name_in token.what ≡ Some name

-- Tokens begin with one that stands for a value.
pub record BeginsWith {X : Type 0} (Stands : Token → X → Type 0) (tokens : List Token) (value : X) (rest : List Token) : Type 0 where
  pub token : Token
  pub whole : tokens ≡ token ∷ rest
  pub is : Stands token value

-- Tokens begin with those that stand for values, in order.
pub record BeginWith {X : Type 0} (Stands : Token → X → Type 0) (tokens : List Token) (values : List X) (rest : List Token) : Type 0 where
  pub names : List Token
  pub whole : tokens ≡ names ++ rest
  pub are : AllZip Stands names values

-- Tokens begin with the name of a state.
abbrev pub BeginsWithState : Tables → List Token → StateId → List Token → Type 0
BeginsWithState tables = BeginsWith (IsState tables)

-- Tokens begin with a command.
abbrev pub BeginsWithCommand : Tables → List Token → CommandId → List Token → Type 0
BeginsWithCommand tables = BeginsWith (IsCommand tables)

-- Tokens begin with the names of states.
abbrev pub BeginWithStates : Tables → List Token → List StateId → List Token → Type 0
BeginWithStates tables = BeginWith (IsState tables)

-- Tokens begin with commands.
abbrev pub BeginWithCommands : Tables → List Token → List CommandId → List Token → Type 0
BeginWithCommands tables = BeginWith (IsCommand tables)

-- Tokens begin with a number.
pub record BeginsWithNumber (tokens : List Token) (number : ℕ) (rest : List Token) : Type 0 where
  pub token : Token
  pub whole : tokens ≡ token ∷ rest
  pub is : number_of_what token.what ≡ Some number

-- Behind a word, tokens say a claim.
abbrev pub Behind : Keyword → (List Token → Claim → Type 0) → List Token → Claim → Type 0
Behind word Say tokens claim = (token : Token) → Is word token → Say (token ∷ tokens) claim
