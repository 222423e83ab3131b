-- Conditions of claims, and premises.
use Rattle.std.specs.Prelude.{◌≡◌, ◌≢◌, ℕ, List, [], ◌∷◌, ◌++◌, map, codes}
use Rattle.ifs_lex.specs.declared.token.Token.{Token}
use Rattle.ifs_lex.specs.declared.token.What.{What}
use Rattle.ifs_lex.specs.declared.token.What.TheVariants.{Word, BraceOpen, BraceClose, End}
use Rattle.ifs_parse.specs.Files.{File, file}
use Rattle.ifs_parse.specs.Grammar.{Says}
use Rattle.ifs_parse.specs.Trees as tree
use Rattle.ifs_parse.specs.declared.tree.Item.{Item}
use Rattle.ifs_parse.specs.declared.tree.Item.TheVariants.{Always}
use Rattle.ifs_parse.specs.declared.tree.Part.TheVariants.{Do}
use Rattle.ifs_parse.specs.declared.block.Statement.TheVariants.{If}
use Rattle.ifs_parse.specs.declared.tree.Test.{Test}
use Rattle.ifs_policy.specs.declared.policy.Single.{Single}
use Rattle.ifs_policy.specs.declared.tables.Tables.{Tables}
use Rattle.ifs_policy.specs.Fits.{ConditionFits, sizes_of}
use Rattle.ifs_policy.specs.Meaning.{mentioned_in}
use Rattle.ifs_policy.specs.Resolution.{place_condition}
use Rattle.ifs_claim_parse.specs.declared.claim.Premise.{Premise}
use Rattle.ifs_claim_parse.specs.declared.claim.Values.TheVariants.{Any, Known, Unknown}
use Rattle.ifs_claim_parse.specs.declared.keyword.Keyword.TheVariants as word
use Rattle.ifs_claim_parse.specs.Words.{Is}

-- Tokens without their places.
abbrev pub whats : List Token → List What
whats tokens = map (λ t. t.what) tokens

-- The tokens of `if COND { }`.
abbrev pub around : List What → List What
around condition = Word (codes "if") ∷ (condition ++ (BraceOpen ∷ BraceClose ∷ End ∷ []))

-- The policy `if COND { }`.
abbrev pub only : tree.Condition Test → List Item
only condition = Always (Do (If condition tree.Done)) ∷ []

-- Tokens say what a policy says that has them between `if` and `{ }`. The places of tokens do not matter.
pub record SaysAround (tokens : List Token) (said : File) : Type 0 where
  pub policy : List Token
  pub whole : whats policy ≡ around (whats tokens)
  pub says : Says policy said

-- Tokens say a condition: between `if` and `{ }` they are a policy of one statement with this condition.
pub record SaysCondition (tokens : List Token) (condition : tree.Condition Test) : Type 0 where
  pub notes : List ℕ
  pub inside : SaysAround tokens (file (only condition) notes)

-- Tokens say a condition on a policy, in which each name has its place in a table. The policy has all these names.
pub record IsCondition (tables : Tables) (tokens : List Token) (placed : tree.Condition Single) : Type 0 where
  pub condition : tree.Condition Test
  pub said : SaysCondition tokens condition
  pub is_placed : placed ≡ place_condition tables condition
  pub fits : ConditionFits (sizes_of tables) placed

-- A condition has an external test.
abbrev pub HasTest : tree.Condition Single → Type 0
HasTest condition = mentioned_in condition ≢ []

-- Tokens say a premise: a condition, by itself or behind a word that asks for the values of its tests.
pub data IsPremise (tables : Tables) : List Token → Premise → Type 0 where
  -- COND
  by_itself : (tokens : List Token) (c : tree.Condition Single) → IsCondition tables tokens c → IsPremise tables tokens (record { values = Any; condition = c })
  -- known COND, with a test
  behind_known : (a : Token) (tokens : List Token) (c : tree.Condition Single)
      → Is word.Known a → IsCondition tables tokens c → HasTest c → IsPremise tables (a ∷ tokens) (record { values = Known; condition = c })
  -- unknown COND, with a test
  behind_unknown : (a : Token) (tokens : List Token) (c : tree.Condition Single)
      → Is word.Unknown a → IsCondition tables tokens c → HasTest c → IsPremise tables (a ∷ tokens) (record { values = Unknown; condition = c })
