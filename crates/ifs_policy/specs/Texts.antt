-- The policy of a text, or why it has none.
use Rattle.std.specs.Prelude.{ℕ, ◌≡◌, List, Err}
use Rattle.ifs_lex.specs.declared.token.Token.{Token}
use Rattle.ifs_lex.specs.Expansion as lex
use Rattle.ifs_lex.specs.declared.fault.LexFault.{LexFault}
use Rattle.ifs_lex.specs.declared.fault.LexFault.TheVariants as lexing
use Rattle.ifs_parse.specs.Files.{File}
use Rattle.ifs_parse.specs.Grammar.{Says, StopsAt}
use Rattle.ifs_parse.specs.declared.fault.ParseFault.{ParseFault}
use Rattle.ifs_parse.specs.declared.fault.ParseFault.TheVariants as parsing
use Rattle.ifs_policy.specs.declared.fault.ResolveFault.{ResolveFault}
use Rattle.ifs_policy.specs.declared.fault.ResolveFault.TheVariants as resolving
use Rattle.ifs_policy.specs.declared.front.PolicyFault.{PolicyFault}
use Rattle.ifs_policy.specs.declared.front.PolicyFault.TheVariants.{Text, Tokens, Names, Memory}
use Rattle.ifs_policy.specs.declared.policy.PolicyParts.{PolicyParts}
use Rattle.ifs_policy.specs.Faults as names
use Rattle.ifs_policy.specs.Resolution.{Resolves}

-- Under these definitions a text says a file: it spells tokens, which say the file.
pub record SaysFile (text : List ℕ) (defs : List (List ℕ × List ℕ)) (file : File) : Type 0 where
  pub tokens : List Token
  pub spelled : lex.HasTokens text defs tokens
  pub said : Says tokens file

-- Under these definitions a text has a policy: it spells tokens, which say a file, whose names resolve to the policy.
pub record HasPolicy (text : List ℕ) (defs : List (List ℕ × List ℕ)) (policy : PolicyParts) : Type 0 where
  pub tokens : List Token
  pub file : File
  pub spelled : lex.HasTokens text defs tokens
  pub said : Says tokens file
  pub resolved : Resolves file.items policy

-- A text has no policy.
abbrev pub HasNoPolicy : List ℕ → List (List ℕ × List ℕ) → Type 0
HasNoPolicy text defs = (policy : PolicyParts) → ¬ HasPolicy text defs policy

-- The fault of a text from a fault of its tokens. A failed allocation stays one.
abbrev pub of_text : LexFault → PolicyFault
of_text lexing.Memory = Memory
of_text fault = Text fault

-- The fault of a text from a fault of its grammar.
abbrev pub of_tokens : ParseFault → PolicyFault
of_tokens parsing.Memory = Memory
of_tokens fault = Tokens fault

-- The fault of a text from a fault of its names.
abbrev pub of_names : ResolveFault → PolicyFault
of_names resolving.Memory = Memory
of_names fault = Names fault

-- A text has no policy, and this is the first fault of the first step that rejects it. A failed allocation is no such fault.
abbrev pub IsTextRefused : List ℕ → List (List ℕ × List ℕ) → PolicyFault → Type 0
IsTextRefused text defs (Text fault) = HasNoPolicy text defs × (lex.tokens_of text defs ≡ Err fault)
IsTextRefused text defs (Tokens fault) = HasNoPolicy text defs × ((tokens : List Token) × lex.HasTokens text defs tokens × StopsAt tokens fault)
IsTextRefused text defs (Names fault) = HasNoPolicy text defs × ((tokens : List Token) × (file : File) × lex.HasTokens text defs tokens × Says tokens file × names.IsTreeRefused file.items fault)
IsTextRefused text defs Memory = ⊥
