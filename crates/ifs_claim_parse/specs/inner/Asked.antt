-- What is asked of the values of tests.
use Rattle.std.specs.Prelude.{◌≡◌, List}
use Rattle.ifs_lex.specs.declared.token.Token.{Token}
use Rattle.ifs_parse.specs.Trees as tree
use Rattle.ifs_policy.specs.declared.policy.Single.{Single}
use Rattle.ifs_claim_parse.specs.declared.claim.Values.{Values}
use Rattle.ifs_claim_parse.specs.declared.claim.Values.TheVariants.{Any, Known, Unknown}
use Rattle.ifs_claim_parse.specs.declared.keyword.Keyword.TheVariants as word
use Rattle.ifs_claim_parse.specs.Conditions.{HasTest}
use Rattle.ifs_claim_parse.specs.inner.Left.{Begins}

-- Tokens begin with the word that asks this of the values of tests. No word asks for nothing.
abbrev pub BeginWithValues : Values → List Token → List Token → Type 0
BeginWithValues Any tokens rest = rest ≡ tokens
BeginWithValues Known tokens rest = Begins word.Known tokens rest
BeginWithValues Unknown tokens rest = Begins word.Unknown tokens rest

-- This can be asked of the values of a condition's tests. All but nothing asks for a test.
abbrev pub IsAskable : Values → tree.Condition Single → Type 0
IsAskable Any condition = Unit {0}
IsAskable Known condition = HasTest condition
IsAskable Unknown condition = HasTest condition
