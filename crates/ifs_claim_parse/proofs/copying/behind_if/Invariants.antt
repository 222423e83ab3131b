-- The copies so far.
use Rattle.std.proofs.Common.{◌≡◌, ◌∷◌, take, codes}
use Rattle.ifs_lex.specs.declared.token.What.TheVariants.{Word}
use Rattle.ifs_claim_parse.specs.Conditions.{whats}
use Rattle.ifs_claim_parse.proofs.copying.behind_if.Given as goal

abbrev pub invariant-loop-token : goal.invariant-loop-token
invariant-loop-token l = whats l.made.items ≡ Word (codes "if") ∷ whats (take l.token-index l.tokens)
