-- What is asked of the values of tests.
use Rattle.std.proofs.Common.{◌≡◌, ◌≢◌, refl, sym, subst, Bool, true, List, [], ◌∷◌, MatchBool}
use Rattle.std.specs.List.{list_any}
use Rattle.ifs_lex.specs.declared.token.Token.{Token}
use Rattle.ifs_parse.specs.Trees as tree
use Rattle.ifs_policy.specs.declared.policy.Single.{Single}
use Rattle.ifs_policy.specs.declared.tables.Tables.{Tables}
use Rattle.ifs_claim_parse.specs.declared.claim.Values.{Values}
use Rattle.ifs_claim_parse.specs.declared.claim.Values.TheVariants.{Any, Known, Unknown}
use Rattle.ifs_claim_parse.specs.Conditions.{IsCondition, IsPremise, by_itself, behind_known, behind_unknown}
use Rattle.ifs_claim_parse.specs.inner.Asked.{BeginWithValues, IsAskable}

-- Anything is in a list exactly if it is not empty.
pub any_is_some : {X : Type 0} (xs : List X) (found : Bool) → found ≡ list_any (λ _. true) xs → MatchBool found (xs ≢ []) (¬ (xs ≢ []))
any_is_some [] found is = rw is (λ some. some refl)
any_is_some (x ∷ xs) found is = rw is (λ empty. cc)

-- The word, if there is one, and the condition behind it.
pub is_premise : (tables : Tables) (values : Values) (tokens rest : List Token) (c : tree.Condition Single) → BeginWithValues values tokens rest → IsCondition tables rest c
    → IsAskable values c → IsPremise tables tokens (record { values = values; condition = c })
is_premise tables Any tokens rest c begins said asked =
    subst (λ (l : List Token). IsPremise tables l (record { values = Any; condition = c })) begins (by_itself rest c said)
is_premise tables Known tokens rest c begins said asked =
    subst (λ (l : List Token). IsPremise tables l (record { values = Known; condition = c })) (sym begins.whole) (behind_known begins.token rest c begins.is said asked)
is_premise tables Unknown tokens rest c begins said asked =
    subst (λ (l : List Token). IsPremise tables l (record { values = Unknown; condition = c })) (sym begins.whole) (behind_unknown begins.token rest c begins.is said asked)
