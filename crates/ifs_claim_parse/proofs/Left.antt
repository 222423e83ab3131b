-- The next tokens of a line.
use Rattle.std.proofs.Common.{◌≡◌, ◌≢◌, ◌∙◌, sym, ap, subst, ℕ, List, [], ◌∷◌, ◌++◌, append_assoc, Some, Result, Ok, Err}
use Rattle.std.specs.Result.{IfOk}
use Rattle.ifs_base.specs.declared.ids.CommandId.{CommandId}
use Rattle.ifs_base.specs.declared.ids.StateId.{StateId}
use Rattle.ifs_lex.specs.declared.token.Token.{Token}
use Rattle.ifs_policy.specs.declared.tables.Tables.{Tables}
use Rattle.ifs_claim_parse.specs.declared.claim.Claim.{Claim}
use Rattle.ifs_claim_parse.specs.declared.fault.LineFault.{LineFault}
use Rattle.ifs_claim_parse.specs.declared.keyword.Keyword.{Keyword}
use Rattle.ifs_claim_parse.specs.inner.Left.{Begins, BeginsWith, BeginWith, BeginsWithName, BeginsWithState, BeginsWithCommand, Behind}
use Rattle.std.specs.List.{slice_get, AllZip}

-- What is said behind a word is said of all tokens.
pub taken : (Say : List Token → Claim → Type 0) (found word : Keyword) (tokens rest : List Token) → Begins found tokens rest → found ≡ word → (r : Result Claim LineFault)
    → IfOk r (λ claim. Behind word Say rest claim) → IfOk r (λ claim. Say tokens claim)
taken Say found word tokens rest begins same (Ok claim) h =
    subst (λ (l : List Token). Say l claim) (sym begins.whole) (h begins.token (begins.is ∙ ap (λ (k : Keyword). Some k) same))
taken Say found word tokens rest begins same (Err fault) h = tt

-- A name that is a state's.
pub with_state : (tables : Tables) (name : List ℕ) (tokens rest : List Token) (state : StateId) → BeginsWithName name tokens rest → slice_get tables.states state.0 ≡ Some name
    → BeginsWithState tables tokens state rest
with_state tables name tokens rest state begins known = record { token = begins.token; whole = begins.whole; is = record { name = name; named = begins.is; known = known } }

-- A text that is a command's.
pub with_command : (tables : Tables) (text : List ℕ) (tokens rest : List Token) (command : CommandId) → BeginsWithName text tokens rest
    → slice_get tables.commands command.0 ≡ Some text → BeginsWithCommand tables tokens command rest
with_command tables text tokens rest command begins known = record { token = begins.token; whole = begins.whole; is = record { text = text; named = begins.is; known = known } }

module _ {X : Type 0} (Stands : Token → X → Type 0) where
  are_more : (names : List Token) (values : List X) (token : Token) (value : X) → AllZip Stands names values → Stands token value
      → AllZip Stands (names ++ token ∷ []) (values ++ value ∷ [])
  are_more [] [] token value h k = (k, tt)
  are_more [] (x ∷ xs) token value h k = absurd h
  are_more (n ∷ ns) [] token value h k = absurd h
  are_more (n ∷ ns) (x ∷ xs) token value h k = (h.0, are_more ns xs token value h.1 k)

  -- The first value.
  pub first_value : (tokens rest : List Token) (value : X) (none values : List X) → BeginsWith Stands tokens value rest → none ≡ [] → values ≡ none ++ value ∷ []
      → BeginWith Stands tokens values rest
  first_value tokens rest value none values begins empty added = record {
    names = begins.token ∷ [];
    whole = begins.whole;
    are = subst (AllZip Stands (begins.token ∷ [])) (sym (added ∙ ap (λ (l : List X). l ++ value ∷ []) empty)) (begins.is, tt);
  }

  -- One more value.
  pub next_value : (tokens left rest : List Token) (value : X) (values values' : List X) → BeginWith Stands tokens values left
      → BeginsWith Stands left value rest → values' ≡ values ++ value ∷ [] → BeginWith Stands tokens values' rest
  next_value tokens left rest value values values' before begins added = record {
    names = before.names ++ begins.token ∷ [];
    whole = before.whole ∙ ap (λ (l : List Token). before.names ++ l) begins.whole ∙ sym (append_assoc before.names (begins.token ∷ []) rest);
    are = subst (AllZip Stands (before.names ++ begins.token ∷ [])) (sym added) (are_more before.names values begins.token value before.are begins.is);
  }

module _ {X : Type 0} where
  some_by : (xs : List X) (x : X) → xs ++ x ∷ [] ≡ [] → ⊥
  some_by [] x e = cc
  some_by (y ∷ xs) x e = cc

  -- A list with one more value is not empty.
  pub some_pushed : (xs ys : List X) (x : X) → ys ≡ xs ++ x ∷ [] → ys ≢ []
  some_pushed xs ys x added empty = some_by xs x (sym added ∙ empty)
