-- A text has no policy if one of the steps rejects it.
use Rattle.std.proofs.Common.{◌≡◌, ◌≢◌, ℕ, List, refl, sym, ap, subst, ◌∙◌, Result, Ok, Err}
use Rattle.ifs_lex.specs.declared.token.Token.{Token}
use Rattle.ifs_lex.specs.Expansion as lex
use Rattle.ifs_lex.specs.declared.fault.LexFault.{LexFault}
use Rattle.ifs_lex.specs.declared.fault.LexFault.TheVariants as lexing
use Rattle.ifs_parse.specs.Files.{File}
use Rattle.ifs_parse.specs.Grammar.{Says, StopsAt}
use Rattle.ifs_parse.specs.declared.fault.ParseFault.{ParseFault}
use Rattle.ifs_parse.specs.declared.fault.ParseFault.TheVariants as parsing
use Rattle.ifs_policy.specs.Resolution.{Resolves}
use Rattle.ifs_policy.specs.Faults as names
use Rattle.ifs_policy.specs.declared.fault.ResolveFault.{ResolveFault}
use Rattle.ifs_policy.specs.declared.fault.ResolveFault.TheVariants as resolving
use Rattle.ifs_policy.specs.declared.front.PolicyFault.{PolicyFault}
use Rattle.ifs_policy.specs.declared.front.PolicyFault.TheVariants.{Memory}
use Rattle.ifs_policy.specs.declared.policy.PolicyParts.{PolicyParts}
use Rattle.ifs_policy.specs.Texts.{HasPolicy, HasNoPolicy, IsTextRefused, of_text, of_tokens, of_names}

-- Laws of the crates below.
abbrev pub OneList : Type 0
OneList = (text : List ℕ) (defs : List (List ℕ × List ℕ)) (tokens other : List Token) → lex.HasTokens text defs tokens → lex.HasTokens text defs other → tokens ≡ other

abbrev pub OneTree : Type 0
OneTree = (tokens : List Token) (file other : File) → Says tokens file → Says tokens other → file ≡ other

-- A fault other than a failed allocation is the first one of the text.
abbrev pub Refuses : List ℕ → List (List ℕ × List ℕ) → PolicyFault → Type 0
Refuses text defs fault = fault ≢ Memory → IsTextRefused text defs fault

-- Results of a call: a value, or an error.
abbrev ok : {A : Type 0} (E : Type 0) → A → Result A E
ok E value = Ok value

abbrev err : {E : Type 0} (A : Type 0) → E → Result A E
err A fault = Err fault

-- Two errors that are the same result are the same error.
pub same_error : {A E F : Type 0} (of : E → F) (returned fault : E) → err A returned ≡ Err fault → of returned ≡ of fault
same_error of returned fault e = let same : returned ≡ fault = cc in ap of same

-- A value is no error.
pub not_error : {A B E : Type 0} (value : A) (fault : E) → ok E value ≡ Err fault → B
not_error value fault e = absurd (cc)

module _ (text : List ℕ) (defs : List (List ℕ × List ℕ)) where
  no_tokens : (fault : LexFault) → lex.tokens_of text defs ≡ Err fault → HasNoPolicy text defs
  no_tokens fault e policy h = let k = sym e ∙ h.spelled in absurd (cc)

  pub refused_text : (fault : LexFault) → (fault ≢ lexing.Memory → lex.tokens_of text defs ≡ Err fault) → Refuses text defs (of_text fault)
  refused_text lexing.Memory e other = absurd (other refl)
  refused_text fault e other = (no_tokens fault (e (λ k. absurd (cc))), e (λ k. absurd (cc)))

  -- For the tokens that the text spells.
  module _ (one_list : OneList) (tokens : List Token) (spelled : lex.HasTokens text defs tokens) where
    said_by : (policy : PolicyParts) (h : HasPolicy text defs policy) → Says tokens h.file
    said_by policy h = subst (λ (ts : List Token). Says ts h.file) (one_list text defs h.tokens tokens h.spelled spelled) h.said

    pub refused_tokens : (fault : ParseFault) → (fault ≢ parsing.Memory → StopsAt tokens fault) → (fault ≢ parsing.Memory → (file : File) → ¬ Says tokens file) → Refuses text defs (of_tokens fault)
    refused_tokens parsing.Memory e none other = absurd (other refl)
    refused_tokens fault e none other = ((λ policy h. none (λ k. absurd (cc)) h.file (said_by policy h)), (tokens, spelled, e (λ k. absurd (cc))))

    module _ (one_tree : OneTree) (file : File) (said : Says tokens file) where
      resolved_by : (policy : PolicyParts) → HasPolicy text defs policy → Resolves file.items policy
      resolved_by policy h = subst (λ (f : File). Resolves f.items policy) (one_tree tokens h.file file (said_by policy h) said) h.resolved

      pub refused_names : (fault : ResolveFault) → (fault ≢ resolving.Memory → names.IsTreeRefused file.items fault)
          → (fault ≢ resolving.Memory → (policy : PolicyParts) → ¬ Resolves file.items policy) → Refuses text defs (of_names fault)
      refused_names resolving.Memory e none other = absurd (other refl)
      refused_names fault e none other = ((λ policy h. none (λ k. absurd (cc)) policy (resolved_by policy h)), (tokens, file, spelled, said, e (λ k. absurd (cc))))
