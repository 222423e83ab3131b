-- Limits within which no token goes on.
use Rattle.std.proofs.Common.{◌≡◌, ℕ, ◌≤◌, ◌+◌, refl, sym, subst, ◌∙◌, Bool, true, Ok, Err, List, ◌∷◌, ◌++◌, arith}
use Rattle.std.specs.Prelude.{Result}
use Rattle.ifs_lex.specs.declared.token.Token.{Token}
use Rattle.ifs_lex.specs.declared.token.TokenPlace.{TokenPlace}
use Rattle.ifs_parse.specs.declared.fault.ParseFault.{ParseFault}
use Rattle.ifs_parse.specs.declared.fault.ParseFault.TheVariants.{Unexpected, Period, Nesting, Memory}
use Rattle.ifs_parse.specs.Files.{File}
use Rattle.ifs_parse.specs.Words.{fits_period}
use Rattle.ifs_parse.specs.inner.Reading.{read_within}
use Rattle.ifs_parse.specs.Grammar.{NoneGoesOn, NoHelp, any_period}
use Rattle.ifs_parse.proofs.Wider.{Alike, follows_read}
use Rattle.ifs_parse.proofs.Whole.{says_read}

module _ (front : List Token) (token : Token) (fault : ParseFault) (same : (w : List Token) → read_within fits_period 32 (front ++ token ∷ w) ≡ Err fault) where
  -- Nothing goes on within limits on which the fault does not depend.
  none_goes_on : (fits top : ℕ → Bool) (room great : ℕ) → ((n : ℕ) → fits n ≡ true → top n ≡ true) → room ≤ great → ((n : ℕ) → fits_period n ≡ true → top n ≡ true) → 32 ≤ great
      → ((place : TokenPlace) (n : ℕ) → Period place ≡ fault → top n ≡ fits_period n) → ((place : TokenPlace) → Nesting place ≡ fault → great ≡ 32) → NoneGoesOn fits room front token
  none_goes_on fits top room great wider less from more periods nested = λ w other said.
      let good : read_within top great (front ++ token ∷ w) ≡ Ok other =
      subst (λ (r : Result File ParseFault). Alike (λ f. ⊥) r (read_within top great (front ++ token ∷ w))) (says_read fits room (front ++ token ∷ w) other said)
      (follows_read (λ f. ⊥) fits top wider (λ place n k. absurd k) room great less (λ place k. absurd k) (front ++ token ∷ w)) in
      let bad : read_within top great (front ++ token ∷ w) ≡ Err fault =
      subst (λ (r : Result File ParseFault). Alike (λ f. f ≡ fault) r (read_within top great (front ++ token ∷ w))) (same w)
      (follows_read (λ f. f ≡ fault) fits_period top from periods 32 great more nested (front ++ token ∷ w)) refl in
      let clash = sym good ∙ bad in absurd (cc)

pub no_help_at : (front : List Token) (token : Token) (fault : ParseFault) → ((w : List Token) → read_within fits_period 32 (front ++ token ∷ w) ≡ Err fault) → NoHelp fault front token
no_help_at front token (Unexpected place) same = λ fits room.
    none_goes_on front token (Unexpected place) same fits any_period room (32 + room) (λ n h. refl) (omega arith) (λ n h. refl) (omega arith) (λ place n k. absurd (cc)) (λ place k. absurd (cc))
no_help_at front token (Period place) same = λ room.
    none_goes_on front token (Period place) same fits_period fits_period room (32 + room) (λ n h. h) (omega arith) (λ n h. h) (omega arith) (λ place n k. refl) (λ place k. absurd (cc))
no_help_at front token (Nesting place) same = λ fits.
    none_goes_on front token (Nesting place) same fits any_period 32 32 (λ n h. refl) (omega arith) (λ n h. refl) (omega arith) (λ place n k. absurd (cc)) (λ place k. refl)
no_help_at front token Memory same = tt
