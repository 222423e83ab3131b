-- One turn of a loop over the parts of a repetition.
use Rattle.std.proofs.Common.{◌≡◌, ℕ, suc, ◌+◌, ◌-◌, ◌<◌, sym, ap, ◌∙◌, arith, Ok, Err, Option, Some, None}
use Rattle.std.specs.Option.{option_map_or}
use Rattle.std.specs.Prelude.{Result}
use Rattle.ifs_base.specs.Results.{◌>>=◌}
use Rattle.ifs_parse.specs.declared.fault.ParseFault.{ParseFault}
use Rattle.ifs_parse.specs.inner.Combined.{Progress, Parse, many_from}

module _ {A X : Type 0} (part : Parse (Option X)) (add : A → X → A) where
  -- The next turn.
  turn : (n e i : ℕ) → i < e → e - i ≡ suc n → (a : A) (s : Progress)
      → many_from part add (e - i) a s ≡ (part s >>= λ r. option_map_or (λ x. many_from part add n (add a x) r.1) r.0 (Ok (a, r.1)))
  turn n e i less same a s = ap (λ m. many_from part add m a s) same

  after_turn : (e i : ℕ) → i < e → e - i ≡ suc (e - (i + 1))
  after_turn e i less = omega arith

  pub turn_goes : (e i : ℕ) (a : A) (s t : Progress) (x : X) (w : Result (A × Progress) ParseFault)
      → i < e → part s ≡ Ok (Some x, t) → many_from part add (e - i) a s ≡ w → many_from part add (e - (i + 1)) (add a x) t ≡ w
  turn_goes e i a s t x w less goes so_far =
      sym (ap (λ r. r >>= λ r. option_map_or (λ x. many_from part add (e - (i + 1)) (add a x) r.1) r.0 (Ok (a, r.1))) goes)
      ∙ sym (turn (e - (i + 1)) e i less (after_turn e i less) a s) ∙ so_far

  pub turn_ends : (e i : ℕ) (a : A) (s t : Progress) (w : Result (A × Progress) ParseFault)
      → i < e → part s ≡ Ok (None, t) → many_from part add (e - i) a s ≡ w → w ≡ Ok (a, t)
  turn_ends e i a s t w less ends so_far =
      sym so_far ∙ turn (e - (i + 1)) e i less (after_turn e i less) a s
      ∙ ap (λ r. r >>= λ r. option_map_or (λ x. many_from part add (e - (i + 1)) (add a x) r.1) r.0 (Ok (a, r.1))) ends

  pub turn_fails : (e i : ℕ) (a : A) (s : Progress) (f : ParseFault) (w : Result (A × Progress) ParseFault)
      → i < e → part s ≡ Err f → many_from part add (e - i) a s ≡ w → w ≡ Err f
  turn_fails e i a s f w less fails so_far =
      sym so_far ∙ turn (e - (i + 1)) e i less (after_turn e i less) a s
      ∙ ap (λ r. r >>= λ r. option_map_or (λ x. many_from part add (e - (i + 1)) (add a x) r.1) r.0 (Ok (a, r.1))) fails
