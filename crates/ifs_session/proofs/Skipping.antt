-- Skipping bytes one by one.
use Rattle.std.proofs.Common.{◌≡◌, ℕ, ◌+◌, ◌<◌, List, [], ◌∷◌, length, take, drop, get_or, Option, Some, None, Result}
use Rattle.std.proofs.Common.{Ok, refl, sym, subst, ap, ◌∙◌, arith}
use Rattle.std.proofs.lemmas.List.{drop_more}
use Rattle.std.specs.Io.KnownBytes.{Keeps, Consumes}
use Rattle.ifs_session.specs.declared.device.DeviceFault.{DeviceFault}
use Rattle.ifs_session.specs.Device.{NextGives, ReadyGives, MaySkip, SkipGives}
use Rattle.ifs_session.proofs.Known.{consumes_nothing, consumes_more, longer_front}

keeps_itself : (known : Option (List ℕ)) → Keeps known known
keeps_itself None = tt
keeps_itself (Some bytes) = refl

-- No byte was skipped yet.
pub nothing_skipped : (ready left : Option (List ℕ)) (faults : Option ℕ) → SkipGives 0 ready ready left left faults faults
nothing_skipped None left faults = (keeps_itself left, refl)
nothing_skipped (Some bytes) left faults = (refl, consumes_nothing left, refl)

-- The bytes that can be read without waiting, from the first of them.
first_ready : (result : Result (Option ℕ) DeviceFault) (byte : ℕ) (bytes : List ℕ) (now next : Option (List ℕ)) → now ≡ Some (byte ∷ bytes) → ReadyGives result now next
    → (result ≡ Ok (Some byte)) × (next ≡ Some bytes)
first_ready result byte bytes now next is gives = subst (λ n. ReadyGives result n next) is gives

-- One more byte was skipped.
pub one_skipped : (count i : ℕ) (result : Result (Option ℕ) DeviceFault) (ready now next left at after : Option (List ℕ)) (faults same more : Option ℕ)
    → MaySkip count ready → i < count → SkipGives i ready now left at faults same
    → NextGives result at after same more → ReadyGives result now next
    → SkipGives (i + 1) ready next left after faults more
one_skipped count i result None now next left at after faults same more may below so_far gives at_once = absurd (omega (arith, may))
one_skipped count i result (Some bytes) now next left at after faults same more may below so_far gives at_once =
    let within : i < length bytes = omega arith in
    let first = first_ready result (get_or bytes i 0) (drop (i + 1) bytes) now next (so_far.0 ∙ ap Some (drop_more bytes i 0 within)) at_once in
    let given = subst (λ r. NextGives r at after same more) first.0 gives in (
      first.1,
      subst (λ t. Consumes left after t) (sym (longer_front bytes i within)) (consumes_more left at after (take i bytes) (get_or bytes i 0 ∷ []) so_far.1 given.0),
      given.1 ∙ so_far.2,
    )
