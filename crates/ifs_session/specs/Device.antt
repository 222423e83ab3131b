-- Devices: what readers and writers of bytes report of their bytes and failures.
use Rattle.std.specs.Prelude.{◌≡◌, ℕ, ◌+◌, ◌-◌, ◌^◌, ◌≤◌, min, List, [], ◌∷◌, ◌++◌, length, take, drop, Option, Some}
use Rattle.std.specs.Prelude.{None, Result, Ok, Err, MatchResult}
use Rattle.std.specs.Option.{option_map}
use Rattle.std.specs.Io.KnownBytes.{append_known, Keeps, Consumes, IsAtEnd}
use Rattle.ifs_session.specs.declared.device.DeviceFault.{DeviceFault}

-- A number of failures after one more. It stays at its greatest value, 2 ^ 64 - 1.
abbrev pub one_more : ℕ → ℕ
one_more faults = min (faults + 1) (2 ^ 64 - 1)

-- A device's number of failures after one more, if it reports them.
abbrev pub counted : Option ℕ → Option ℕ
counted faults = option_map one_more faults

-- The result of reading a byte, with the bytes left and the failures before and after.
abbrev pub NextGives : Result (Option ℕ) DeviceFault → Option (List ℕ) → Option (List ℕ) → Option ℕ → Option ℕ → Type 0
NextGives (Ok (Some byte)) left left' faults faults' = Consumes left left' (byte ∷ []) × (faults' ≡ faults)
NextGives (Ok None) left left' faults faults' = Keeps left left' × IsAtEnd left' × (faults' ≡ faults)
NextGives (Err fault) left left' faults faults' = Keeps left left' × (faults' ≡ counted faults)

-- The result of reading a byte, with the bytes that can be read without waiting before and after. If there are any, the first of them is returned.
abbrev pub ReadyGives : Result (Option ℕ) DeviceFault → Option (List ℕ) → Option (List ℕ) → Type 0
ReadyGives result (Some (byte ∷ bytes)) ready' = (result ≡ Ok (Some byte)) × (ready' ≡ Some bytes)
ReadyGives result (Some []) ready' = Unit {0}
ReadyGives result None ready' = Unit {0}

-- These bytes are the first of those that can be read without waiting, or none if these are not reported.
abbrev pub AreAtHand : List ℕ → Option (List ℕ) → Type 0
AreAtHand bytes None = bytes ≡ []
AreAtHand bytes (Some ready) = (rest : List ℕ) × (ready ≡ bytes ++ rest)

-- This number of bytes can be read without waiting.
abbrev pub MaySkip : ℕ → Option (List ℕ) → Type 0
MaySkip count None = count ≡ 0
MaySkip count (Some ready) = count ≤ length ready

-- This number of bytes that can be read without waiting was skipped.
abbrev pub SkipGives : ℕ → Option (List ℕ) → Option (List ℕ) → Option (List ℕ) → Option (List ℕ) → Option ℕ → Option ℕ → Type 0
SkipGives count None ready' left left' faults faults' = Keeps left left' × (faults' ≡ faults)
SkipGives count (Some ready) ready' left left' faults faults' =
    (ready' ≡ Some (drop count ready)) × Consumes left left' (take count ready) × (faults' ≡ faults)

-- A writer holds nothing back, if it reports what it holds back.
abbrev pub HoldsNothing : Option (List ℕ) → Type 0
HoldsNothing None = Unit {0}
HoldsNothing (Some bytes) = bytes ≡ []

-- The bytes left and the number of failures of a reader, if it reports them.
pub record Feed : Type 0 where
  pub left : Option (List ℕ)
  pub faults : Option ℕ

-- The bytes written, the bytes held back, and the number of failures of a writer, if it reports them.
pub record Sink : Type 0 where
  pub written : Option (List ℕ)
  pub held : Option (List ℕ)
  pub faults : Option ℕ

-- The result of writing bytes, with the bytes written and the failures before and after. After a failure the bytes written are not known.
abbrev pub PutGives : {X E : Type 0} → Result X E → List ℕ → Option (List ℕ) → Option (List ℕ) → Option ℕ → Option ℕ → Type 0
PutGives result bytes written written' faults faults' =
    MatchResult result (λ _. (written' ≡ append_known written bytes) × (faults' ≡ faults)) (λ _. faults' ≡ counted faults)
