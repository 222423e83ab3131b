-- Results of the functions that read, compared with the definition of reading.
use Rattle.std.specs.Prelude.{◌≡◌, ◌≢◌, Result, Ok, Err, MatchResult}
use Rattle.ifs_image.specs.declared.fault.ImageFault.{ImageFault}
use Rattle.ifs_image.specs.declared.fault.ImageFault.TheVariants.{Memory}
use Rattle.ifs_image.specs.Reading.{Cursor, Read, head_at}

-- A fault is that of reading, or a failed allocation.
abbrev pub IsFaultOf : {Y : Type 0} → Result Y ImageFault → ImageFault → Type 0
IsFaultOf read fault = fault ≢ Memory → read ≡ Err fault

-- A result, seen by view, and the place after it are those of reading, unless an allocation fails.
abbrev pub GivesBy : {X Y : Type 0} → (X → Y) → Result X ImageFault → Cursor → Read Y → Type 0
GivesBy view result after read = MatchResult result (λ x. read ≡ Ok (view x, after)) (IsFaultOf read)

-- The same of the result itself.
abbrev pub Gives : {X : Type 0} → Result X ImageFault → Cursor → Read X → Type 0
Gives result after read = GivesBy (λ x. x) result after read

-- A result is that of reading all bytes, unless an allocation fails.
abbrev pub Answers : {X : Type 0} → Result X ImageFault → Result X ImageFault → Type 0
Answers result read = MatchResult result (λ x. read ≡ Ok x) (IsFaultOf read)

-- A result, seen by view, and the place after it are those of reading, for a function that does not allocate.
abbrev pub GivesAtOnceBy : {X Y : Type 0} → (X → Y) → Result X ImageFault → Cursor → Read Y → Type 0
GivesAtOnceBy view result after read = MatchResult result (λ x. read ≡ Ok (view x, after)) (λ fault. (read ≡ Err fault) × (fault ≢ Memory))

-- The same of the result itself.
abbrev pub GivesAtOnce : {X : Type 0} → Result X ImageFault → Cursor → Read X → Type 0
GivesAtOnce result after read = GivesAtOnceBy (λ x. x) result after read

-- If a field before the tables has a fault, the result is that fault, even if an allocation fails.
abbrev pub RefusesHead : {X : Type 0} → Result X ImageFault → Cursor → Type 0
RefusesHead result place = (fault : ImageFault) → head_at place ≡ Err fault → (result ≡ Err fault) × (fault ≢ Memory)
