-- The code of each policy keeps the limits, or exceeds exactly one first.
use Rattle.std.proofs.Common.{◌≡◌, ℕ, zero, suc, ◌+◌, ◌<◌, ◌≤◌, ◌⊎◌, inl, inr}
use Rattle.std.proofs.Common.{⊎_elim, List, [], ◌∷◌, Some, refl, ap, arith}
use Rattle.std.specs.Prelude.{slice_get, All, sum, sum_by}
use Rattle.std.proofs.lemmas.Bool.{cases_lt}
use Rattle.std.proofs.lemmas.List.Elements.{All-head, All-tail, All-cons, All-nil, recursion_from_All}
use Rattle.std.proofs.lemmas.List.Sums.{sum_by-cons}
use Rattle.std.proofs.lemmas.Option.{same_Some}
use Rattle.ifs_base.specs.declared.ids.RoutineId.{RoutineId}
use Rattle.ifs_gen.specs.declared.fault.GenFault.{GenFault}
use Rattle.ifs_gen.specs.declared.fault.GenFault.TheVariants.{RoutineTooLong, CodeTooLong}
use Rattle.ifs_gen.specs.declared.fault.GenFault.TheVariants.{StackTooHigh, TooManyCommands, Memory}
use Rattle.ifs_gen.specs.Trees.{Part, Policy}
use Rattle.ifs_gen.specs.PlainCode.{plain_coder, block_height}
use Rattle.ifs_gen.specs.PlainSizes.{test_count, parts_of, init_length, body_length}
use Rattle.ifs_gen.specs.PlainSizes.{part_height, room_of, PartCodeFits, CodeFits}
use Rattle.ifs_gen.specs.Refused.{lengths_of, heights_of, lengths, heights, AreWithin}
use Rattle.ifs_gen.specs.Refused.{IsFirstOver, PassesFirst, FitsOrIsRefused, OneLimitIsFirst}
use Rattle.ifs_gen.proofs.Among.{each_at}

-- The index of the first number that exceeds a limit.
record Over (limit : ℕ) (numbers : List ℕ) : Type 0 where
  index : ℕ
  first : IsFirstOver limit numbers index

pub one_later : (limit x : ℕ) (numbers : List ℕ) (index : ℕ) → x ≤ limit → IsFirstOver limit numbers index → IsFirstOver limit (x ∷ numbers) (suc index)
one_later limit x numbers index low first = record { number = first.number; at = first.at; over = first.over; before = earlier }
  where
    earlier : (i n : ℕ) → i < suc index → slice_get (x ∷ numbers) i ≡ Some n → n ≤ limit
    earlier zero n lt e = let same = same_Some x n e in omega (arith, same, low)
    earlier (suc i) n lt e = first.before i n (omega (arith, lt)) e

first_over : (limit : ℕ) (numbers : List ℕ) → AreWithin limit numbers ⊎ Over limit numbers
first_over limit [] = inl (All-nil (λ n. n ≤ limit))
first_over limit (x ∷ numbers) =
    ⊎_elim
    (λ over. inr (record { index = zero; first = record { number = x; at = refl; over = over; before = λ i n lt e. absurd (omega (arith, lt)) } }))
    (λ low. ⊎_elim
    (λ rest. inl (All-cons (λ n. n ≤ limit) x numbers low rest))
    (λ later. inr (record { index = suc later.index; first = one_later limit x numbers later.index low later.first }))
    (first_over limit numbers))
    (cases_lt limit x)

pub each_fits : (count : ℕ) (parts : List Part) → AreWithin 1024 (lengths_of count parts) → All (PartCodeFits count) parts
each_fits count [] h = All-nil (PartCodeFits count)
each_fits count (x ∷ parts) h =
    let rest = All-tail (λ n. n ≤ 1024) (init_length x) (body_length count x ∷ lengths_of count parts) h in
    All-cons (PartCodeFits count) x parts (record {
      init = All-head (λ n. n ≤ 1024) (init_length x) (body_length count x ∷ lengths_of count parts) h;
      body = All-head (λ n. n ≤ 1024) (body_length count x) (lengths_of count parts) rest;
    }) (each_fits count parts (All-tail (λ n. n ≤ 1024) (body_length count x) (lengths_of count parts) rest))

pub heights_fit : (parts : List Part) → AreWithin 32 (heights_of parts) → All (λ part. part_height part ≤ 32) parts
heights_fit [] h = All-nil (λ part. part_height part ≤ 32)
heights_fit (x ∷ parts) h =
    let init = block_height plain_coder x.init in
    let body = block_height plain_coder x.body in
    let first = All-head (λ n. n ≤ 32) init (body ∷ heights_of parts) h in
    let rest = All-tail (λ n. n ≤ 32) init (body ∷ heights_of parts) h in
    let second = All-head (λ n. n ≤ 32) body (heights_of parts) rest in
    All-cons (λ part. part_height part ≤ 32) x parts (omega (arith, first, second)) (heights_fit parts (All-tail (λ n. n ≤ 32) body (heights_of parts) rest))

pub sums_agree : (count : ℕ) (parts : List Part) → sum (lengths_of count parts) ≡ sum_by (λ part. init_length part + body_length count part) parts
sums_agree count [] = refl
sums_agree count (x ∷ parts) =
    let a = sum_by-cons (λ (n : ℕ). n) (init_length x) (body_length count x ∷ lengths_of count parts) in
    let b = sum_by-cons (λ (n : ℕ). n) (body_length count x) (lengths_of count parts) in
    let c = sum_by-cons (λ part. init_length part + body_length count part) x parts in
    let rest = sums_agree count parts in
    omega (arith, a, b, c, rest)

pub fits_or_is_refused : FitsOrIsRefused
fits_or_is_refused policy =
    let sums = sums_agree (test_count policy) (parts_of policy) in
    ⊎_elim
    (λ short. ⊎_elim
    (λ many. inr (CodeTooLong, (short, many)))
    (λ few. ⊎_elim
    (λ low. ⊎_elim
    (λ loud. inr (TooManyCommands, (short, few, low, loud)))
    (λ quiet. inl (record {
      each = each_fits (test_count policy) (parts_of policy) short;
      together = omega (arith, few, sums);
      height = heights_fit (parts_of policy) low;
      room = quiet;
    }))
    (cases_lt 64 (room_of policy)))
    (λ high. inr (StackTooHigh (record { 0 = high.index }), (short, few, high.first)))
    (first_over 32 (heights policy)))
    (cases_lt 8192 (sum (lengths policy))))
    (λ long. inr (RoutineTooLong (record { 0 = long.index }), long.first))
    (first_over 1024 (lengths policy))

-- No number exceeds a limit that all keep.
each_low : (limit : ℕ) (numbers : List ℕ) (index number : ℕ) → AreWithin limit numbers → slice_get numbers index ≡ Some number → number ≤ limit
each_low limit numbers index number within at = each_at (λ n. n ≤ limit) numbers index number (recursion_from_All (λ n. n ≤ limit) numbers within) at

none_over : (limit : ℕ) (numbers : List ℕ) (index : ℕ) → AreWithin limit numbers → ¬ IsFirstOver limit numbers index
none_over limit numbers index within first =
    let low = each_low limit numbers index first.number within first.at in
    let over = first.over in
    absurd (omega (arith, low, over))

lengths_low : (count : ℕ) (parts : List Part) → All (PartCodeFits count) parts → AreWithin 1024 (lengths_of count parts)
lengths_low count [] h = All-nil (λ n. n ≤ 1024)
lengths_low count (x ∷ parts) h =
    let fits = All-head (PartCodeFits count) x parts h in
    All-cons (λ n. n ≤ 1024) (init_length x) (body_length count x ∷ lengths_of count parts) fits.init
    (All-cons (λ n. n ≤ 1024) (body_length count x) (lengths_of count parts) fits.body (lengths_low count parts (All-tail (PartCodeFits count) x parts h)))

heights_low : (parts : List Part) → All (λ part. part_height part ≤ 32) parts → AreWithin 32 (heights_of parts)
heights_low [] h = All-nil (λ n. n ≤ 32)
heights_low (x ∷ parts) h =
    let low = All-head (λ part. part_height part ≤ 32) x parts h in
    let init = block_height plain_coder x.init in
    let body = block_height plain_coder x.body in
    All-cons (λ n. n ≤ 32) init (body ∷ heights_of parts) (omega (arith, low))
    (All-cons (λ n. n ≤ 32) body (heights_of parts) (omega (arith, low)) (heights_low parts (All-tail (λ part. part_height part ≤ 32) x parts h)))

-- Code that exceeds a limit does not keep the limits.
pub does_not_fit : (policy : Policy) (fault : GenFault) → PassesFirst policy fault → ¬ CodeFits policy
does_not_fit policy (RoutineTooLong routine) h code = none_over 1024 (lengths policy) routine.0 (lengths_low (test_count policy) (parts_of policy) code.each) h
does_not_fit policy CodeTooLong h code =
    let sums = sums_agree (test_count policy) (parts_of policy) in
    let many = h.1 in
    let few = code.together in
    absurd (omega (arith, sums, many, few))
does_not_fit policy (StackTooHigh routine) h code = none_over 32 (heights policy) routine.0 (heights_low (parts_of policy) code.height) h.2
does_not_fit policy TooManyCommands h code =
    let many = h.3 in
    let few = code.room in
    absurd (omega (arith, many, few))
does_not_fit policy Memory h code = h

-- The first number that exceeds a limit has one index.
one_first : (limit : ℕ) (numbers : List ℕ) (i j : ℕ) → IsFirstOver limit numbers i → IsFirstOver limit numbers j → i ≡ j
one_first limit numbers i j a b =
    ⊎_elim
    (λ less. let low = b.before i a.number less a.at in let over = a.over in absurd (omega (arith, low, over)))
    (λ no_less. ⊎_elim
    (λ more. let low = a.before j b.number more b.at in let over = b.over in absurd (omega (arith, low, over)))
    (λ no_more. omega (arith, no_less, no_more))
    (cases_lt j i))
    (cases_lt i j)

-- A number that keeps a limit does not exceed it.
few_and_many : (limit n : ℕ) → n ≤ limit → limit < n → ⊥
few_and_many limit n few many = omega (arith, few, many)

pub one_limit : OneLimitIsFirst
one_limit policy Memory other h k = absurd h
one_limit policy fault Memory h k = absurd k
one_limit policy (RoutineTooLong a) (RoutineTooLong b) h k = ap (λ (n : ℕ). let r : RoutineId = record { 0 = n } in RoutineTooLong r) (one_first 1024 (lengths policy) a.0 b.0 h k)
one_limit policy (RoutineTooLong a) other h k = absurd (none_over 1024 (lengths policy) a.0 k.0 h)
one_limit policy fault (RoutineTooLong b) h k = absurd (none_over 1024 (lengths policy) b.0 h.0 k)
one_limit policy CodeTooLong CodeTooLong h k = refl
one_limit policy CodeTooLong other h k = absurd (few_and_many 8192 (sum (lengths policy)) k.1 h.1)
one_limit policy fault CodeTooLong h k = absurd (few_and_many 8192 (sum (lengths policy)) h.1 k.1)
one_limit policy (StackTooHigh a) (StackTooHigh b) h k = ap (λ (n : ℕ). let r : RoutineId = record { 0 = n } in StackTooHigh r) (one_first 32 (heights policy) a.0 b.0 h.2 k.2)
one_limit policy (StackTooHigh a) TooManyCommands h k = absurd (none_over 32 (heights policy) a.0 k.2 h.2)
one_limit policy TooManyCommands (StackTooHigh b) h k = absurd (none_over 32 (heights policy) b.0 h.2 k.2)
one_limit policy TooManyCommands TooManyCommands h k = refl
